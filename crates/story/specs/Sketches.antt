-- What a picture of a run shows.
use Rattle.std.specs.Prelude.{◌≡◌, ℕ, List, Option, length, map}
use Rattle.diagram.specs.Pictures.{IsWhole, ShowsAsked}
use Rattle.diagram.specs.declared.scene.Label.{Label}
use Rattle.diagram.specs.declared.scene.Scene.{Scene}
use Rattle.world.specs.Seen.{world_of}
use Rattle.story.specs.declared.account.Account.{Account}
use Rattle.story.specs.declared.ledger.Ledger.{Ledger}
use Rattle.story.specs.declared.ledger.LineBegin.{LineBegin}
use Rattle.story.specs.Lines.{text_at, texts_in}
use Rattle.story.specs.Marking.{AreMarksOf}
use Rattle.story.specs.Passing.{ArePassages, AreSent}

-- the scene is the run's: its nodes and steps, each frame, whether it waits, and when it was sent and came
pub record IsSceneOf (l : Ledger) (s : Scene) : Type 0 where
  pub nodes : s.nodes ≡ length (world_of l.world).nodes
  pub steps : s.steps ≡ length l.steps.items
  pub frames : s.frames.now ≡ (world_of l.world).frames
  pub waiting : s.waiting.now ≡ (world_of l.world).waiting
  pub passages : s.passages.now ≡ l.passages.items

-- what a label says, and at which step it stands
pub record Labelling : Type 0 where
  pub step : ℕ
  pub text : List ℕ

abbrev pub labelling : Label → Labelling
labelling l = record { step = l.step; text = l.text.items }

-- a line's label has its text in the file, and stands at the step with which the line begins
abbrev pub label_of : List (List ℕ) → LineBegin → Labelling
label_of texts l = record { step = l.step; text = text_at texts l.number }

-- each line has its label, in their order
pub record AreLabels (texts : List (List ℕ)) (lines : List LineBegin) (labels : List Label) : Type 0 where
  pub each : map labelling labels ≡ map (label_of texts) lines

-- the text is a picture of the run's frames that are asked for, and what it shows of when they were sent and came is so
pub record IsSketched (bytes : List ℕ) (l : Ledger) (from to : Option ℕ) (text : List ℕ) : Type 0 where
  pub scene : Scene
  pub is : IsSceneOf l scene
  pub whole : IsWhole scene
  pub came : ArePassages l.steps.items l.passages.items
  pub sent : AreSent (world_of l.world).frames l.steps.items l.passages.items
  pub labels : AreLabels (texts_in bytes) l.lines.items scene.labels.now
  pub marks : AreMarksOf l scene.marks.now
  pub shown : ShowsAsked scene from to text

pub record IsSketchOf (bytes : List ℕ) (l : Ledger) (from to : Option ℕ) (a : Account) : Type 0 where
  pub fault : a.fault ≡ l.fault
  pub text : IsSketched bytes l from to a.text.items
