-- The marks of a picture: what was done to a node and what happened there, each once and in order.
use Rattle.std.specs.Prelude.{◌≡◌, ℕ, List, [], ◌∷◌, ◌++◌, Option, Some, None, codes, decimal, map, slice_get}
use Rattle.diagram.specs.declared.scene.Mark.{Mark}
use Rattle.diagram.specs.declared.scene.Sign.{Sign}
use Rattle.diagram.specs.declared.scene.Sign.TheVariants.{Submitted, TimedOut, Learnt, Replied, Answered, Lost, Refused, Stopped, Restarted, Restored, Other}
use Rattle.replay.specs.Transcripts.{command_text}
use Rattle.sessions.specs.SessionReplies.{outcome_code}
use Rattle.world.specs.Seen.{world_of}
use Rattle.story.specs.Happenings.{Happening, answer_given, coming_at, frame_lost, frame_sent, happening, node_refused, node_stopped, reply_given, round_ended, slot_learnt, step_at, text_restored}
use Rattle.story.specs.Ledgers.{TellsRun}
use Rattle.story.specs.Wordings.{words_of}
use Rattle.story.specs.declared.deeds.Deed.{Deed}
use Rattle.story.specs.declared.deeds.Deed.TheVariants as deed
use Rattle.story.specs.declared.entries.Entry.{Entry}
use Rattle.story.specs.declared.entries.Entry.TheVariants as entry
use Rattle.story.specs.declared.ledger.Ledger.{Ledger}
use Rattle.story.specs.declared.ledger.Step.{Step}
use Rattle.story.specs.declared.marks.Marker.{Marker}

-- at which step a mark stands, of which node and with which sign, and its texts
pub record Marking : Type 0 where
  pub step : ℕ
  pub node : ℕ
  pub sign : Sign
  pub note : List ℕ
  pub title : List ℕ

abbrev pub marking : Mark → Marking
marking m = record { step = m.step; node = m.node; sign = m.sign; note = m.note.items; title = m.title.items }

-- ---- what is marked
abbrev pub told_mark : ℕ → ℕ → Sign → List ℕ → Happening → List Marking
told_mark step node sign note h = record { step = step; node = node; sign = sign; note = note; title = words_of h } ∷ []

-- what happened at a node at a step has a mark there
abbrev pub marks_of : ℕ → Happening → List Marking
marks_of step (frame_sent number from to facts) = []
marks_of step (slot_learnt e) = told_mark step e.node Learnt (decimal e.slot ++ (codes " " ++ command_text e.command)) (slot_learnt e)
marks_of step (reply_given e) = told_mark step e.node Replied (codes "reply " ++ decimal (outcome_code e.reply)) (reply_given e)
marks_of step (answer_given e) = told_mark step e.node Answered [] (answer_given e)
marks_of step (text_restored node position) = told_mark step node Restored [] (text_restored node position)
marks_of step (frame_lost number from to facts) = told_mark step to Lost [] (frame_lost number from to facts)
marks_of step (node_refused node fault) = told_mark step node Refused [] (node_refused node fault)
marks_of step (node_stopped node fault) = told_mark step node Stopped [] (node_stopped node fault)
marks_of step (round_ended node how) = told_mark step node Other [] (round_ended node how)

abbrev pub marks_if : ℕ → Option Happening → List Marking
marks_if step None = []
marks_if step (Some h) = marks_of step h

-- a request that comes, a time-out and a restart have one as well
abbrev pub done_mark : ℕ → ℕ → Sign → List ℕ → List Marking
done_mark step node sign words =
    record { step = step; node = node; sign = sign; note = []; title = codes "node " ++ (decimal node ++ (codes ": " ++ words)) } ∷ []

abbrev pub deed_marks : ℕ → Deed → List Marking
deed_marks step (deed.Submitted node) = done_mark step node Submitted (codes "a request comes")
deed_marks step (deed.TimedOut node) = done_mark step node TimedOut (codes "its patience ends")
deed_marks step (deed.Restarted node) = done_mark step node Restarted (codes "it restarts")
deed_marks step (deed.Delivered frame) = []
deed_marks step (deed.Dropped frame) = []
deed_marks step (deed.Other node) = []
deed_marks step deed.Flushed = []
deed_marks step deed.Ended = []

abbrev pub step_marks : ℕ → Option Step → List Marking
step_marks step None = []
step_marks step (Some s) = deed_marks step s.deed

-- ---- entry by entry
abbrev pub entry_marks : Ledger → ℕ → Entry → List Marking
entry_marks l step (entry.Step k) = step_marks k (slice_get l.steps.items k)
entry_marks l step (entry.Frame k) = []
entry_marks l step other = marks_if step (happening (world_of l.world) (coming_at l.steps.items step) other)

-- the entries have their marks, in their order, the last one at this step
pub data AreMarked (l : Ledger) : List Entry → ℕ → List Marking → Type 0 where
  none : AreMarked l [] 0 []
  next : (es : List Entry) (e : Entry) (step : ℕ) (ms : List Marking) → AreMarked l es step ms
      → AreMarked l (es ++ e ∷ []) (step_at step e) (ms ++ entry_marks l step e)

-- the marks are those of the list of what is told, and no other
pub record AreMarksOf (l : Ledger) (marks : List Mark) : Type 0 where
  pub entries : List Entry
  pub tells : TellsRun l entries
  pub last : ℕ
  pub marked : AreMarked l entries last (map marking marks)

-- ---- one mark more
-- at the same step there are these marks as well
pub record HasMarked (old new : Marker) (more : List Marking) : Type 0 where
  pub step : new.step ≡ old.step
  pub marks : map marking new.marks.items ≡ map marking old.marks.items ++ more
