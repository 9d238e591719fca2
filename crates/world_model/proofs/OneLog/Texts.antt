-- Whatever list explains a world begins with what each checkpoint, and each part that was sent, is the text of, and with what each node
-- stands for.
use Rattle.std.proofs.Common.{◌≡◌, ℕ, ◌≤◌, List, length, take, Some, Contains, slice_get, inl, refl, sym, ap, ◌∙◌, subst}
use Rattle.std.proofs.lemmas.Option.{slice_get_read}
use Rattle.stable.specs.Records.{Records}
use Rattle.stable.specs.Script.{Script, Write}
use Rattle.stable.specs.declared.key.Key.TheVariants as key
use Rattle.wire.specs.RecordForms.{checkpoint_bytes}
use Rattle.sessions.specs.Snapshots.{IsSnapshot}
use Rattle.sessions.specs.Standing.{StandsFor}
use Rattle.sessions.specs.declared.command.Command.{Command}
use Rattle.node_model.specs.Composition.{executed_from}
use Rattle.node_model.specs.Replicas.{ReplicaState, position}
use Rattle.node_model.specs.States.{NodeState}
use Rattle.node_model.proofs.Meanings.{as_many}
use Rattle.world_model.specs.declared.lists.LearntEntry.{LearntEntry}
use Rattle.world_model.specs.Explaining.{Explains}
use Rattle.world_model.specs.Safety.{IsTextOfFirst, HasTexts, HasParts, StandsForFirst, NodesStand, writes_of}
use Rattle.world_model.specs.Telling.{WereLearnt, TellsText, TellsPiece, ReplicaIsBacked, WorldIsBacked}
use Rattle.world_model.specs.Worlds.{WorldState}
use Rattle.world_model.proofs.OneLog.Explained.{IsBeginning, begins_with}
use Rattle.world_model.proofs.Refinement.OfTheRun.{node_of}
use Rattle.world_model.proofs.OneLog.Tellings.{known_of, out_of_map}

-- the list has what was learnt
abbrev HasLearnt : List Command → List LearntEntry → Type 0
HasLearnt l learnt = (t : LearntEntry) → Contains learnt t → slice_get l t.slot ≡ Some t.command

begins_so : (l : List Command) (learnt : List LearntEntry) → HasLearnt l learnt → (log : List Command) → WereLearnt learnt log
    → IsBeginning log l
begins_so l learnt has log known i c e =
    let was = known i c e in
    subst (λ (j : ℕ). slice_get l j ≡ Some c) was.at (has was.entry was.there ∙ ap (λ (d : Command). Some d) was.holds)

-- a text that is told is that of its first entries
text_explained : (l : List Command) (learnt : List LearntEntry) (at : ℕ) (text : List ℕ) → HasLearnt l learnt → TellsText learnt at text
    → IsTextOfFirst l at text
text_explained l learnt at text has t =
    let first = begins_with t.log l (begins_so l learnt has t.log t.known) in
    record {
      there = subst (λ (n : ℕ). n ≤ length l) t.length_ first.0;
      is = subst (λ (xs : List Command). IsSnapshot xs text) (sym (ap (λ (n : ℕ). take n l) (sym t.length_) ∙ first.1)) t.is;
    }

-- a node stands for its first entries, as many as its position says, whether it learnt them or began with their text
node_explained : (l : List Command) (learnt : List LearntEntry) (m : ReplicaState) → HasLearnt l learnt → ReplicaIsBacked learnt m → StandsForFirst l m
node_explained l learnt m has k =
    let log : List Command = executed_from k.base m in
    let first = begins_with log l (begins_so l learnt has log (known_of learnt m k)) in
    let many : length log ≡ position m = as_many k.base m k.meaning in
    record {
      there = subst (λ (n : ℕ). n ≤ length l) many first.0;
      stands = subst (λ (xs : List Command). StandsFor m.machine xs) (sym (ap (λ (n : ℕ). take n l) (sym many) ∙ first.1)) k.meaning.stands;
    }

module _ {S : Type 0} (contents : Script S → Records) (w : WorldState S) (tells : WorldIsBacked contents w) (l : List Command)
    (explains : Explains l w.submitted w.learnt w.replies w.answers) where
  pub texts_explained : HasTexts l (writes_of w.nodes)
  texts_explained writes c listed fits put =
      let of = out_of_map (λ (n : NodeState (Script S)). n.storage.writes) w.nodes writes listed in
      let at : ℕ = of.1.0 in
      let here : slice_get w.nodes at ≡ Some of.0 = slice_get_read w.nodes (length w.nodes) at of.0 refl of.1.1 (sym of.1.2) in
      text_explained l w.learnt c.position c.text explains.entered
      (tells.texts at of.0 here c fits (inl (subst (λ (ws : List Write). Contains ws (key.Checkpoint, checkpoint_bytes c)) (sym of.2) put)))

  pub parts_explained : HasParts l w.frames
  parts_explained e p sent brings =
      let part : TellsPiece w.learnt p = tells.parts e p sent brings in
      record { text = part.text; first = text_explained l w.learnt p.position part.text explains.entered part.told; is = part.is }

  pub nodes_explained : NodesStand l w
  nodes_explained i m e =
      let n = node_of (slice_get w.nodes i) m e in
      node_explained l w.learnt m explains.entered (tells.knows i n.0 m n.1 n.2)
