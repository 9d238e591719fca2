-- Whatever a node makes of an input is a list of acts that the protocol allows.
use Rattle.std.proofs.Common.{◌≡◌, ◌⊎◌, ℕ, ◌<◌, ◌≤◌, inl, inr, List, [], ◌++◌, map, Bool, true, false, Option, Some, None, IfSome, IfOk}
use Rattle.std.proofs.Common.{IfErr, MatchBool, Result, Ok, Err, refl, sym, ap, subst, ◌∙◌, arith, append-nil}
use Rattle.synod.specs.History as history
use Rattle.synod.specs.Acts.{Local, Does}
use Rattle.synod.proofs.Doing.{does_nothing}
use Rattle.stable.specs.Records.{Records}
use Rattle.stable.specs.Script.{Script}
use Rattle.stable.specs.declared.stable.Stable.{Ghosts}
use Rattle.stable.specs.Storages.{IsLawful}
use Rattle.acceptor.specs.Accepting.{Accepting, OptionalWrite, records_after}
use Rattle.proposer.specs.Protocol.{stopping}
use Rattle.sessions.specs.declared.command.Command.{Command}
use Rattle.wire.specs.declared.frames.envelope.Envelope.{Envelope}
use Rattle.node_model.specs.declared.fault.NodeFault.{NodeFault}
use Rattle.node_model.specs.declared.fault.NodeFault.TheVariants as fault
use Rattle.node_model.specs.declared.input.Input.{Input}
use Rattle.node_model.specs.declared.input.Input.TheVariants.{Checkpoint}
use Rattle.node_model.specs.Faults.{is_stop_fault}
use Rattle.node_model.specs.Loading.{IsMember, IsReplicaOf}
use Rattle.node_model.specs.Replicas.{ReplicaState, refuses}
use Rattle.node_model.specs.Nodes.{NodeState, NodeSteps, TakesInput, RefusesInput, StopsOnInput, StorageStops}
use Rattle.node_model.specs.Outputs.{Response}
use Rattle.node_model.specs.Protocol.{membership, frame_of, input_of, learnings, submissions, InputFits, ReplicaStands, MayTake, MayStop, RecordsHold}
use Rattle.node_model.specs.Protocol.{HoldsRecords, accepting_after, round_after}
use Rattle.node_model.specs.Taking.{Writes}
use Rattle.node_model.proofs.AllowedStopping.{unwritten_allowed, written_allowed}
use Rattle.node_model.proofs.AllowedTaking.{taking_allowed}
use Rattle.node_model.proofs.RecordsGoOn.{written_holds, taken_holds}
use Rattle.node_model.proofs.RefusalLemmas.{refusal_goes_on}
use Rattle.world_model.specs.Reaching.{NodeStands}
use Rattle.world_model.proofs.OneNode.FloorLemmas.{floor_left, floor_then}
use Rattle.world_model.proofs.OneNode.StorageLaws.{written_honest, written_contents, failed_honest, failed_contents}

-- what a node said: the frames, what it learnt, what was submitted to it
abbrev pub sends_of : Result Response NodeFault → List Envelope
sends_of (Ok said) = said.sends
sends_of (Err f) = []

abbrev pub learnt_of : ℕ → Result Response NodeFault → List (history.Lesson Command)
learnt_of i (Ok said) = learnings i said.learnt
learnt_of i (Err f) = []

abbrev pub submitted_of : Input → Result Response NodeFault → List Command
submitted_of input (Ok said) = submissions input
submitted_of input (Err f) = []

-- no input but a checkpoint changes the floor
abbrev pub IsLevelOn : Input → ℕ → ℕ → Type 0
IsLevelOn input old new = (input ≡ Checkpoint) ⊎ (new ≡ old)

leveled : (input : Input) (old mid new : ℕ) → new ≡ mid → IsLevelOn input old mid → IsLevelOn input old new
leveled input old mid new same (inl checkpoint) = inl checkpoint
leveled input old mid new same (inr level) = inr (same ∙ level)

-- some allowed acts lead from x to what stands for the node then, and tell this
pub record NodeMoves {S : Type 0} (contents : Script S → Records) (nodes i : ℕ) (input : Input) (x : Local Command)
    (new : NodeState (Script S)) (result : Result Response NodeFault) : Type 0 where
  pub after : Local Command
  pub does : Does (membership nodes) i (input_of i nodes input) x after
  pub stands : NodeStands contents new after
  pub floor_ : IsLevelOn input x.records.floor after.records.floor
  pub sent : after.sent ≡ x.sent ++ map frame_of (sends_of result)
  pub learnt : after.learnt ≡ x.learnt ++ learnt_of i result
  pub submitted : after.submitted ≡ x.submitted ++ submitted_of input result

abbrev failed : NodeFault → Result Response NodeFault
failed f = Err f

abbrev took : Response → Result Response NodeFault
took said = Ok said

-- by other names of the same records
pub other_records : {a b : Records} {acceptor : Accepting} {round : ℕ} → b ≡ a → RecordsHold a acceptor round
    → RecordsHold b acceptor round
other_records {a} {b} {acceptor} {round} e h = subst (λ (r : Records). RecordsHold r acceptor round) (sym e) h

module _ {S : Type 0} {storages : Ghosts (Script S)} (laws : IsLawful storages)
    (nodes i : ℕ) (there : i < nodes) (few : nodes ≤ 7) where
  -- a node that has done nothing, with records that say the same
  rests : (input : Input) (x : Local Command) (new : NodeState (Script S)) (f : NodeFault) → NodeStands storages.contents new x
      → NodeMoves storages.contents nodes i input x new (Err f)
  rests input x new f stands = record {
    after = x;
    does = does_nothing (membership nodes) i (input_of i nodes input) x;
    stands = stands;
    floor_ = inr refl;
    sent = sym (append-nil x.sent);
    learnt = sym (append-nil x.learnt);
    submitted = sym (append-nil x.submitted);
  }

  -- a node that has gone down with these records
  stops : (input : Input) (x : Local Command) (new : NodeState (Script S)) (f : NodeFault) (a : Accepting) (round : ℕ) → new.up ≡ None
      → IsLevelOn input x.records.floor a.floor → RecordsHold (storages.contents new.storage) a round
      → MayStop nodes i (input_of i nodes input) x a round
      → NodeMoves storages.contents nodes i input x new (Err f)
  stops input x new f a round down level holds s = record {
    after = stopping x s.records;
    does = s.does;
    stands = record {
      records = record { acceptor = a; round = round; holds = holds; stands = s.stands };
      up = subst (λ (o : Option ReplicaState). IfSome o (λ m. HoldsRecords m (storages.contents new.storage) × ReplicaStands m (stopping x s.records)))
          (sym down) tt;
    };
    floor_ = leveled input x.records.floor a.floor _ s.stands.floor_ level;
    sent = sym (append-nil x.sent);
    learnt = sym (append-nil x.learnt);
    submitted = sym (append-nil x.submitted);
  }

  -- ---- a node that is up
  record StandsUp (old : NodeState (Script S)) (m : ReplicaState) (x : Local Command) : Type 0 where
    holds : HoldsRecords m (storages.contents old.storage)
    replica : ReplicaStands m x

  stands_up : (old : NodeState (Script S)) (m : ReplicaState) (x : Local Command) → old.up ≡ Some m → NodeStands storages.contents old x
      → StandsUp old m x
  stands_up old m x up stands =
      let both : HoldsRecords m (storages.contents old.storage) × ReplicaStands m x =
      subst (λ (o : Option ReplicaState). IfSome o (λ n. HoldsRecords n (storages.contents old.storage) × ReplicaStands n x)) up stands.up in
      record { holds = both.0; replica = both.1 }

  level_after : (m : ReplicaState) (input : Input) (x : Local Command) → ReplicaStands m x
      → IsLevelOn input x.records.floor (accepting_after m input).floor
  level_after m input x replica = elim (floor_left m input) [
    | inl checkpoint ↦ inl checkpoint
    | inr same ↦ inr (same ∙ sym replica.records.floor_)
  ]

  takes : (old new : NodeState (Script S)) (m : ReplicaState) (input : Input) (said : Response) (x : Local Command) → StandsUp old m x
      → IsReplicaOf i nodes m
      → InputFits input → refuses m input ≡ None → TakesInput storages old m input said new
      → storages.IsHonest new.storage → NodeMoves storages.contents nodes i input x new (Ok said)
  takes old new m input said x up replica fits none h honest =
      let t : MayTake nodes i input x h.replica said = taking_allowed nodes i m h.replica input said x few there replica h.takes up.replica in
      let kept : storages.contents new.storage ≡ records_after (storages.contents old.storage) h.made.write =
      written_contents laws old.storage new.storage h.made.write h.made.leaves honest in
      let holds : HoldsRecords h.replica (storages.contents new.storage) =
      other_records kept (taken_holds m input h.replica said (storages.contents old.storage) h.made.write none h.takes h.made.made fits
      up.holds) in
      record {
        after = t.after;
        does = t.does;
        stands = record {
          records = record { acceptor = h.replica.acceptor; round = h.replica.proposer.round; holds = holds; stands = t.stands.records };
          up = subst (λ (n : NodeState (Script S)). IfSome n.up (λ k. HoldsRecords k (storages.contents new.storage)
              × ReplicaStands k t.after))
              (sym h.leaves) (holds, t.stands);
        };
        floor_ = leveled input x.records.floor (accepting_after m input).floor _
            (t.stands.records.floor_ ∙ floor_then m input h.replica said (storages.contents old.storage) h.made.write none h.takes h.made.made
            fits up.holds) (level_after m input x up.replica);
        sent = t.sent;
        learnt = t.learnt;
        submitted = t.submitted;
      }

  -- the storage as it was, or with the write
  stops_as_it_was : (old new : NodeState (Script S)) (m : ReplicaState) (input : Input) (f : NodeFault) (x : Local Command) → StandsUp old m x
      → IsReplicaOf i nodes m → new.up ≡ None → storages.contents new.storage ≡ storages.contents old.storage
      → NodeMoves storages.contents nodes i input x new (Err f)
  stops_as_it_was old new m input f x up replica down same =
      stops input x new f m.acceptor m.proposer.round down (inr (sym up.replica.records.floor_)) (other_records same up.holds)
      (unwritten_allowed nodes i m (input_of i nodes input) x replica up.replica)

  stops_with : (old new : NodeState (Script S)) (m : ReplicaState) (input : Input) (f : NodeFault) (w : OptionalWrite) (x : Local Command)
      → StandsUp old m x
      → IsReplicaOf i nodes m → InputFits input → refuses m input ≡ None → Writes m input w → new.up ≡ None
      → (storages.contents new.storage ≡ storages.contents old.storage)
      ⊎ (storages.contents new.storage ≡ records_after (storages.contents old.storage) w)
      → NodeMoves storages.contents nodes i input x new (Err f)
  stops_with old new m input f w x up replica fits none made down (inl same) = stops_as_it_was old new m input f x up replica down same
  stops_with old new m input f w x up replica fits none made down (inr written) =
      stops input x new f (accepting_after m input) (round_after m input) down (level_after m input x up.replica)
      (other_records written (written_holds m input (storages.contents old.storage) w none made fits up.holds))
      (written_allowed nodes i m input x (omega (arith, there, few)) replica up.replica)

  stops_by : (old new : NodeState (Script S)) (m : ReplicaState) (input : Input) (f : NodeFault) (x : Local Command) → StandsUp old m x
      → IsReplicaOf i nodes m → InputFits input → refuses m input ≡ None → StorageStops storages old.storage m input f new.storage
      → new.up ≡ None
      → storages.IsHonest new.storage → NodeMoves storages.contents nodes i input x new (Err f)
  stops_by old new m input fault.Device x up replica fits none h down honest =
      stops_with old new m input fault.Device h.write x up replica fits none h.made down
      (failed_contents laws old.storage new.storage h.write h.leaves honest)
  stops_by old new m input fault.Memory x up replica fits none (inl h) down honest =
      stops_as_it_was old new m input fault.Memory x up replica down (laws.reads_contents old.storage new.storage h honest)
  stops_by old new m input fault.Memory x up replica fits none (inr h) down honest =
      stops_with old new m input fault.Memory h.write x up replica fits none h.made down
      (inr (written_contents laws old.storage new.storage h.write h.leaves honest))
  stops_by old new m input fault.Down x up replica fits none h down honest = absurd h
  stops_by old new m input fault.LogFull x up replica fits none h down honest = absurd h
  stops_by old new m input fault.RoundsUsedUp x up replica fits none h down honest = absurd h
  stops_by old new m input fault.QueueFull x up replica fits none h down honest = absurd h
  stops_by old new m input fault.TooLong x up replica fits none h down honest = absurd h
  stops_by old new m input fault.NothingNew x up replica fits none h down honest = absurd h
  stops_by old new m input fault.Damaged x up replica fits none h down honest = absurd h

  -- what is to be refused doesn't stop the node
  not_refused : (m : ReplicaState) (input : Input) (f : NodeFault) (o : Option NodeFault) → refuses m input ≡ o → is_stop_fault f ≡ true
      → IfSome o (λ g. failed f ≡ Err g) → refuses m input ≡ None
  not_refused m input f None e stop h = e
  not_refused m input f (Some g) e stop h =
      let same : f ≡ g = cc in
      let goes_on : is_stop_fault f ≡ false = ap is_stop_fault same ∙ refusal_goes_on m input g e in
      absurd (let bad : true ≡ false = sym stop ∙ goes_on in cc)

  taken_not_refused : (m : ReplicaState) (input : Input) (said : Response) (o : Option NodeFault) → refuses m input ≡ o
      → IfSome o (λ g. took said ≡ Err g) → refuses m input ≡ None
  taken_not_refused m input said None e h = e
  taken_not_refused m input said (Some g) e h = absurd (cc)

  refused : (old new : NodeState (Script S)) (m : ReplicaState) (input : Input) (f : NodeFault) (x : Local Command) (b : Bool) → is_stop_fault f ≡ b
      → NodeStands storages.contents old x → StandsUp old m x → IsReplicaOf i nodes m → InputFits input
      → IfSome (refuses m input) (λ g. failed f ≡ Err g)
      → MatchBool b (StopsOnInput storages old m input f new) (RefusesInput old m input f new) → storages.IsHonest new.storage
      → NodeMoves storages.contents nodes i input x new (Err f)
  refused old new m input f x true e stands up replica fits none h honest =
      stops_by old new m input f x up replica fits (not_refused m input f (refuses m input) refl e none) h.storage
      (ap (λ (n : NodeState (Script S)). n.up) h.leaves) honest
  refused old new m input f x false e stands up replica fits none h honest =
      rests input x new f (subst (λ (n : NodeState (Script S)). NodeStands storages.contents n x) (sym h.leaves) stands)

  by_result : (old new : NodeState (Script S)) (m : ReplicaState) (input : Input) (r : Result Response NodeFault) (x : Local Command)
      → NodeStands storages.contents old x → StandsUp old m x → IsReplicaOf i nodes m → InputFits input
      → IfOk r (λ said. TakesInput storages old m input said new)
      → IfErr r (λ f. MatchBool (is_stop_fault f) (StopsOnInput storages old m input f new) (RefusesInput old m input f new))
      → IfSome (refuses m input) (λ g. r ≡ Err g) → storages.IsHonest new.storage → NodeMoves storages.contents nodes i input x new r
  by_result old new m input (Ok said) x stands up replica fits taken refused_ none honest =
      takes old new m input said x up replica fits (taken_not_refused m input said (refuses m input) refl none) taken honest
  by_result old new m input (Err f) x stands up replica fits taken refused_ none honest =
      refused old new m input f x (is_stop_fault f) refl stands up replica fits none refused_ honest

  by_replica : (old new : NodeState (Script S)) (input : Input) (r : Result Response NodeFault) (x : Local Command) (o : Option ReplicaState)
      → old.up ≡ o
      → NodeSteps storages old input r new → NodeStands storages.contents old x → IsMember i nodes old → InputFits input
      → storages.IsHonest new.storage → NodeMoves storages.contents nodes i input x new r
  by_replica old new input r x None up h stands member fits honest =
      subst (λ (y : Result Response NodeFault). NodeMoves storages.contents nodes i input x new y) (sym (h.down up).0)
      (rests input x new fault.Down (subst (λ (n : NodeState (Script S)). NodeStands storages.contents n x) (sym (h.down up).1) stands))
  by_replica old new input r x (Some m) up h stands member fits honest =
      by_result old new m input r x stands (stands_up old m x up stands) (member.up m up) fits
      (subst (λ (o : Option ReplicaState). IfSome o (λ n. IfOk r (λ said. TakesInput storages old n input said new))) up h.taken)
      (subst (λ (o : Option ReplicaState). IfSome o (λ n. IfErr r (λ f. MatchBool (is_stop_fault f)
      (StopsOnInput storages old n input f new) (RefusesInput old n input f new)))) up h.refused)
      (subst (λ (o : Option ReplicaState). IfSome o (λ n. IfSome (refuses n input) (λ g. r ≡ Err g))) up h.refuses_) honest

  pub node_moves : (old new : NodeState (Script S)) (input : Input) (r : Result Response NodeFault) (x : Local Command)
      → NodeSteps storages old input r new → NodeStands storages.contents old x → IsMember i nodes old → InputFits input
      → storages.IsHonest new.storage → NodeMoves storages.contents nodes i input x new r
  node_moves old new input r x h stands member fits honest = by_replica old new input r x old.up refl h stands member fits honest

-- ---- a storage that is honest afterwards was so before
module _ {S : Type 0} {storages : Ghosts (Script S)} (laws : IsLawful storages) where
  honest_stopped : (old new : NodeState (Script S)) (m : ReplicaState) (input : Input) (f : NodeFault)
      → StorageStops storages old.storage m input f new.storage → storages.IsHonest new.storage → storages.IsHonest old.storage
  honest_stopped old new m input fault.Device h honest = failed_honest laws old.storage new.storage h.write h.leaves honest
  honest_stopped old new m input fault.Memory (inl h) honest = laws.reads_honest old.storage new.storage h honest
  honest_stopped old new m input fault.Memory (inr h) honest = written_honest laws old.storage new.storage h.write h.leaves honest
  honest_stopped old new m input fault.Down h honest = absurd h
  honest_stopped old new m input fault.LogFull h honest = absurd h
  honest_stopped old new m input fault.RoundsUsedUp h honest = absurd h
  honest_stopped old new m input fault.QueueFull h honest = absurd h
  honest_stopped old new m input fault.TooLong h honest = absurd h
  honest_stopped old new m input fault.NothingNew h honest = absurd h
  honest_stopped old new m input fault.Damaged h honest = absurd h

  honest_refused : (old new : NodeState (Script S)) (m : ReplicaState) (input : Input) (f : NodeFault) (b : Bool)
      → MatchBool b (StopsOnInput storages old m input f new) (RefusesInput old m input f new) → storages.IsHonest new.storage
      → storages.IsHonest old.storage
  honest_refused old new m input f true h honest = honest_stopped old new m input f h.storage honest
  honest_refused old new m input f false h honest = subst (λ (n : NodeState (Script S)). storages.IsHonest n.storage) h.leaves honest

  honest_result : (old new : NodeState (Script S)) (m : ReplicaState) (input : Input) (r : Result Response NodeFault)
      → IfOk r (λ told. TakesInput storages old m input told new)
      → IfErr r (λ f. MatchBool (is_stop_fault f) (StopsOnInput storages old m input f new) (RefusesInput old m input f new))
      → storages.IsHonest new.storage → storages.IsHonest old.storage
  honest_result old new m input (Ok told) h refused_ honest = written_honest laws old.storage new.storage h.made.write h.made.leaves honest
  honest_result old new m input (Err f) taken h honest = honest_refused old new m input f (is_stop_fault f) h honest

  honest_replica : (old new : NodeState (Script S)) (input : Input) (r : Result Response NodeFault) (o : Option ReplicaState) → old.up ≡ o
      → NodeSteps storages old input r new → storages.IsHonest new.storage → storages.IsHonest old.storage
  honest_replica old new input r None up h honest = subst (λ (n : NodeState (Script S)). storages.IsHonest n.storage) (h.down up).1 honest
  honest_replica old new input r (Some m) up h honest =
      honest_result old new m input r
      (subst (λ (o : Option ReplicaState). IfSome o (λ n. IfOk r (λ told. TakesInput storages old n input told new))) up h.taken)
      (subst (λ (o : Option ReplicaState). IfSome o (λ n. IfErr r (λ f. MatchBool (is_stop_fault f)
      (StopsOnInput storages old n input f new) (RefusesInput old n input f new)))) up h.refused) honest

  pub honest_before : (old new : NodeState (Script S)) (input : Input) (r : Result Response NodeFault) → NodeSteps storages old input r new
      → storages.IsHonest new.storage → storages.IsHonest old.storage
  honest_before old new input r h honest = honest_replica old new input r old.up refl h honest
