-- What an input makes of an acceptor's floor and of its promise.
use Rattle.std.proofs.Common.{◌≡◌, ◌⊎◌, ℕ, ◌≤◌, inl, inr, Bool, true, false, None, refl, le_refl}
use Rattle.synod.specs.Ballots.{rank_of}
use Rattle.synod.specs.declared.ballot.Ballot.{Ballot}
use Rattle.synod.specs.declared.vote.Vote.{Vote}
use Rattle.stable.specs.Records.{Records}
use Rattle.sessions.specs.declared.command.Command.{Command}
use Rattle.acceptor.specs.Accepting.{Accepting, OptionalWrite, records_after, after_prepare, after_accept}
use Rattle.acceptor.proofs.SayingOne.{one_floor}
use Rattle.acceptor.proofs.VerdictLemmas.{judged, refused, behind, taken}
use Rattle.wire.specs.declared.frames.envelope.Envelope.{Envelope}
use Rattle.wire.specs.declared.frames.message.Message.{Message}
use Rattle.wire.specs.declared.frames.message.Message.TheVariants.{Prepare, Accept}
use Rattle.node_model.specs.declared.input.Input.{Input}
use Rattle.node_model.specs.declared.input.Input.TheVariants as input
use Rattle.node_model.specs.Inputs.{is_for_this_run}
use Rattle.node_model.specs.Replicas.{ReplicaState, refuses}
use Rattle.node_model.specs.Outputs.{Response}
use Rattle.node_model.specs.Protocol.{InputFits, HoldsRecords, accepting_on, accepting_if, accepting_after}
use Rattle.node_model.specs.Taking.{Writes, Takes}
use Rattle.node_model.proofs.RecordsGoOn.{floor_if, written_holds, taken_holds}

-- ---- the floor
-- no input but a checkpoint changes it
pub floor_left : (m : ReplicaState) (i : Input) → (i ≡ input.Checkpoint) ⊎ ((accepting_after m i).floor ≡ m.acceptor.floor)
floor_left m (input.Message e) = inr (floor_if m e (is_for_this_run m.id m.nodes e))
floor_left m input.Checkpoint = inl refl
floor_left m other = inr refl

-- ---- the promise
promise_prepared : (a : Accepting) (b : Ballot) (first : ℕ) → rank_of a.promise ≤ rank_of (after_prepare a b first).promise
promise_prepared a b first =
    elim (judged a b first) [
      | refused p is ↦ rw is (le_refl _)
      | behind floor is ↦ rw is (le_refl _)
      | taken is high from ↦ rw is high
    ]

promise_accepted : (a : Accepting) (v : Vote Command) → rank_of a.promise ≤ rank_of (after_accept a v).promise
promise_accepted a v =
    elim (judged a v.ballot v.slot) [
      | refused p is ↦ rw is (le_refl _)
      | behind floor is ↦ rw is (le_refl _)
      | taken is high from ↦ rw is high
    ]

promise_on : (m : ReplicaState) (message : Message) → rank_of m.acceptor.promise ≤ rank_of (accepting_on m message).promise
promise_on m (Prepare ballot first) = promise_prepared m.acceptor ballot first
promise_on m (Accept v) = promise_accepted m.acceptor v
promise_on m other = le_refl _

promise_if : (m : ReplicaState) (e : Envelope) (b : Bool) → rank_of m.acceptor.promise ≤ rank_of (accepting_if m e b).promise
promise_if m e false = le_refl _
promise_if m e true = promise_on m e.message

-- no input lowers it
pub promise_after : (m : ReplicaState) (i : Input) → rank_of m.acceptor.promise ≤ rank_of (accepting_after m i).promise
promise_after m (input.Message e) = promise_if m e (is_for_this_run m.id m.nodes e)
promise_after m other = le_refl _

-- ---- where an input is taken, the records say both what is held then and what was to be held
module _ (m : ReplicaState) (i : Input) (new : ReplicaState) (said : Response) (records : Records) (w : OptionalWrite) (none : refuses m i ≡ None)
    (takes : Takes m i new said) (writes : Writes m i w) (fits : InputFits i) (holds : HoldsRecords m records) where
  pub floor_then : new.acceptor.floor ≡ (accepting_after m i).floor
  floor_then = one_floor (records_after records w) new.acceptor (accepting_after m i)
      (taken_holds m i new said records w none takes writes fits holds).acceptor
      (written_holds m i records w none writes fits holds).acceptor
