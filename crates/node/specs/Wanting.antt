-- When memory may be wanting: for a checkpoint and for a trim, for questions, and for what carries a snapshot.
use Rattle.std.specs.Prelude.{◌≡◌, ◌≢◌, ⊤, ℕ, [], true}
use Rattle.acceptor.specs.Accepting.{HasVoteBelow}
use Rattle.learner.specs.Learning.{learnt_at}
use Rattle.wire.specs.declared.frames.message.Message.{Message}
use Rattle.wire.specs.declared.frames.message.Message.TheVariants.{Nack, Ask, SnapAsk, SnapPart, Behind}
use Rattle.node_model.specs.Fetching.{wants}
use Rattle.node_model.specs.Replicas.{ReplicaState, position}
use Rattle.node_model.specs.Sending.{decided_sends, snapshot_sends}
use Rattle.node_model.specs.Taking.{is_ahead}
use Rattle.node_model.specs.declared.input.Input.{Input}
use Rattle.node_model.specs.declared.input.Input.TheVariants as input

-- all that the input asks for is a write: a checkpoint or a trim
abbrev pub IsForRecords : Input → Type 0
IsForRecords input.Checkpoint = ⊤
IsForRecords input.Trim = ⊤
IsForRecords other = ⊥

-- something may be wanted for the message from a node: for a question only where it is answered, for a floor only where it is further
-- than what is there, for a part only where it counts, and for a refusal never
abbrev pub MayWantOn : ReplicaState → ℕ → Message → Type 0
MayWantOn m from (Nack n) = ⊥
MayWantOn m from (Ask slot) = decided_sends m.id from slot m.acceptor.floor (learnt_at m.learner slot) ≢ []
MayWantOn m from (SnapAsk position number) = snapshot_sends m.acceptor m.id from position number ≢ []
MayWantOn m from (SnapPart p) = wants m.fetching (position m) p ≡ true
MayWantOn m from (Behind floor) = is_ahead m floor ≡ true
MayWantOn m from other = ⊤

-- .. and for the input: for a trim only where a vote stands below the floor
abbrev pub MayWant : ReplicaState → Input → Type 0
MayWant m (input.Message e) = MayWantOn m e.from e.message
MayWant m input.Trim = HasVoteBelow m.acceptor
MayWant m other = ⊤
