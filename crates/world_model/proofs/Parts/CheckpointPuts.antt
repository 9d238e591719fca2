-- Which checkpoint an input puts: the snapshot text of what the node has executed, at its position, with its promise.
use Rattle.std.proofs.Common.{◌≡◌, ℕ, ◌≤◌, List, Bool, true, false, if◌then◌else◌, Some, None}
use Rattle.std.proofs.Common.{refl, sym, ap, subst, ◌∙◌, arith}
use Rattle.std.specs.Prelude.{◌==◌}
use Rattle.std.proofs.lemmas.Option.{same_Some, none-some}
use Rattle.synod.specs.Ballots.{rank_of}
use Rattle.synod.specs.Ballots as ballots
use Rattle.synod.specs.declared.ballot.Ballot.{Ballot}
use Rattle.synod.specs.declared.vote.Vote.{Vote}
use Rattle.stable.specs.Records.{Records, Change, Sets, rank}
use Rattle.stable.specs.Script as script
use Rattle.stable.specs.declared.key.Key.{Key}
use Rattle.stable.specs.declared.key.Key.TheVariants as key
use Rattle.sessions.specs.Snapshots.{MachineFits, snapshot_bytes}
use Rattle.sessions.specs.declared.command.Command.{Command}
use Rattle.wire.specs.RecordForms.{Checkpointed, checkpoint_bytes, IsCheckpointRecord}
use Rattle.wire.specs.declared.frames.envelope.Envelope.{Envelope}
use Rattle.wire.specs.declared.frames.message.Message.{Message}
use Rattle.wire.specs.declared.frames.message.Message.TheVariants.{Prepare, Accept}
use Rattle.wire.proofs.RecordLaws.{one_checkpoint}
use Rattle.acceptor.proofs.CheckpointLemmas.{record_of}
use Rattle.acceptor.proofs.FloorLemmas.{promise_fits}
use Rattle.acceptor.specs.Accepting.{Accepting, OptionalWrite, RecordsSay, IsAcceptWrite, IsTrimWrite}
use Rattle.acceptor.specs.Accepting.{Verdict, Refused, Behind, Taken, verdict, if_taken}
use Rattle.acceptor.specs.Forms.{CheckpointFits}
use Rattle.acceptor.specs.Spelling.{ballot_bytes}
use Rattle.acceptor.proofs.VerdictLemmas.{judged, refused as is_refused, behind as is_behind, taken as is_taken}
use Rattle.node_model.specs.declared.input.Input.{Input}
use Rattle.node_model.specs.declared.input.Input.TheVariants as input
use Rattle.node_model.specs.Inputs.{is_for_this_run}
use Rattle.node_model.specs.Replicas.{ReplicaState, position, promised}
use Rattle.node_model.specs.Taking.{WritesOnMessage, WritesOnEnvelope, WritesCheckpoint, Writes}
use Rattle.world_model.proofs.OneNode.ListedPuts.{put_by}

-- ---- under which key an input puts something: what the key isn't it doesn't put
-- nothing is put
abbrev PutsNothing : OptionalWrite → Type 0
PutsNothing w = (c : script.Write) → put_by w ≡ Some c → ⊥

puts_none : (w : OptionalWrite) → w ≡ None → PutsNothing w
puts_none w none c e = none-some c (ap put_by (sym none) ∙ e)

-- what is put is no checkpoint
abbrev PutsNoCheckpoint : OptionalWrite → Type 0
PutsNoCheckpoint w = (c : script.Write) → put_by w ≡ Some c → 1 ≤ rank c.0

nothing_is_no_checkpoint : (w : OptionalWrite) → w ≡ None → PutsNoCheckpoint w
nothing_is_no_checkpoint w none c e = absurd (puts_none w none c e)

other_put : (w : OptionalWrite) (k : Key) (bytes : List ℕ) → 1 ≤ rank k → w ≡ Some (Sets k bytes) → PutsNoCheckpoint w
other_put w k bytes other is c e =
    let same : (k, bytes) ≡ c = same_Some (k, bytes) c (ap put_by (sym is) ∙ e) in
    subst (λ (x : script.Write). 1 ≤ rank x.0) same other

on_prepare : (b : Ballot) (v : Verdict) (already : Bool)
    → PutsNoCheckpoint (if_taken v (if already then None else Some (Sets key.Promise (ballot_bytes b))) None)
on_prepare b (Refused p) already = nothing_is_no_checkpoint None refl
on_prepare b (Behind floor) already = nothing_is_no_checkpoint None refl
on_prepare b Taken true = nothing_is_no_checkpoint None refl
on_prepare b Taken false = other_put _ key.Promise (ballot_bytes b) (omega arith) refl

on_accept : (a : Accepting) (v : Vote Command) (w : OptionalWrite) → IsAcceptWrite a v w → PutsNoCheckpoint w
on_accept a v w h c e =
    let some : w ≡ None → ⊥ = λ none. puts_none w none c e in
    elim (judged a v.ballot v.slot) [
      | is_refused p other ↦ absurd (some (h.untaken (λ same. absurd (cc))))
      | is_behind floor other ↦ absurd (some (h.untaken (λ same. absurd (cc))))
      | is_taken same high from ↦
          other_put w (key.Vote v.slot) _ (omega arith) (h.cast (record { taken = same; fresh = λ stands. some (h.already stands) })) c e
    ]

on_message : (m : ReplicaState) (message : Message) (w : OptionalWrite) → WritesOnMessage m message w → PutsNoCheckpoint w
on_message m (Prepare ballot first) w is =
    subst (λ (x : OptionalWrite). PutsNoCheckpoint x) (sym is)
    (on_prepare ballot (verdict m.acceptor ballot first) (ballots.rank ballot == rank_of m.acceptor.promise))
on_message m (Accept v) w is = on_accept m.acceptor v w is
on_message m other w is = nothing_is_no_checkpoint w is

on_envelope : (m : ReplicaState) (e : Envelope) (b : Bool) (w : OptionalWrite) → WritesOnEnvelope m e b w → PutsNoCheckpoint w
on_envelope m e false w is = nothing_is_no_checkpoint w is
on_envelope m e true w is = on_message m e.message w is

on_trim : (a : Accepting) (w : OptionalWrite) → IsTrimWrite a w → PutsNoCheckpoint w
on_trim a None is c e = absurd (none-some c e)
on_trim a (Some change) is c e = absurd (none-some c (ap (λ (x : Change). put_by (Some x)) (sym is.1) ∙ e))

-- ---- a checkpoint
-- the checkpoint is that of the node at its position
pub record IsCheckpointOfNode (m : ReplicaState) (c : Checkpointed) : Type 0 where
  pub machine : MachineFits m.machine
  pub is : c ≡ record { position = position m; promise = promised m; text = snapshot_bytes m.machine }

checkpoint_written : (r : Records) (m : ReplicaState) (w : OptionalWrite) → RecordsSay r m.acceptor → WritesCheckpoint m w → (c : Checkpointed)
    → CheckpointFits c → put_by w ≡ Some (key.Checkpoint, checkpoint_bytes c) → IsCheckpointOfNode m c
checkpoint_written r m w says writes c fits e =
    let d : Checkpointed = record { position = position m; promise = promised m; text = snapshot_bytes m.machine } in
    let here : script.Write = (key.Checkpoint, checkpoint_bytes d) in
    let there : script.Write = (key.Checkpoint, checkpoint_bytes c) in
    let same : here ≡ there = same_Some here there (ap put_by (sym writes.is) ∙ e) in
    let bytes : checkpoint_bytes d ≡ checkpoint_bytes c = ap (λ (x : script.Write). x.1) same in
    let above = writes.above in
    let written : IsCheckpointRecord (checkpoint_bytes c) d = record {
      begun = omega (arith, above);
      in_log = writes.in_log;
      promise = promise_fits r m.acceptor says;
      spelled = sym bytes;
    } in
    record { machine = writes.fits; is = one_checkpoint (checkpoint_bytes c) c d (record_of (checkpoint_bytes c) c fits refl) written }

-- whatever checkpoint an input puts is that
pub checkpoint_put : (r : Records) (m : ReplicaState) (i : Input) (w : OptionalWrite) → RecordsSay r m.acceptor → Writes m i w → (c : Checkpointed)
    → CheckpointFits c → put_by w ≡ Some (key.Checkpoint, checkpoint_bytes c) → IsCheckpointOfNode m c
checkpoint_put r m (input.Message e) w says writes c fits put =
    let high : 1 ≤ 0 = on_envelope m e (is_for_this_run m.id m.nodes e) w writes (key.Checkpoint, checkpoint_bytes c) put in
    absurd (omega (arith, high))
checkpoint_put r m input.Timeout w says writes c fits e =
    let high : 1 ≤ 0 = other_put w key.Round _ (omega arith) writes (key.Checkpoint, checkpoint_bytes c) e in
    absurd (omega (arith, high))
checkpoint_put r m input.Checkpoint w says writes c fits e = checkpoint_written r m w says writes c fits e
checkpoint_put r m input.Trim w says writes c fits e =
    let high : 1 ≤ 0 = on_trim m.acceptor w writes (key.Checkpoint, checkpoint_bytes c) e in
    absurd (omega (arith, high))
checkpoint_put r m other w says writes c fits e = absurd (puts_none w writes (key.Checkpoint, checkpoint_bytes c) e)
