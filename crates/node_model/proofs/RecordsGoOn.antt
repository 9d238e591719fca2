-- Records go on saying what a node holds.
use Rattle.std.proofs.Common.{◌≡◌, ◌≤◌, ℕ, ◌^◌, List, Option, Some, None, Bool, true, false, nat_le}
use Rattle.std.proofs.Common.{refl, sym, ap, ◌∙◌, subst, arith}
use Rattle.std.proofs.lemmas.Bool.{leb-false}
use Rattle.std.proofs.lemmas.Option.{none-some, same_Some}
use Rattle.byteorder.specs.Endian.{big_bytes}
use Rattle.stable.specs.Records.{Records, Change, Sets, Trims, changed}
use Rattle.stable.specs.declared.key.Key.TheVariants as key
use Rattle.acceptor.specs.Accepting.{Accepting, OptionalWrite, records_after, after_prepare, after_checkpoint, IsTrimWrite, after_trim}
use Rattle.acceptor.proofs.FloorLemmas.{checkpoint_kept, trim_kept, prepare_covered, accept_covered, checkpoint_covered, trim_covered}
use Rattle.acceptor.proofs.RecordLemmas.{prepare_kept, accept_kept, RecordsSay-round, prepare_leaves_round, accept_leaves_round}
use Rattle.acceptor.proofs.VerdictLemmas.{floor_prepared, floor_accepted}
use Rattle.acceptor.proofs.VoteLemmas.{other_key, promise_is_no_vote, cast_above}
use Rattle.proposer.specs.Proposing.{next_round}
use Rattle.sessions.specs.Snapshots.{snapshot_bytes}
use Rattle.wire.specs.FrameSpelling.{MessageFits}
use Rattle.wire.specs.RecordForms.{IsRoundRecord}
use Rattle.wire.specs.declared.frames.envelope.Envelope.{Envelope}
use Rattle.wire.specs.declared.frames.message.Message.{Message}
use Rattle.wire.specs.declared.frames.message.Message.TheVariants.{Prepare, Accept}
use Rattle.node_model.specs.declared.fault.NodeFault.TheVariants as fault
use Rattle.node_model.specs.declared.input.Input.{Input}
use Rattle.node_model.specs.declared.input.Input.TheVariants as input
use Rattle.node_model.specs.Inputs.{is_for_this_run}
use Rattle.node_model.specs.Replicas.{ReplicaState, position, is_full, refuses}
use Rattle.node_model.specs.Outputs.{Response}
use Rattle.node_model.specs.Protocol.{InputFits, accepting_on, accepting_if, accepting_after, round_after, RecordsHold, SaysRound}
use Rattle.node_model.specs.Taking.{Writes, WritesOnEnvelope, WritesOnMessage, WritesCheckpoint, Takes}
use Rattle.node_model.proofs.Members.{takes_stays}

-- ---- what the records say once the write is made
no_write : (records : Records) (w : OptionalWrite) (a : Accepting) (round : ℕ) → w ≡ None → RecordsHold records a round
    → RecordsHold (records_after records w) a round
no_write records w a round e both = subst (λ (x : OptionalWrite). RecordsHold (records_after records x) a round) (sym e) both

message_holds : (m : ReplicaState) (message : Message) (records : Records) (w : OptionalWrite) → WritesOnMessage m message w → MessageFits 7 message
    → RecordsHold records m.acceptor m.proposer.round → RecordsHold (records_after records w) (accepting_on m message) m.proposer.round
message_holds m (Prepare ballot first) records w e fits both =
    subst (λ (x : OptionalWrite). RecordsHold (records_after records x) (after_prepare m.acceptor ballot first) m.proposer.round) (sym e)
    (record {
      acceptor = prepare_kept records m.acceptor ballot first fits.0 both.acceptor;
      covered = prepare_covered m.acceptor ballot first both.covered;
      proposer = subst (λ (o : Option (List ℕ)). SaysRound o m.proposer.round)
          (sym (prepare_leaves_round records m.acceptor ballot first)) both.proposer;
    })
message_holds m (Accept v) records w is fits both = record {
  acceptor = accept_kept records m.acceptor v w (record { ballot = fits.ballot; command = fits.command }) is both.acceptor;
  covered = accept_covered m.acceptor v both.covered;
  proposer = subst (λ (o : Option (List ℕ)). SaysRound o m.proposer.round)
      (sym (accept_leaves_round records m.acceptor v w is)) both.proposer;
}
message_holds m other records w e fits both = no_write records w m.acceptor m.proposer.round e both

envelope_holds : (m : ReplicaState) (e : Envelope) (b : Bool) (records : Records) (w : OptionalWrite) → WritesOnEnvelope m e b w → MessageFits 7 e.message
    → RecordsHold records m.acceptor m.proposer.round → RecordsHold (records_after records w) (accepting_if m e b) m.proposer.round
envelope_holds m e false records w none fits both = no_write records w m.acceptor m.proposer.round none both
envelope_holds m e true records w writes fits both = message_holds m e.message records w writes fits both

-- a round that is begun has its eight bytes
round_left : (m : ReplicaState) (full used : Bool) → is_full m ≡ full → nat_le (2 ^ 64) (next_round m.proposer) ≡ used
    → refuses m input.Timeout ≡ None → used ≡ false
round_left m true used e f none = (let bad : Some fault.LogFull ≡ None = rw e at none in absurd cc)
round_left m false true e f none = (let bad : Some fault.RoundsUsedUp ≡ None = rw f at (rw e at none) in absurd cc)
round_left m false false e f none = refl

drawn : (m : ReplicaState) → refuses m input.Timeout ≡ None → IsRoundRecord (big_bytes 8 (next_round m.proposer)) (next_round m.proposer)
drawn m none =
    let left = round_left m (is_full m) (nat_le (2 ^ 64) (next_round m.proposer)) refl refl none in
    record { begun = omega arith; fits = leb-false (2 ^ 64) (next_round m.proposer) left; spelled = refl }

-- a checkpoint's record is of its form
checkpoint_holds : (m : ReplicaState) (records : Records) (w : OptionalWrite) → WritesCheckpoint m w
    → RecordsHold records m.acceptor m.proposer.round
    → RecordsHold (records_after records w) (after_checkpoint m.acceptor (position m) (snapshot_bytes m.machine)) m.proposer.round
checkpoint_holds m records w writes both =
    subst (λ (x : OptionalWrite). RecordsHold (records_after records x) (after_checkpoint m.acceptor (position m) (snapshot_bytes m.machine)) m.proposer.round)
    (sym writes.is) (record {
      acceptor = checkpoint_kept records m.acceptor (position m) (snapshot_bytes m.machine) (omega (arith, writes.above)) writes.in_log
          (m.machine, writes.fits, refl) both.acceptor;
      covered = checkpoint_covered records m.acceptor (position m) (snapshot_bytes m.machine) both.acceptor;
      proposer = both.proposer;
    })

-- only votes are taken out
trim_leaves_round : (records : Records) (a : Accepting) (w : OptionalWrite) → IsTrimWrite a w → records_after records w key.Round ≡ records key.Round
trim_leaves_round records a None is = refl
trim_leaves_round records a (Some change) is = ap (λ (c : Change). changed records c key.Round) is.1

trim_holds : (m : ReplicaState) (records : Records) (w : OptionalWrite) → IsTrimWrite m.acceptor w → RecordsHold records m.acceptor m.proposer.round
    → RecordsHold (records_after records w) (after_trim m.acceptor) m.proposer.round
trim_holds m records w is both = record {
  acceptor = trim_kept records m.acceptor w both.covered is both.acceptor;
  covered = trim_covered m.acceptor;
  proposer = subst (λ (o : Option (List ℕ)). SaysRound o m.proposer.round) (sym (trim_leaves_round records m.acceptor w is)) both.proposer;
}

pub written_holds : (m : ReplicaState) (i : Input) (records : Records) (w : OptionalWrite) → refuses m i ≡ None → Writes m i w → InputFits i
    → RecordsHold records m.acceptor m.proposer.round → RecordsHold (records_after records w) (accepting_after m i) (round_after m i)
written_holds m (input.Message e) records w none writes fits both = envelope_holds m e (is_for_this_run m.id m.nodes e) records w writes fits both
written_holds m input.Timeout records w none e fits both =
    subst (λ (x : OptionalWrite). RecordsHold (records_after records x) m.acceptor (next_round m.proposer)) (sym e) (record {
      acceptor = RecordsSay-round records m.acceptor (big_bytes 8 (next_round m.proposer)) both.acceptor;
      covered = both.covered;
      proposer = drawn m none;
    })
written_holds m input.Checkpoint records w none writes fits both = checkpoint_holds m records w writes both
written_holds m input.Trim records w none is fits both = trim_holds m records w is both
written_holds m other records w none e fits both = no_write records w m.acceptor m.proposer.round e both

-- ---- the floor
-- no message changes it
floor_on : (m : ReplicaState) (message : Message) → (accepting_on m message).floor ≡ m.acceptor.floor
floor_on m (Prepare ballot first) = floor_prepared m.acceptor ballot first
floor_on m (Accept v) = floor_accepted m.acceptor v
floor_on m other = refl

pub floor_if : (m : ReplicaState) (e : Envelope) (b : Bool) → (accepting_if m e b).floor ≡ m.acceptor.floor
floor_if m e false = refl
floor_if m e true = floor_on m e.message

-- a vote is written at a slot from the floor on
vote_above_on : (m : ReplicaState) (message : Message) (w : OptionalWrite) → WritesOnMessage m message w → (slot : ℕ) (bytes : List ℕ)
    → w ≡ Some (Sets (key.Vote slot) bytes) → m.acceptor.floor ≤ slot
vote_above_on m (Prepare ballot first) w writes slot bytes e =
    absurd (promise_is_no_vote m.acceptor ballot first slot bytes (sym writes ∙ e))
vote_above_on m (Accept v) w is slot bytes e = cast_above m.acceptor v w is slot bytes e
vote_above_on m other w none slot bytes e = absurd (none-some (Sets (key.Vote slot) bytes) (sym none ∙ e))

vote_above_if : (m : ReplicaState) (e : Envelope) (b : Bool) (w : OptionalWrite) → WritesOnEnvelope m e b w → (slot : ℕ) (bytes : List ℕ)
    → w ≡ Some (Sets (key.Vote slot) bytes) → m.acceptor.floor ≤ slot
vote_above_if m e false w none slot bytes is = absurd (none-some (Sets (key.Vote slot) bytes) (sym none ∙ is))
vote_above_if m e true w writes slot bytes is = vote_above_on m e.message w writes slot bytes is

-- a trim writes none
trim_is_no_vote : (a : Accepting) (w : OptionalWrite) → IsTrimWrite a w → (slot : ℕ) (bytes : List ℕ) → w ≡ Some (Sets (key.Vote slot) bytes) → ⊥
trim_is_no_vote a None is slot bytes e = none-some (Sets (key.Vote slot) bytes) e
trim_is_no_vote a (Some change) is slot bytes e = (let bad : Trims a.floor ≡ Sets (key.Vote slot) bytes = sym is.1 ∙ same_Some _ _ e in absurd cc)

pub vote_above : (m : ReplicaState) (i : Input) (w : OptionalWrite) → Writes m i w → (slot : ℕ) (bytes : List ℕ) → w ≡ Some (Sets (key.Vote slot) bytes)
    → m.acceptor.floor ≤ slot
vote_above m (input.Message e) w writes slot bytes is = vote_above_if m e (is_for_this_run m.id m.nodes e) w writes slot bytes is
vote_above m input.Timeout w round slot bytes e =
    absurd (other_key key.Round slot (big_bytes 8 (next_round m.proposer)) bytes (λ same. omega (arith, same)) (sym round ∙ e))
vote_above m input.Checkpoint w writes slot bytes e =
    absurd (other_key key.Checkpoint slot _ bytes (λ same. omega (arith, same)) (sym writes.is ∙ e))
vote_above m input.Trim w is slot bytes e = absurd (trim_is_no_vote m.acceptor w is slot bytes e)
vote_above m other w none slot bytes e = absurd (none-some (Sets (key.Vote slot) bytes) (sym none ∙ e))

-- ---- that is what the node holds then
pub taken_holds : (m : ReplicaState) (i : Input) (new : ReplicaState) (said : Response) (records : Records) (w : OptionalWrite) → refuses m i ≡ None
    → Takes m i new said → Writes m i w → InputFits i → RecordsHold records m.acceptor m.proposer.round
    → RecordsHold (records_after records w) new.acceptor new.proposer.round
taken_holds m i new said records w none takes writes fits both =
    let stays = takes_stays m i new said takes in
    subst (λ (a : Accepting). RecordsHold (records_after records w) a new.proposer.round) (sym stays.acceptor_)
    (subst (λ (n : ℕ). RecordsHold (records_after records w) (accepting_after m i) n) (sym stays.proposer_.round_)
    (written_holds m i records w none writes fits both))
