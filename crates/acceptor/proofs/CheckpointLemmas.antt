-- The record of a checkpoint: one is spelled there, and a node begins with what it holds.
use Rattle.std.proofs.Common.{◌≡◌, ℕ, List, [], ◌∷◌, Option, Some, None, MatchOption, refl, sym, subst}
use Rattle.sessions.specs.Machines.{MachineState}
use Rattle.sessions.specs.Snapshots.{IsSnapshot, StandsForEach, snapshot_bytes}
use Rattle.sessions.specs.Standing.{StandsFor}
use Rattle.stable.specs.Records.{Records}
use Rattle.stable.specs.declared.key.Key.TheVariants as key
use Rattle.wire.specs.RecordForms.{Checkpointed, checkpoint_bytes, IsCheckpointRecord}
use Rattle.wire.proofs.RecordLaws.{one_checkpoint}
use Rattle.acceptor.specs.Forms.{CheckpointFits}
use Rattle.acceptor.specs.Loading.{IsCheckpointOf, MachineBeginsWith, IsMachineOf}

-- a checkpoint that fits is spelled as a record
pub record_of : (bytes : List ℕ) (c : Checkpointed) → CheckpointFits c → bytes ≡ checkpoint_bytes c → IsCheckpointRecord bytes c
record_of bytes c fits spelled =
    record { begun = fits.begun; in_log = fits.in_log; promise = fits.promise; spelled = spelled }

-- no two that fit are spelled alike
pub one_that_fits : (bytes : List ℕ) (c d : Checkpointed) → CheckpointFits c → CheckpointFits d → bytes ≡ checkpoint_bytes c
    → bytes ≡ checkpoint_bytes d → c ≡ d
one_that_fits bytes c d fits_c fits_d spelled_c spelled_d =
    one_checkpoint bytes c d (record_of bytes c fits_c spelled_c) (record_of bytes d fits_d spelled_d)

-- ---- with which commands a node begins
-- no checkpoint: with none
pub begins_with_none : (r : Records) (m : MachineState) → r key.Checkpoint ≡ None → StandsFor m [] → MachineBeginsWith r m
begins_with_none r m none stands = record {
  stands = λ base is.
      let nothing : base ≡ [] = subst (λ (o : Option (List ℕ)). MatchOption o (base ≡ []) (IsCheckpointOf base)) none is in
      subst (StandsFor m) (sym nothing) stands;
}

-- a checkpoint: with each list that has its text
pub begins_with_text : (r : Records) (m : MachineState) (c : Checkpointed) → r key.Checkpoint ≡ Some (checkpoint_bytes c)
    → CheckpointFits c → StandsForEach c.text m → MachineBeginsWith r m
begins_with_text r m c there fits each = record {
  stands = λ base is.
      let of : IsCheckpointOf base (checkpoint_bytes c) =
      subst (λ (o : Option (List ℕ)). MatchOption o (base ≡ []) (IsCheckpointOf base)) there is in
      let same : of.checkpoint ≡ c = one_that_fits (checkpoint_bytes c) of.checkpoint c of.fits fits of.spelled refl in
      each.stands base (subst (λ (x : Checkpointed). IsSnapshot base x.text) same of.text);
}

-- no other record tells
pub begins_same : (r q : Records) (m : MachineState) → q key.Checkpoint ≡ r key.Checkpoint → MachineBeginsWith r m → MachineBeginsWith q m
begins_same r q m same begins = record {
  stands = λ base is.
      begins.stands base (subst (λ (o : Option (List ℕ)). MatchOption o (base ≡ []) (IsCheckpointOf base)) same is);
}

-- ---- with which machine
-- a machine is that of its text, which is never empty
pub machine_of_text : (m : MachineState) (text : List ℕ) → snapshot_bytes m ≡ text → IsMachineOf text m
machine_of_text m [] e = absurd cc
machine_of_text m (b ∷ bs) e = e

pub machine_as_before : (old new : List ℕ) (m : MachineState) → new ≡ old → IsMachineOf old m → IsMachineOf new m
machine_as_before old new m same of = subst (λ (t : List ℕ). IsMachineOf t m) (sym same) of
