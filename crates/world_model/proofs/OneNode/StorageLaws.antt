-- What calls make of a storage, by laws of its relations.
use Rattle.std.proofs.Common.{◌≡◌, ◌⊎◌, Some, None}
use Rattle.stable.specs.declared.stable.Stable.{Ghosts}
use Rattle.stable.specs.Storages.{IsLawful}
use Rattle.acceptor.specs.Accepting.{OptionalWrite, HasWritten, HasFailed, records_after}

module _ {S : Type 0} {storages : Ghosts S} (laws : IsLawful storages) where
  -- a write that is made
  pub written_honest : (a b : S) (w : OptionalWrite) → HasWritten storages.reads storages.changes a b w → storages.IsHonest b → storages.IsHonest a
  written_honest a b None h honest = laws.reads_honest a b h honest
  written_honest a b (Some w) h honest = laws.changes_honest a b w h honest

  pub written_contents : (a b : S) (w : OptionalWrite) → HasWritten storages.reads storages.changes a b w → storages.IsHonest b
      → storages.contents b ≡ records_after (storages.contents a) w
  written_contents a b None h honest = laws.reads_contents a b h honest
  written_contents a b (Some w) h honest = laws.changes_contents a b w h honest

  -- a write on which the device failed
  pub failed_honest : (a b : S) (w : OptionalWrite) → HasFailed storages.fails a b w → storages.IsHonest b → storages.IsHonest a
  failed_honest a b None h honest = absurd h
  failed_honest a b (Some w) h honest = laws.fails_honest a b w h honest

  pub failed_contents : (a b : S) (w : OptionalWrite) → HasFailed storages.fails a b w → storages.IsHonest b
      → (storages.contents b ≡ storages.contents a) ⊎ (storages.contents b ≡ records_after (storages.contents a) w)
  failed_contents a b None h honest = absurd h
  failed_contents a b (Some w) h honest = laws.fails_contents a b w h honest
