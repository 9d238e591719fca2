use Rattle.std.proofs.Common.{refl, rules}
use Rattle.sqlite.proofs.Callers.{memory_is_clean}
use Rattle.sqlstable.proofs.storage.SqlStable+MemStore.can_count.Goals as goal

pub returns : goal.returns
returns c = record {
  honest = (
    λ h. record { usable = (memory_is_clean c.args.self.now.connection, refl); counts = search rules },
    λ h. let counts =
        h.counts in search rules,
  );
}
