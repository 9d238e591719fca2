use Rattle.std.proofs.Common.{refl, sym, ap, ◌∙◌, subst, IsSome}
use Rattle.sqlite.specs.Held.{state}
use Rattle.sqlite.specs.Steps.{over_memory}
use Rattle.sqlite.proofs.Callers.{memory_is_clean}
use Rattle.sqlstable.specs.States.{IsUsable, table}
use Rattle.sqlstable.proofs.constructors.SqlStable+MemStore.open_in_memory.Goals as goal

pub returns-in-Ok-clause-honest : goal.returns-in-Ok-clause-honest
returns-in-Ok-clause-honest c = record {
  usable = subst (λ held. IsUsable (state over_memory held)) (sym c.holding.ensures.connection)
      (memory_is_clean c.create.new.connection, refl);
  counts = subst IsSome (sym c.holding.ensures.unfailed) refl;
}

pub returns-in-Ok-clause-empty : goal.returns-in-Ok-clause-empty
returns-in-Ok-clause-empty c = ap (λ held. table (state over_memory held)) c.holding.ensures.connection
    ∙ (c.in-Ok.ensures.made (memory_is_clean c.create.new.connection)).1

-- the new table is settled
pub holding-requires : goal.holding-requires
holding-requires c = ∣ (λ clean is_open. (c.in-Ok.ensures.made clean).0) ∣₁
