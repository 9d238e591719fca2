use Rattle.sqlstable.proofs.storage.SqlStable.over.Goals as goal

-- what is found is settled
pub holding-requires : goal.holding-requires
holding-requires g c = ∣ (λ clean is_open. c.in_ok-prepare.ensures.sound (clean, is_open)) ∣₁
