-- How far a learner has come.
use Rattle.std.specs.Prelude.{ℕ, ◌≤◌, ◌<◌, Option, IsSome}
use Rattle.synod.specs.declared.slot.TheConstants.{SLOTS}
use Rattle.sessions.specs.declared.command.Command.{Command}

-- every slot from the first on is learnt, up to p, which lies in the log or right behind it
pub record IsLearntTo (learnt : ℕ → Option Command) (first p : ℕ) : Type 0 where
  pub from : first ≤ p
  pub in_log : p ≤ SLOTS
  pub below : (s : ℕ) → first ≤ s → s < p → IsSome (learnt s)

-- and p isn't
pub record IsPrefix (learnt : ℕ → Option Command) (first p : ℕ) : Type 0 where
  pub learnt_to : IsLearntTo learnt first p
  pub here : p < SLOTS → IsSome (learnt p) → ⊥
