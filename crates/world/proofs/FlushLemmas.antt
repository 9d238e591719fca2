-- Frames that are delivered one after the other.
use Rattle.std.proofs.Common.{◌≡◌, ℕ, ◌+◌, ◌<◌, ◌≤◌, List, Bool, true, length, Option, Some, MatchOption, sym, subst, add-one, arith}
use Rattle.std.proofs.lemmas.Option.{MatchOption-at_some, slice_get_within}
use Rattle.stable.specs.Script.{Script}
use Rattle.stable.specs.declared.stable.Stable.{Ghosts}
use Rattle.world_model.specs.Flushing.{Delivers, none, more}
use Rattle.world_model.specs.Waiting.{IsLowestWaiting, NoneWaits}
use Rattle.world_model.specs.Worlds.{WorldState, DeliversFrame}

module _ {S : Type 0} (storages : Ghosts (Script S)) where
  -- the same world, and the same number
  pub as_delivered : (old now seen : WorldState S) (n k : ℕ) → Delivers storages old n now → seen ≡ now → n ≡ k
      → Delivers storages old k seen
  as_delivered old now seen n k delivers same count =
      subst (λ m. Delivers storages old m seen) count (subst (λ (w : WorldState S). Delivers storages old n w) (sym same) delivers)

  -- nothing is delivered yet
  pub none_delivered : (w : WorldState S) → Delivers storages w 0 w
  none_delivered w = none

  -- what was looked for and found is delivered, the world being as it was in between
  pub one_delivered : (old now seen new : WorldState S) (n k : ℕ) (found : Option ℕ) → Delivers storages old n now
      → seen ≡ now → MatchOption found (NoneWaits now.waiting) (IsLowestWaiting now.waiting) → found ≡ Some k
      → DeliversFrame storages seen k new → Delivers storages old (n + 1) new
  one_delivered old now seen new n k found before same lowest here delivers =
      subst (λ m. Delivers storages old m new) (sym (add-one n))
      (more n k now new before (MatchOption-at_some (NoneWaits now.waiting) (IsLowestWaiting now.waiting) k here lowest)
      (subst (λ (w : WorldState S). DeliversFrame storages w k new) same delivers))

-- a frame that waits was sent
pub waiting_was_sent : (waiting : List Bool) (frames k : ℕ) (found : Option ℕ) → length waiting ≡ frames
    → MatchOption found (NoneWaits waiting) (IsLowestWaiting waiting) → found ≡ Some k → frames ≤ k → ⊥
waiting_was_sent waiting frames k found same lowest here past =
    let waits = (MatchOption-at_some (NoneWaits waiting) (IsLowestWaiting waiting) k here lowest).waits in
    let within : k < length waiting = slice_get_within waiting k true waits in
    omega (arith, within, same, past)
