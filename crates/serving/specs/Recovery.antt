-- How a run that was down as a whole comes back.
use Rattle.std.specs.Prelude.{◌≡◌, ℕ, ◌<◌, min, Bool, IsTrue, Option, Some, None}

-- how far promises reach with one more, whose last slot is this
abbrev pub reach_with : Option ℕ → ℕ → ℕ
reach_with None last = last
reach_with (Some reach) last = min reach last

-- a node that leads has executed what it was promised, and there were votes for what comes then
pub record GoesOn (is_leader : Bool) (reach : Option ℕ) (position horizon : ℕ) : Type 0 where
  pub leads : IsTrue is_leader
  pub last : ℕ
  pub promised : reach ≡ Some last
  pub beyond : last < position
  pub voted : position < horizon
