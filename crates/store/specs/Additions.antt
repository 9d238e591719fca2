-- A point that is to be added, as clauses see it.
use Rattle.std.specs.Prelude.{ℕ, List}
use Rattle.tpoint.specs.declared.point.Point.{Point}

-- the id of the feature, and the point that follows its last one
pub record Added : Type 0 where
  pub id : List ℕ
  pub point : Point
