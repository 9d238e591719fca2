-- Rectangles round the blocks of a list's legs.
use Rattle.std.specs.Prelude.{◌≡◌, ℕ, ◌+◌, ◌*◌, ◌<◌, ◌≤◌, ◌↔◌, List, length, slice_get, Option, Some, MatchOption}
use Rattle.tpoint.specs.Fraction.{Fraction}
use Rattle.tpoint.specs.Extents.{Span, LiesIn}
use Rattle.tpoint.specs.Places.{EachAt}
use Rattle.tpoint.specs.declared.point.Point.{Point}
use Rattle.store.specs.Bounds.{Holds}
use Rattle.store.specs.declared.bounds.Bounds.{Bounds}
use Rattle.store.specs.declared.blocks.TheConstants.{BLOCK_LEGS}

-- a point is in a block, as the begin or the end of one of its legs
pub record IsIn (place block : ℕ) : Type 0 where
  pub from : BLOCK_LEGS * block ≤ place
  pub to : place ≤ BLOCK_LEGS * block + BLOCK_LEGS

-- the bounds of each block have all of its points, and it has a leg
pub record BlocksHold (bs : List Bounds) (ps : List Point) : Type 0 where
  pub all : (block : ℕ) (b : Bounds) → slice_get bs block ≡ Some b → (place : ℕ) → IsIn place block → EachAt ps (Holds b) place
  pub leg : (block : ℕ) → block < length bs → BLOCK_LEGS * block + 1 < length ps

-- each leg of a list is in one of the blocks that have bounds, of which there is one at least
pub record Cover (bs : List Bounds) (ps : List Point) : Type 0 where
  pub some : 1 ≤ length bs
  pub every : length ps ≤ BLOCK_LEGS * length bs + 1

-- a period, where there is one, has exactly the instants with a property
abbrev pub IsPeriodOf : Option Span → (Fraction → Type 0) → Type 0
IsPeriodOf found P = MatchOption found ((t : Fraction) → ¬ P t) (λ part. (t : Fraction) → LiesIn t part ↔ P t)
