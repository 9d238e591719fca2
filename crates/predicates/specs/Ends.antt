-- What the two ends of a leg tell of the whole of it.
use Rattle.std.specs.Prelude.{ℤ, ◌<ℤ◌, ◌⊎◌}
use Rattle.tpoint.specs.Extents.{Area, Inside}
use Rattle.tpoint.specs.Pieces.{place}
use Rattle.tpoint.specs.declared.point.Point.{Point}
use Rattle.predicates.specs.declared.ends.Side.{Side}
use Rattle.predicates.specs.declared.ends.Side.TheVariants.{Left, Right, Below, Above}
use Rattle.predicates.specs.declared.questions.Question.{Question}
use Rattle.predicates.specs.declared.questions.Question.TheVariants.{Ever, Always}
use Rattle.predicates.specs.declared.questions.Tri.{Tri}
use Rattle.predicates.specs.declared.questions.Tri.TheVariants.{Yes, No}

-- the point is beyond this bound of the rectangle
abbrev pub IsOn : Side → Point → Area → Type 0
IsOn Left p r = p.x <ℤ r.x0
IsOn Right p r = r.x1 <ℤ p.x
IsOn Below p r = p.y <ℤ r.y0
IsOn Above p r = r.y1 <ℤ p.y

-- both numbers are below the lower of two bounds, or both are above the upper
abbrev pub AreBeyond : ℤ → ℤ → ℤ → ℤ → Type 0
AreBeyond from to low high = ((from <ℤ low) × (to <ℤ low)) ⊎ ((high <ℤ from) × (high <ℤ to))

-- the ends are beyond one and the same bound of the rectangle
abbrev pub Miss : Point → Point → Area → Type 0
Miss a b r = AreBeyond a.x b.x r.x0 r.x1 ⊎ AreBeyond a.y b.y r.y0 r.y1

-- the ends tell that the leg never meets the rectangle, or that it never leaves it
abbrev pub Settle : Question → Point → Point → Area → Type 0
Settle Ever a b r = Miss a b r
Settle Always a b r = Inside (place a) r × Inside (place b) r

-- the answer then
abbrev pub settled : Question → Tri
settled Ever = No
settled Always = Yes
