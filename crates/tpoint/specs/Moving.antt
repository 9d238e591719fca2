-- Moving points and their values at every instant, whole or fractional.
--
-- OGC 19-045r3 has the subject, a moving point: a list of instants, a list of positions and an
-- interpolation. What `Discrete`, `Step` and `Linear` mean is this product's own, and stands here:
-- a relation on all fractions of a millisecond, with no search.
use Rattle.std.specs.Prelude.{◌≡◌, ℕ, ◌+◌, ◌<◌, ◌≤◌, List, map, length, slice_get, pos, ◌⊎◌, Some}
use Rattle.tpoint.specs.Places.{EachAt}
use Rattle.tpoint.specs.Coordinates.{InRange}
use Rattle.tpoint.specs.Fraction.{Fraction, ◌≈◌, ◌≤ᶠ◌, ◌<ᶠ◌, whole, ◌-ᶠ◌, ◌*ᶠ◌}
use Rattle.tpoint.specs.declared.interp.Interp.{Interp}
use Rattle.tpoint.specs.declared.interp.Interp.TheVariants.{Discrete, Step, Linear}
use Rattle.tpoint.specs.declared.point.Point.{Point}
use Rattle.tpoint.specs.declared.seq.TheConstants.{MOST_POINTS}

-- ---- what is listed
-- a position, its coordinates in millimetres
pub record Position : Type 0 where
  pub x : Fraction
  pub y : Fraction

-- a listed instant, in milliseconds, with its position
pub record Vertex : Type 0 where
  pub time : ℕ
  pub place : Position

-- an instant as a fraction
abbrev pub moment : ℕ → Fraction
moment n = whole (pos n)

-- v is the position p
pub record IsPositionOf (v p : Position) : Type 0 where
  pub same_x : v.x ≈ p.x
  pub same_y : v.y ≈ p.y

-- ---- Discrete: t is the instant listed at i, and v its position
pub record AtListed (list : List Vertex) (i : ℕ) (t : Fraction) (v : Position) : Type 0 where
  pub point : Vertex
  pub listed : slice_get list i ≡ Some point
  pub then : t ≈ moment point.time
  pub there : IsPositionOf v point.place

-- ---- Step: t lies from the first to the last instant, the one at i is the last that is not after
-- t, and v is its position
pub record AtStep (list : List Vertex) (i : ℕ) (t : Fraction) (v : Position) : Type 0 where
  pub point : Vertex
  pub listed : slice_get list i ≡ Some point
  pub reached : moment point.time ≤ᶠ t
  pub not_left : (j : ℕ) (later : Vertex) → i < j → slice_get list j ≡ Some later →
      t <ᶠ moment later.time
  pub not_over : (j : ℕ) × (last : Vertex) × (slice_get list j ≡ Some last) ×
      (t ≤ᶠ moment last.time)
  pub there : IsPositionOf v point.place

-- ---- Linear: t lies between neighbours, and v is in proportion on the way from one to the other
-- (v - from) (t1 - t0) = (to - from) (t - t0), for one coordinate
abbrev pub InProportion : Fraction → Fraction → Fraction → Fraction → Fraction → Fraction → Type 0
InProportion v from to t t0 t1 = (v -ᶠ from) *ᶠ (t1 -ᶠ t0) ≈ (to -ᶠ from) *ᶠ (t -ᶠ t0)

pub record OnLeg (a b : Vertex) (t : Fraction) (v : Position) : Type 0 where
  pub begun : moment a.time ≤ᶠ t
  pub not_over : t ≤ᶠ moment b.time
  pub along_x : InProportion v.x a.place.x b.place.x t (moment a.time) (moment b.time)
  pub along_y : InProportion v.y a.place.y b.place.y t (moment a.time) (moment b.time)

pub record BetweenNeighbours (list : List Vertex) (i : ℕ) (t : Fraction) (v : Position) : Type 0
  where
    pub point : Vertex
    pub next : Vertex
    pub listed : slice_get list i ≡ Some point
    pub next_listed : slice_get list (i + 1) ≡ Some next
    pub between : OnLeg point next t v

-- a single point has its position at its own instant
abbrev pub AtLinear : List Vertex → ℕ → Fraction → Position → Type 0
AtLinear list i t v = BetweenNeighbours list i t v ⊎ ((length list ≡ 1) × AtListed list i t v)

-- ---- the value at t is v, by what is listed at i
abbrev pub AtPlace : Interp → List Vertex → ℕ → Fraction → Position → Type 0
AtPlace Discrete = AtListed
AtPlace Step = AtStep
AtPlace Linear = AtLinear

-- the value at t is v
pub record HasValue (interp : Interp) (list : List Vertex) (t : Fraction) (v : Position) : Type 0
  where
    pub i : ℕ
    pub at_i : AtPlace interp list i t v

-- ---- a sequence: its interpolation and its points, in the order in which they are listed
pub record Sequence : Type 0 where
  pub interp : Interp
  pub points : List Point

abbrev pub vertex : Point → Vertex
vertex p = record { time = p.t; place = record { x = whole p.x; y = whole p.y } }

abbrev pub At : Sequence → Fraction → Position → Type 0
At s t v = HasValue s.interp (map vertex s.points) t v

-- the point listed next to k is later than the one at k
abbrev pub Rises : List Point → ℕ → Type 0
Rises ps k = (p q : Point) → slice_get ps k ≡ Some p → slice_get ps (k + 1) ≡ Some q → p.t < q.t

-- a point has its coordinates in range
pub record InBounds (p : Point) : Type 0 where
  pub x_fits : InRange p.x
  pub y_fits : InRange p.y

-- a valid sequence: 1 to `MOST_POINTS` points, instants strictly increasing, coordinates in range
-- (every instant of the type is in range)
pub record IsValid (s : Sequence) : Type 0 where
  pub not_empty : 1 ≤ length s.points
  pub not_too_many : length s.points ≤ MOST_POINTS
  pub increasing : (k : ℕ) → Rises s.points k
  pub in_range : (k : ℕ) → EachAt s.points InBounds k

-- a sequence has at most one value at an instant
abbrev pub HasOneValue : Sequence → Type 0
HasOneValue s = (t : Fraction) (v w : Position) → At s t v → At s t w → IsPositionOf v w
