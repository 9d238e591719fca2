-- The cut of a moving point to a period: its values in the period, and no other.
use Rattle.std.specs.Prelude.{◌≡◌, ◌≢◌, ℕ, ◌+◌, ◌-◌, ◌<◌, ◌↔◌, ◌⊎◌, List, map, length, slice_get, Some, Bool, false}
use Rattle.std.specs.Option.{option_map_or}
use Rattle.tpoint.specs.Fraction.{Fraction, ◌≤ᶠ◌, ◌<ᶠ◌}
use Rattle.tpoint.specs.Moving.{Position, Vertex, Sequence, At, HasValue, moment}
use Rattle.tpoint.specs.Extents.{Span, LiesIn, Shares}
use Rattle.tpoint.specs.declared.interp.Interp.TheVariants.{Discrete, Step}
use Rattle.tpoint.specs.Reduced.{position}
use Rattle.tpoint.specs.declared.interp.Interp.{Interp}
use Rattle.tpoint.specs.declared.point.Point.{Point}
use Rattle.tpoint.specs.declared.frac.Frac.{Frac}
use Rattle.restrict.specs.declared.part.Cut.{Cut}

-- ---- what a cut is
-- an interpolation, listed instants with positions that may be fractional, and whether the first and the last of them are in it
pub record Part : Type 0 where
  pub interp : Interp
  pub vertices : List Vertex
  pub begin_in : Bool
  pub end_in : Bool

abbrev pub vertex_of : ℕ × Frac × Frac → Vertex
vertex_of p = record { time = p.0; place = position (p.1, p.2) }

abbrev pub part_of : Cut → Part
part_of c = record {
  interp = c.interp;
  vertices = map vertex_of c.points.items;
  begin_in = c.begin_in;
  end_in = c.end_in;
}

-- from the first listed instant to the last
abbrev pub time_at : List Vertex → ℕ → ℕ
time_at list k = option_map_or (λ (w : Vertex). w.time) (slice_get list k) 0

abbrev pub extent_of : Part → Span
extent_of c = record {
  begin = time_at c.vertices 0;
  end = time_at c.vertices (length c.vertices - 1);
  begin_in = c.begin_in;
  end_in = c.end_in;
}

-- the cut has the value v at t: as a sequence has values, but none at an end that isn't in
pub record Has (c : Part) (t : Fraction) (v : Position) : Type 0 where
  pub in_extent : LiesIn t (extent_of c)
  pub value : HasValue c.interp c.vertices t v

-- ---- which instants it lists
pub record HasValueAt (s : Sequence) (n : ℕ) : Type 0 where
  pub v : Position
  pub value : At s (moment n) v

-- n is the instant of one of the points
pub record IsInstantOf (ps : List Point) (n : ℕ) : Type 0 where
  pub i : ℕ
  pub point : Point
  pub listed : slice_get ps i ≡ Some point
  pub then : point.t ≡ n

-- n is one of the sequence's instants in the period
pub record IsInstantIn (s : Sequence) (p : Span) (n : ℕ) : Type 0 where
  pub in_period : LiesIn (moment n) p
  pub listed : IsInstantOf s.points n

-- n is an end of the period, in it or not, at which the sequence has a value, and the sequence has values between its instants
pub record IsEndAlong (s : Sequence) (p : Span) (n : ℕ) : Type 0 where
  pub goes_on : s.interp ≢ Discrete
  pub is_end : (n ≡ p.begin) ⊎ (n ≡ p.end)
  pub has_value : HasValueAt s n

-- n is an instant that the cut lists
abbrev pub IsCutInstant : Sequence → Span → ℕ → Type 0
IsCutInstant s p n = IsInstantIn s p n ⊎ IsEndAlong s p n

pub record IsListedIn (list : List Vertex) (n : ℕ) : Type 0 where
  pub i : ℕ
  pub point : Vertex
  pub listed : slice_get list i ≡ Some point
  pub then : point.time ≡ n

-- ---- and with which positions
-- v is the sequence's value just before n: it has it from some instant on until n
pub record HasValueBefore (s : Sequence) (n : ℕ) (v : Position) : Type 0 where
  pub from : Fraction
  pub earlier : from <ᶠ moment n
  pub held : (t : Fraction) → from ≤ᶠ t → t <ᶠ moment n → At s t v

-- n is the period's end, which isn't in it, and the sequence may leave its position there at once
pub record StopsBefore (s : Sequence) (p : Span) (n : ℕ) : Type 0 where
  pub is_step : s.interp ≡ Step
  pub is_end : n ≡ p.end
  pub not_in : p.end_in ≡ false

-- w has the sequence's value at its instant, or just before it where the cut stops before it
pub record IsCutPlace (s : Sequence) (p : Span) (w : Vertex) : Type 0 where
  pub there : ¬ StopsBefore s p w.time → At s (moment w.time) w.place
  pub before : StopsBefore s p w.time → HasValueBefore s w.time w.place

-- ---- the cut of a sequence to a period
pub record IsCut (s : Sequence) (p : Span) (c : Part) : Type 0 where
  pub shared : Shares (At s) p
  pub same_interp : c.interp ≡ s.interp
  pub ascending : (k : ℕ) (a b : Vertex) → slice_get c.vertices k ≡ Some a
      → slice_get c.vertices (k + 1) ≡ Some b → a.time < b.time
  pub instants : (n : ℕ) → IsListedIn c.vertices n ↔ IsCutInstant s p n
  pub positions : (k : ℕ) (w : Vertex) → slice_get c.vertices k ≡ Some w → IsCutPlace s p w
  -- an end of the cut isn't in it where it is an end of the period that isn't in
  pub begin_open : (c.begin_in ≡ false) ↔ ((p.begin_in ≡ false) × IsListedIn c.vertices p.begin)
  pub end_open : (c.end_in ≡ false) ↔ ((p.end_in ≡ false) × IsListedIn c.vertices p.end)
  pub values : (t : Fraction) (v : Position) → Has c t v ↔ (LiesIn t p × At s t v)

-- there is none: period and sequence share no instant
pub record HasNoCut (s : Sequence) (p : Span) : Type 0 where
  pub nothing_shared : ¬ Shares (At s) p
