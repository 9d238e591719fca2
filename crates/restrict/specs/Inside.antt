-- What a cut is put together from: the points in the period, and the values at its ends.
use Rattle.std.specs.Prelude.{◌≡◌, ◌≢◌, ℕ, ◌+◌, ◌≤◌, ◌⊎◌, ◌++◌, List, length, slice_get, Option, Some, MatchOption, option_to_list}
use Rattle.std.specs.Prelude.{Bool, ◌||◌, ◌&&◌, nat_lt, is_some}
use Rattle.tpoint.specs.Moving.{Sequence, At, IsPositionOf, Rises, moment}
use Rattle.tpoint.specs.Extents.{Span, first_whole, last_whole}
use Rattle.tpoint.specs.Pieces.{place}
use Rattle.tpoint.specs.declared.frac.Frac.{Frac}
use Rattle.tpoint.specs.declared.point.Point.{Point}
use Rattle.tpoint.specs.declared.interp.Interp.TheVariants.{Discrete}
use Rattle.restrict.specs.Cuts.{HasValueAt, IsInstantOf, IsCutPlace, vertex_of}

-- qs are the points of ps in the period; in ps they stand from the place `first` on
pub record IsInside (ps : List Point) (p : Span) (qs : List Point) : Type 0 where
  pub first : ℕ
  pub from_list : (k : ℕ) (q : Point) → slice_get qs k ≡ Some q
      → slice_get ps (first + k) ≡ Some q
  pub rising : (k : ℕ) → Rises qs k
  pub in_period : (k : ℕ) (q : Point) → slice_get qs k ≡ Some q
      → (first_whole p ≤ q.t) × (q.t ≤ last_whole p)
  pub all : (k : ℕ) (q : Point) → slice_get ps k ≡ Some q → first_whole p ≤ q.t → q.t ≤ last_whole p
      → (j : ℕ) × (slice_get qs j ≡ Some q)

-- w is the sequence's value at n
abbrev pub IsValueAt : Sequence → ℕ → ℕ × Frac × Frac → Type 0
IsValueAt s n w = (w.0 ≡ n) × At s (moment n) (vertex_of w).place

-- the sequence has no value at n that isn't listed already
abbrev pub AddsNone : Sequence → List Point → ℕ → Type 0
AddsNone s qs n = IsInstantOf qs n ⊎ (s.interp ≡ Discrete) ⊎ (¬ HasValueAt s n)

-- what the begin of the period adds
pub record IsFirstPoint (s : Sequence) (p : Span) (qs : List Point) (w : ℕ × Frac × Frac) : Type 0 where
  pub not_listed : ¬ IsInstantOf qs p.begin
  pub goes_on : s.interp ≢ Discrete
  pub value : IsValueAt s p.begin w

abbrev pub IsAddedFirst : Sequence → Span → List Point → Option (ℕ × Frac × Frac) → Type 0
IsAddedFirst s p qs added = MatchOption added (AddsNone s qs p.begin) (IsFirstPoint s p qs)

-- w is the sequence's value at the period's end, or just before it where the cut stops before it
pub record IsUpToEnd (s : Sequence) (p : Span) (w : ℕ × Frac × Frac) : Type 0 where
  pub then : w.0 ≡ p.end
  pub has_value : HasValueAt s p.end
  pub there : IsCutPlace s p (vertex_of w)

-- what its end adds
pub record IsLast (s : Sequence) (p : Span) (qs : List Point) (w : ℕ × Frac × Frac) : Type 0 where
  pub not_listed : ¬ IsInstantOf qs p.end
  pub apart : ¬ (p.begin ≡ p.end)
  pub goes_on : s.interp ≢ Discrete
  pub value : IsUpToEnd s p w

abbrev pub IsAddedLast : Sequence → Span → List Point → Option (ℕ × Frac × Frac) → Type 0
IsAddedLast s p qs added =
    MatchOption added (AddsNone s qs p.end ⊎ (p.begin ≡ p.end) ⊎ (¬ HasValueAt s (last_whole p))) (IsLast s p qs)

-- there is a point in the period, or a value at an end that is in it, or one at both ends
abbrev pub tells_shared : Span → Option (ℕ × Frac × Frac) → List Point → Option (ℕ × Frac × Frac) → Bool
tells_shared p begin qs end =
    nat_lt 0 (length qs) || (is_some begin && (is_some end || p.begin_in)) || (is_some end && p.end_in)

-- w is the point q
pub record IsPoint (q : Point) (w : ℕ × Frac × Frac) : Type 0 where
  pub then : w.0 ≡ q.t
  pub there : IsPositionOf (vertex_of w).place (place q)

-- ws are the points qs, up to the n-th
pub record ArePoints (qs : List Point) (n : ℕ) (ws : List (ℕ × Frac × Frac)) : Type 0 where
  pub all : length ws ≡ n
  pub each : (k : ℕ) (q : Point) (w : ℕ × Frac × Frac) → slice_get qs k ≡ Some q
      → slice_get ws k ≡ Some w → IsPoint q w

-- the list has got the points qs at its end
pub record AddsPoints (qs : List Point) (old new : List (ℕ × Frac × Frac)) : Type 0 where
  pub inside : List (ℕ × Frac × Frac)
  pub are_points : ArePoints qs (length qs) inside
  pub added : new ≡ old ++ inside

-- the value at the begin, the points inside and the value at the end, one after another
pub record AreJoined (begin : Option (ℕ × Frac × Frac)) (qs : List Point)
    (end : Option (ℕ × Frac × Frac)) (ws : List (ℕ × Frac × Frac)) : Type 0 where
  pub inside : List (ℕ × Frac × Frac)
  pub are_points : ArePoints qs (length qs) inside
  pub joined : ws ≡ option_to_list begin ++ inside ++ option_to_list end
