-- A sequence has no value before its first instant, and none after its last.
use Rattle.std.proofs.Common.{◌≡◌, ℕ, ◌+◌, ◌-◌, ◌<◌, ◌≤◌, List, [], ◌∷◌, length, get_or, slice_get, Some, inl, inr, sym, ap, subst}
use Rattle.std.proofs.Common.{arith}
use Rattle.std.specs.Option.{option_map_or}
use Rattle.std.proofs.lemmas.Bool.{cases_lt, cases_eq}
use Rattle.std.proofs.lemmas.Option.{slice_get-get_or}
use Rattle.tpoint.proofs.PlaceLemmas.{stands_at}
use Rattle.tpoint.specs.Fraction.{Fraction, ◌≤ᶠ◌}
use Rattle.tpoint.specs.Moving.{Position, Sequence, IsValid, Rises, moment}
use Rattle.tpoint.specs.Pieces.{AtPoint, OnPiece}
use Rattle.tpoint.specs.Extents.{closed}
use Rattle.tpoint.proofs.Periods.{at_or_before}
use Rattle.tpoint.specs.Spans.{instant_at, span_of, HasValuesIn}
use Rattle.tpoint.specs.declared.point.Point.{Point}
use Rattle.tpoint.specs.declared.interp.Interp.{Interp}
use Rattle.tpoint.specs.declared.interp.Interp.TheVariants.{Discrete, Step, Linear}
use Rattle.tpoint.proofs.Fractions.{moment_le, ≤ᶠ_trans, ≤ᶠ_of_≈}
use Rattle.tpoint.proofs.PieceLemmas.{rises_le, place_within, piece_from, piece_until, discrete_from, last_from, single_from, no_leg}

-- ---- the instant at a place
pub instant_there : (ps : List Point) (k : ℕ) (p : Point) → slice_get ps k ≡ Some p → instant_at ps k ≡ p.t
instant_there ps k p at = ap (λ o. option_map_or (λ (q : Point). q.t) o 0) at

pub instant_read : (ps : List Point) (k : ℕ) (p : Point) → k < length ps → p ≡ get_or ps k p → instant_at ps k ≡ p.t
instant_read ps k p within read = instant_there ps k p (stands_at ps k p within read)

point_there : (ps : List Point) (k : ℕ) → k < length ps → (p : Point) × (slice_get ps k ≡ Some p)
point_there [] k within = absurd (omega arith)
point_there (x ∷ xs) k within = (get_or (x ∷ xs) k x, slice_get-get_or (x ∷ xs) k x within)

-- ---- a piece ends no later than the last instant
single : (interp : Interp) (ps : List Point) → ((k : ℕ) → Rises ps k) → (i : ℕ) (p : Point) → length ps ≤ i + 1 →
    slice_get ps i ≡ Some p → (t : Fraction) (v : Position) → OnPiece interp ps i t v → AtPoint p t v
single Discrete ps rise i p over at t v h = discrete_from ps i p at t v h
single Step ps rise i p over at t v h = last_from ps rise i p over at t v h
single Linear ps rise i p over at t v h =
    elim (cases_eq (length ps) 1) [
      | inl one ↦ single_from ps i p one at t v h
      | inr more ↦ absurd (no_leg ps i over more t v h)
    ]

until_last : (interp : Interp) (ps : List Point) → ((k : ℕ) → Rises ps k) → (i n : ℕ) (last : Point) → length ps ≡ n + 1 →
    slice_get ps n ≡ Some last → (t : Fraction) (v : Position) → OnPiece interp ps i t v → t ≤ᶠ moment last.t
until_last interp ps rise i n last whole at t v h =
    let within = place_within interp ps i t v h in
    elim (cases_lt i n) [
      | inl more ↦
          let next = get_or ps (i + 1) last in
          let there = slice_get-get_or ps (i + 1) last (omega arith) in
          let order = rises_le ps rise (i + 1) n next last (omega arith) there at in
          ≤ᶠ_trans (piece_until interp ps i next t v rise there h) ((moment_le next.t last.t).0 order)
      | inr none ↦
          let same : i ≡ n = omega arith in
          let it = subst (λ k. OnPiece interp ps k t v) same h in
          ≤ᶠ_of_≈ (single interp ps rise n last (omega arith) at t v it).then
    ]

from_first : (interp : Interp) (ps : List Point) → ((k : ℕ) → Rises ps k) → (i : ℕ) (first : Point) →
    slice_get ps 0 ≡ Some first → (t : Fraction) (v : Position) → OnPiece interp ps i t v → moment first.t ≤ᶠ t
from_first interp ps rise i first at t v h =
    let own = get_or ps i first in
    let there = slice_get-get_or ps i first (place_within interp ps i t v h) in
    let order = rises_le ps rise 0 i first own (omega arith) at there in
    ≤ᶠ_trans ((moment_le first.t own.t).0 order) (piece_from interp ps i own t v there h)

-- ---- the sequence
pub values_in_span : (s : Sequence) → IsValid s → HasValuesIn s (span_of s.points)
values_in_span s valid =
    record {
      within = λ t v h.
          let n = length s.points - 1 in
          let some = valid.not_empty in
          let first = point_there s.points 0 (omega arith) in
          let last = point_there s.points n (omega arith) in
          record {
            begun = at_or_before (subst (λ (k : ℕ). moment k ≤ᶠ t) (sym (instant_there s.points 0 first.0 first.1))
                (from_first s.interp s.points valid.increasing h.i first.0 first.1 t v h.at_i));
            not_over = at_or_before (subst (λ (k : ℕ). t ≤ᶠ moment k) (sym (instant_there s.points n last.0 last.1))
                (until_last s.interp s.points valid.increasing h.i n last.0 (omega arith) last.1 t v h.at_i));
          };
    }

-- ---- the ends as they are read
pub ends_in_order : (ps : List Point) → ((k : ℕ) → Rises ps k) → (first last : Point) → 1 ≤ length ps → first ≡ get_or ps 0 first →
    last ≡ get_or ps (length ps - 1) last → first.t ≤ last.t
ends_in_order ps rise first last some at_first at_last =
    rises_le ps rise 0 (length ps - 1) first last (omega arith) (stands_at ps 0 first (omega arith) at_first)
    (stands_at ps (length ps - 1) last (omega arith) at_last)

pub span_read : (ps : List Point) (first last : Point) → 1 ≤ length ps → first ≡ get_or ps 0 first →
    last ≡ get_or ps (length ps - 1) last → closed first.t last.t ≡ span_of ps
span_read ps first last some at_first at_last =
    let begins = instant_read ps 0 first (omega arith) at_first in
    let ends = instant_read ps (length ps - 1) last (omega arith) at_last in
    λ j. closed (sym begins j) (sym ends j)
