-- The points of a list in a period, by two searches.
use Rattle.std.proofs.Common.{◌≡◌, ◌≢◌, ℕ, ◌+◌, ◌-◌, ◌<◌, ◌≤◌, ◌⊎◌, inl, inr, true, false, leb, ltb, List, length, slice_get, get_or}
use Rattle.std.proofs.Common.{Option, Some, None, MatchOption, take, drop, sym, ◌∙◌, ap, subst, refl, arith}
use Rattle.std.proofs.lemmas.Bool.{cases_lt, leb-true, leb-false, ltb-true, ltb-false}
use Rattle.std.proofs.lemmas.List.{get_or-take, get_or-drop, length-take-le, length-drop}
use Rattle.std.proofs.lemmas.Option.{slice_get_within, slice_get-get_or, slice_get_read, get_or_from_slice_get}
use Rattle.std.proofs.Math.Seq.{take-length}
use Rattle.std.specs.List.Sorted.{IsPartitionPoint, IsNonDecreasingBy}
use Rattle.tpoint.proofs.PieceLemmas.{rises_le}
use Rattle.tpoint.specs.Moving.{Sequence, Rises}
use Rattle.tpoint.specs.Extents.{Span, HasInstant, first_whole, last_whole}
use Rattle.tpoint.specs.declared.interp.Interp.TheVariants.{Discrete, Step}
use Rattle.tpoint.proofs.Periods.{end_after_last, first_then, last_then}
use Rattle.tpoint.specs.declared.point.Point.{Point}
use Rattle.tpoint.specs.declared.frac.Frac.{Frac}
use Rattle.tpoint.specs.Reduced.{position}
use Rattle.restrict.proofs.Shared.{value_before}
use Rattle.restrict.specs.Cuts.{HasValueAt, IsInstantOf, StopsBefore}
use Rattle.restrict.specs.Inside.{IsAddedFirst, IsAddedLast, IsInside, IsUpToEnd, IsValueAt}

-- ---- elements of a part of a list
from_take : {A : Type 0} → (xs : List A) (n k : ℕ) (x : A) → n ≤ length xs → slice_get (take n xs) k ≡ Some x
    → (k < n) × (slice_get xs k ≡ Some x)
from_take {A} xs n k x h e =
    let within : k < n = omega (arith, slice_get_within (take n xs) k x e, length-take-le n xs h) in
    let same : get_or xs k x ≡ x = sym (get_or-take n xs k x within) ∙ get_or_from_slice_get (take n xs) k x x e in
    (within, slice_get-get_or xs k x (omega arith) ∙ ap Some same)

to_take : {A : Type 0} → (xs : List A) (n k : ℕ) (x : A) → n ≤ length xs → k < n → slice_get xs k ≡ Some x
    → slice_get (take n xs) k ≡ Some x
to_take {A} xs n k x h within e =
    let same : get_or (take n xs) k x ≡ x = get_or-take n xs k x within ∙ get_or_from_slice_get xs k x x e in
    slice_get-get_or (take n xs) k x (omega (arith, length-take-le n xs h)) ∙ ap Some same

from_drop : {A : Type 0} → (xs : List A) (n k : ℕ) (x : A) → slice_get (drop n xs) k ≡ Some x → slice_get xs (n + k) ≡ Some x
from_drop {A} xs n k x e =
    let within = slice_get_within (drop n xs) k x e in
    let same : get_or xs (n + k) x ≡ x = sym (get_or-drop n xs k x) ∙ get_or_from_slice_get (drop n xs) k x x e in
    slice_get-get_or xs (n + k) x (omega (arith, within, length-drop n xs)) ∙ ap Some same

to_drop : {A : Type 0} → (xs : List A) (n k : ℕ) (x : A) → slice_get xs (n + k) ≡ Some x → slice_get (drop n xs) k ≡ Some x
to_drop {A} xs n k x e =
    let within = slice_get_within xs (n + k) x e in
    let same : get_or (drop n xs) k x ≡ x = get_or-drop n xs k x ∙ get_or_from_slice_get xs (n + k) x x e in
    slice_get-get_or (drop n xs) k x (omega (arith, within, length-drop n xs)) ∙ ap Some same

-- ---- instants rise along the list and its parts
pub rising_points : (ps : List Point) → ((k : ℕ) → Rises ps k) → IsNonDecreasingBy (λ q. q.t) ps
rising_points ps rise i j d h within =
    rises_le ps rise i j (get_or ps i d) (get_or ps j d) h (slice_get-get_or ps i d (omega arith)) (slice_get-get_or ps j d within)

pub rising_rest : (ps : List Point) → ((k : ℕ) → Rises ps k) → (n : ℕ) → IsNonDecreasingBy (λ q. q.t) (drop n ps)
rising_rest ps rise n i j d h within =
    rises_le ps rise (n + i) (n + j) (get_or (drop n ps) i d) (get_or (drop n ps) j d) (omega arith)
    (from_drop ps n i (get_or (drop n ps) i d) (slice_get-get_or (drop n ps) i d (omega arith)))
    (from_drop ps n j (get_or (drop n ps) j d) (slice_get-get_or (drop n ps) j d within))

pub whole_rest : (ps : List Point) (n : ℕ) → take (length ps - n) (drop n ps) ≡ drop n ps
whole_rest ps n = rw (sym (length-drop n ps)) (take-length (drop n ps))

-- ---- what the tests of the searches say of a point
below : (x q : Point) (n : ℕ) → x ≡ q → ltb x.t n ≡ true → q.t < n
below x q n e h = subst (λ (y : Point). y.t < n) e (ltb-true x.t n h)

not_below : (x q : Point) (n : ℕ) → x ≡ q → ltb x.t n ≡ false → n ≤ q.t
not_below x q n e h = subst (λ (y : Point). n ≤ y.t) e (ltb-false x.t n h)

at_most : (x q : Point) (n : ℕ) → x ≡ q → leb x.t n ≡ true → q.t ≤ n
at_most x q n e h = subst (λ (y : Point). y.t ≤ n) e (leb-true x.t n h)

above : (x q : Point) (n : ℕ) → x ≡ q → leb x.t n ≡ false → n < q.t
above x q n e h = subst (λ (y : Point). n < y.t) e (leb-false x.t n h)

-- ---- the points that the searches leave
pub found_inside : (ps : List Point) (p : Span) (first count : ℕ) → ((k : ℕ) → Rises ps k) → count ≤ length (drop first ps)
    → IsPartitionPoint (λ (q : Point). ltb q.t (first_whole p) ≡ true) (λ q. ltb q.t (first_whole p) ≡ false) ps first
    → IsPartitionPoint (λ (q : Point). leb q.t (last_whole p) ≡ true) (λ q. leb q.t (last_whole p) ≡ false) (drop first ps) count
    → IsInside ps p (take count (drop first ps))
found_inside ps p first count rise bound begin end =
    let rest = drop first ps in
    record {
      first = first;
      from_list = λ k q e. from_drop ps first k q (from_take rest count k q bound e).1;
      rising = λ k q r e f.
          let a = from_drop ps first k q (from_take rest count k q bound e).1 in
          let b = from_drop ps first (k + 1) r (from_take rest count (k + 1) r bound f).1 in
          rise (first + k) q r a (subst (λ (m : ℕ). slice_get ps m ≡ Some r) (omega arith) b);
      in_period = λ k q e.
          let r = from_take rest count k q bound e in
          let at = from_drop ps first k q r.1 in
          let here = get_or_from_slice_get ps (first + k) q q at in
          let there = get_or_from_slice_get rest k q q r.1 in (
            not_below (get_or ps (first + k) q) q (first_whole p) here
                (begin.1 (first + k) q (omega arith) (slice_get_within ps (first + k) q at)),
            at_most (get_or rest k q) q (last_whole p) there
                (end.0 k q (omega arith) r.0),
          );
      all = λ k q e from to.
          elim (cases_lt k first) [
            | inl early ↦ absurd (omega (
              arith,
              below (get_or ps k q) q (first_whole p) (get_or_from_slice_get ps k q q e)
                  (begin.0 k q (omega arith) early),
            ))
            | inr later ↦
                let at : slice_get ps (first + (k - first)) ≡ Some q = subst (λ (m : ℕ). slice_get ps m ≡ Some q) (omega arith) e in
                let r = to_drop ps first (k - first) q at in
                elim (cases_lt (k - first) count) [
                  | inl within ↦ (k - first, to_take rest count (k - first) q bound within r)
                  | inr over ↦ absurd (omega (
                    arith,
                    above (get_or rest (k - first) q) q (last_whole p)
                        (get_or_from_slice_get rest (k - first) q q r) (end.1 (k - first) q over (slice_get_within rest (k - first) q r)),
                  ))
                ]
          ];
    }

-- ---- an end of the period that no point is at
pub begin_not_listed : (ps : List Point) (p : Span) (qs : List Point) (x : Point) → IsInside ps p qs → 0 < length qs → x ≡ get_or qs 0 x
    → ¬ (x.t ≡ p.begin) → ¬ IsInstantOf qs p.begin
begin_not_listed ps p qs x inside some read other h =
    let at = slice_get_read qs (length qs) 0 x refl some read in
    let order = rises_le qs inside.rising 0 h.i x h.point (omega arith) at h.listed in
    other (omega (arith, order, h.then, first_then p x.t (inside.in_period 0 x at).0))

pub end_not_listed : (ps : List Point) (p : Span) (qs : List Point) (i : ℕ) (x : Point) → IsInside ps p qs → i + 1 ≡ length qs
    → x ≡ get_or qs i x → ¬ (x.t ≡ p.end) → ¬ IsInstantOf qs p.end
end_not_listed ps p qs i x inside last read other h =
    let at = slice_get_read qs (length qs) i x refl (omega arith) read in
    let order = rises_le qs inside.rising h.i i h.point x (omega (arith, slice_get_within qs h.i h.point h.listed)) h.listed at in
    other (omega (arith, order, h.then, last_then p x.t (inside.in_period i x at).1))

pub none_listed : (qs : List Point) (n : ℕ) → length qs < 1 → ¬ IsInstantOf qs n
none_listed qs n h k = absurd (omega (arith, slice_get_within qs k.i k.point k.listed))

-- a value at an end that no point is at is added
pub first_added : (s : Sequence) (p : Span) (qs : List Point) (n : ℕ) (o : Option (ℕ × Frac × Frac)) → n ≡ p.begin
    → ¬ IsInstantOf qs p.begin → s.interp ≢ Discrete → MatchOption o (¬ HasValueAt s n) (IsValueAt s n) → IsAddedFirst s p qs o
first_added s p qs n None e free goes_on h = inr (inr (subst (λ (k : ℕ). ¬ HasValueAt s k) e h))
first_added s p qs n (Some w) e free goes_on h =
    record { not_listed = free; goes_on = goes_on; value = subst (λ (k : ℕ). IsValueAt s k w) e h }

pub last_added : (s : Sequence) (p : Span) (qs : List Point) (o : Option (ℕ × Frac × Frac)) → ¬ IsInstantOf qs p.end
    → ¬ (p.begin ≡ p.end) → s.interp ≢ Discrete
    → MatchOption o ((¬ HasValueAt s p.end) ⊎ (¬ HasValueAt s (last_whole p))) (IsUpToEnd s p) → IsAddedLast s p qs o
last_added s p qs None free apart goes_on h =
    elim h [ inl no_value ↦ inl (inr (inr no_value)) | inr no_value ↦ inr (inr no_value) ]
last_added s p qs (Some w) free apart goes_on h = record { not_listed = free; apart = apart; goes_on = goes_on; value = h }

-- ---- the value up to the end
pub value_itself : (s : Sequence) (p : Span) (n : ℕ) (t : ℕ) (x y : Frac) → n ≡ p.end → ¬ StopsBefore s p n → IsValueAt s n (t, x, y)
    → IsUpToEnd s p (n, x, y)
value_itself s p n t x y e free h =
    record {
      then = e;
      has_value = subst (λ (k : ℕ). HasValueAt s k) e (record { v = position (x, y); value = h.1 });
      there = record { there = λ _. h.1; before = λ stops. absurd (free stops) };
    }

pub value_just_before : (s : Sequence) (p : Span) (n m : ℕ) (t u : ℕ) (x y a b : Frac) → HasInstant p → n ≡ p.end → m ≡ last_whole p
    → s.interp ≡ Step → p.end_in ≡ false → IsValueAt s n (t, x, y) → IsValueAt s m (u, a, b) → IsUpToEnd s p (n, a, b)
value_just_before s p n m t u x y a b has e f is_step not_in h k =
    let end : HasValueAt s n = record { v = position (x, y); value = h.1 } in
    let next : n ≡ m + 1 = omega (arith, e, f, end_after_last p has not_in) in
    record {
      then = e;
      has_value = subst (λ (i : ℕ). HasValueAt s i) e end;
      there = record {
        there = λ free. absurd (free (record { is_step = is_step; is_end = e; not_in = not_in }));
        before = λ _. value_before s m n (position (a, b)) is_step next k.1 end;
      };
    }
