-- The text of a cut is one.
use Rattle.std.proofs.Common.{◌⊎◌, ◌↔◌, Bool, true, false, negsuc, ◌≡◌, ℕ, zero, suc, ◌<◌, ◌≤◌, ◌++◌, codes, decimal, List, [], ◌∷◌, map}
use Rattle.std.proofs.Common.{length, slice_get, Some, ℤ, pos, ◌*ℤ◌, ◌-ℤ◌, inl, inr, refl, sym, ◌∙◌, ap, subst, arith}
use Rattle.std.specs.List.{flat_map}
use Rattle.std.proofs.lemmas.Bool.{cases_eq, cases_Bool}
use Rattle.std.proofs.lemmas.Int.{ints}
use Rattle.std.proofs.lemmas.Option.{same_Some, none-some}
use Rattle.tpoint.specs.Fraction.{Fraction, ◌≤ᶠ◌}
use Rattle.tpoint.specs.Moving.{Position, Vertex, IsPositionOf, Sequence, IsValid, moment}
use Rattle.tpoint.specs.Extents.{Span}
use Rattle.tpoint.specs.FracText.{frac_text}
use Rattle.tpoint.specs.declared.frac.Frac.{Frac}
use Rattle.tpoint.specs.declared.interp.Interp.{Interp}
use Rattle.tpoint.specs.declared.interp.Interp.TheVariants.{Discrete, Step, Linear}
use Rattle.tpoint.proofs.Fractions.{≤ᶠ_refl}
use Rattle.tpoint.proofs.Unique.{at_unique}
use Rattle.restrict.specs.Cuts.{IsCut, IsListedIn, IsCutPlace, HasValueBefore, StopsBefore, vertex_of}
use Rattle.store.specs.Answers.{SaysCut, fix_text, part_text}
use Rattle.store.proofs.OneValue.{one_pair}

-- ---- two ascending lists with the same instants, and with the same texts at each
abbrev Triple : Type 0
Triple = ℕ × Frac × Frac

abbrev Up : List Triple → Type 0
Up ws = (k : ℕ) (a b : Triple) → slice_get ws k ≡ Some a → slice_get ws (suc k) ≡ Some b → a.0 < b.0

record Listed (ws : List Triple) (n : ℕ) : Type 0 where
  i : ℕ
  w : Triple
  here : slice_get ws i ≡ Some w
  then : w.0 ≡ n

up_tail : (x : Triple) (xs : List Triple) → Up (x ∷ xs) → Up xs
up_tail x xs up k a b e f = up (suc k) a b e f

after_first : (x : Triple) (xs : List Triple) → Up (x ∷ xs) → (k : ℕ) (b : Triple) → slice_get xs k ≡ Some b → x.0 < b.0
after_first x [] up k b e = absurd (none-some b e)
after_first x (y ∷ ys) up zero b e = up zero x b refl e
after_first x (y ∷ ys) up (suc k) b e =
    let first = up zero x y refl refl in
    let rest = after_first y ys (up_tail x (y ∷ ys) up) k b e in
    omega arith

first_least : (x : Triple) (xs : List Triple) → Up (x ∷ xs) → (n i : ℕ) (w : Triple) → slice_get (x ∷ xs) i ≡ Some w → w.0 ≡ n → x.0 ≤ n
first_least x xs up n zero w e h = let same = ap (λ (z : Triple). z.0) (same_Some x w e) in omega arith
first_least x xs up n (suc i) w e h = let less = after_first x xs up i w e in omega arith

in_tail : (y : Triple) (ys : List Triple) (n i : ℕ) (w : Triple) → slice_get (y ∷ ys) i ≡ Some w → w.0 ≡ n → y.0 < n → Listed ys n
in_tail y ys n zero w e h less = let same = ap (λ (z : Triple). z.0) (same_Some y w e) in absurd (omega arith)
in_tail y ys n (suc i) w e h less = record { i = i; w = w; here = e; then = h }

tail_listed : (x y : Triple) (xs ys : List Triple) → Up (x ∷ xs) → x.0 ≡ y.0 →
    ((n : ℕ) → Listed (x ∷ xs) n → Listed (y ∷ ys) n) → (n : ℕ) → Listed xs n → Listed ys n
tail_listed x y xs ys up same all n l =
    let less = after_first x xs up l.i l.w l.here in
    let then = l.then in
    let m = all n (record { i = suc l.i; w = l.w; here = l.here; then = l.then }) in
    in_tail y ys n m.i m.w m.here m.then (omega arith)

abbrev Same : List Triple → List Triple → Type 0
Same xs ys = (length xs ≡ length ys) × (flat_map fix_text xs ≡ flat_map fix_text ys)

abbrev SameTexts : List Triple → List Triple → Type 0
SameTexts xs ys = (i j : ℕ) (a b : Triple) → slice_get xs i ≡ Some a → slice_get ys j ≡ Some b → a.0 ≡ b.0 → fix_text a ≡ fix_text b

same_lists : (xs ys : List Triple) → Up xs → Up ys → ((n : ℕ) → Listed xs n → Listed ys n) →
    ((n : ℕ) → Listed ys n → Listed xs n) → SameTexts xs ys → Same xs ys
same_lists [] [] up_x up_y there back texts = (refl, refl)
same_lists [] (y ∷ ys) up_x up_y there back texts =
    let l = back y.0 (record { i = 0; w = y; here = refl; then = refl }) in absurd (none-some l.w l.here)
same_lists (x ∷ xs) [] up_x up_y there back texts =
    let l = there x.0 (record { i = 0; w = x; here = refl; then = refl }) in absurd (none-some l.w l.here)
same_lists (x ∷ xs) (y ∷ ys) up_x up_y there back texts =
    let l = there x.0 (record { i = 0; w = x; here = refl; then = refl }) in
    let m = back y.0 (record { i = 0; w = y; here = refl; then = refl }) in
    let least_y = first_least y ys up_y x.0 l.i l.w l.here l.then in
    let least_x = first_least x xs up_x y.0 m.i m.w m.here m.then in
    let same : x.0 ≡ y.0 = omega arith in
    let back_same : y.0 ≡ x.0 = sym same in
    let rest = same_lists xs ys (up_tail x xs up_x) (up_tail y ys up_y) (tail_listed x y xs ys up_x same there)
    (tail_listed y x ys xs up_y back_same back) (λ i j a b e f h. texts (suc i) (suc j) a b e f h) in
    let first = texts 0 0 x y refl refl same in
    (ap (λ (n : ℕ). suc n) rest.0, ap (λ (t : List ℕ). t ++ flat_map fix_text xs) first ∙ ap (λ (t : List ℕ). fix_text y ++ t) rest.1)

-- ---- two cuts
of_mapped : (xs : List Triple) (k : ℕ) (w : Vertex) → slice_get (map vertex_of xs) k ≡ Some w
    → (x : Triple) × (slice_get xs k ≡ Some x) × (vertex_of x ≡ w)
of_mapped [] k w e = absurd (none-some w e)
of_mapped (x ∷ xs) zero w e = (x, refl, same_Some (vertex_of x) w e)
of_mapped (x ∷ xs) (suc k) w e = of_mapped xs k w e

to_mapped : (xs : List Triple) (k : ℕ) (x : Triple) → slice_get xs k ≡ Some x → slice_get (map vertex_of xs) k ≡ Some (vertex_of x)
to_mapped [] k x e = absurd (none-some x e)
to_mapped (y ∷ xs) zero x e = ap (λ (z : Triple). Some (vertex_of z)) (same_Some y x e)
to_mapped (y ∷ xs) (suc k) x e = to_mapped xs k x e

abbrev CutOf : Sequence → Span → Interp → Bool → Bool → List Triple → Type 0
CutOf s p interp b e xs = IsCut s p (record { interp = interp; vertices = map vertex_of xs; begin_in = b; end_in = e })

up_of : (s : Sequence) (p : Span) (interp : Interp) (b e : Bool) (xs : List Triple) → CutOf s p interp b e xs → Up xs
up_of s p interp b e xs c k x y f g =
    c.ascending k (vertex_of x) (vertex_of y) (to_mapped xs k x f)
    (subst (λ (n : ℕ). slice_get (map vertex_of xs) n ≡ Some (vertex_of y)) (omega arith) (to_mapped xs (suc k) y g))

listed_of : (xs : List Triple) (n : ℕ) → IsListedIn (map vertex_of xs) n → Listed xs n
listed_of xs n l =
    let x = of_mapped xs l.i l.point l.listed in
    record { i = l.i; w = x.0; here = x.1; then = ap (λ (w : Vertex). w.time) x.2 ∙ l.then }

listed_in : (xs : List Triple) (n : ℕ) → Listed xs n → IsListedIn (map vertex_of xs) n
listed_in xs n l = record { i = l.i; point = vertex_of l.w; listed = to_mapped xs l.i l.w l.here; then = l.then }

-- ---- an instant has one position, where it stops before it too
in_order : (a b : Fraction) → (a ≤ᶠ b) ⊎ (b ≤ᶠ a)
in_order a b = by (b.num *ℤ pos a.den -ℤ a.num *ℤ pos b.den) refl
  where
    by : (d : ℤ) → b.num *ℤ pos a.den -ℤ a.num *ℤ pos b.den ≡ d → (a ≤ᶠ b) ⊎ (b ≤ᶠ a)
    by (pos n) e = inl (record { cross = omega (arith, ints, e) })
    by (negsuc n) e = inr (record { cross = omega (arith, ints, e) })

one_before : (s : Sequence) → IsValid s → (n : ℕ) (v w : Position) → HasValueBefore s n v → HasValueBefore s n w → IsPositionOf v w
one_before s valid n v w h k =
    elim (in_order h.from k.from) [
      | inl order ↦ at_unique s valid k.from v w (h.held k.from order k.earlier) (k.held k.from (≤ᶠ_refl k.from) k.earlier)
      | inr order ↦ at_unique s valid h.from v w (h.held h.from (≤ᶠ_refl h.from) h.earlier) (k.held h.from order h.earlier)
    ]

stops_or_not : (s : Sequence) (p : Span) (n : ℕ) → StopsBefore s p n ⊎ (¬ (StopsBefore s p n))
stops_or_not s p n = by_interp s.interp refl
  where
    by_end : s.interp ≡ Step → (p.end_in ≡ true) ⊎ (p.end_in ≡ false) → (n ≡ p.end) ⊎ (¬ (n ≡ p.end))
        → StopsBefore s p n ⊎ (¬ (StopsBefore s p n))
    by_end is (inl closed) at = inr (λ stops. let open_end = stops.not_in in absurd (cc))
    by_end is (inr open_end) (inl at) = inl (record { is_step = is; is_end = at; not_in = open_end })
    by_end is (inr open_end) (inr other) = inr (λ stops. other stops.is_end)

    by_interp : (i : Interp) → s.interp ≡ i → StopsBefore s p n ⊎ (¬ (StopsBefore s p n))
    by_interp Discrete is = inr (λ stops. let step = stops.is_step in absurd (cc))
    by_interp Step is = by_end is (cases_Bool p.end_in) (cases_eq n p.end)
    by_interp Linear is = inr (λ stops. let step = stops.is_step in absurd (cc))

one_place : (s : Sequence) → IsValid s → (p : Span) (n : ℕ) (v w : Position)
    → IsCutPlace s p (record { time = n; place = v }) → IsCutPlace s p (record { time = n; place = w }) → IsPositionOf v w
one_place s valid p n v w h k =
    elim (stops_or_not s p n) [
      | inl stops ↦ one_before s valid n v w (h.before stops) (k.before stops)
      | inr goes_on ↦ at_unique s valid (moment n) v w (h.there goes_on) (k.there goes_on)
    ]

same_fix : (s : Sequence) → IsValid s → (p : Span) (a b : Triple) → IsCutPlace s p (vertex_of a) → IsCutPlace s p (vertex_of b) →
    a.0 ≡ b.0 → fix_text a ≡ fix_text b
same_fix s valid p a b h k same =
    let h' = subst (λ (n : ℕ). IsCutPlace s p (record { time = n; place = (vertex_of a).place })) same h in
    let places = one_place s valid p b.0 (vertex_of a).place (vertex_of b).place h' k in
    let texts = one_pair (a.1, a.2) (b.1, b.2) places in
    ap (λ (n : ℕ). codes " | " ++ decimal n ++ codes " " ++ frac_text a.1 ++ codes " " ++ frac_text a.2) same
    ∙ ap (λ (t : List ℕ). codes " | " ++ decimal b.0 ++ codes " " ++ t ++ codes " " ++ frac_text a.2) texts.0
    ∙ ap (λ (t : List ℕ). codes " | " ++ decimal b.0 ++ codes " " ++ frac_text b.1 ++ codes " " ++ t) texts.1

-- ---- the marks
same_flag : (a b : Bool) → (a ≡ false → b ≡ false) → (b ≡ false → a ≡ false) → a ≡ b
same_flag true true h k = refl
same_flag true false h k = k refl
same_flag false true h k = sym (h refl)
same_flag false false h k = refl

open_too : (p_in a b : Bool) (xs ys : List Vertex) (n : ℕ)
    → (a ≡ false) ↔ ((p_in ≡ false) × IsListedIn xs n) → (b ≡ false) ↔ ((p_in ≡ false) × IsListedIn ys n)
    → (IsListedIn xs n → IsListedIn ys n) → a ≡ false → b ≡ false
open_too p_in a b xs ys n h k there open_end = let is = h.0 open_end in k.1 (is.0, there is.1)

same_parts : (s : Sequence) → IsValid s → (p : Span) (i j : Interp) (b e b' e' : Bool) (xs ys : List Triple)
    → CutOf s p i b e xs → CutOf s p j b' e' ys → part_text i b e xs ≡ part_text j b' e' ys
same_parts s valid p i j b e b' e' xs ys c d =
    let there : (n : ℕ) → IsListedIn (map vertex_of xs) n → IsListedIn (map vertex_of ys) n =
    λ n l. (d.instants n).1 ((c.instants n).0 l) in
    let back : (n : ℕ) → IsListedIn (map vertex_of ys) n → IsListedIn (map vertex_of xs) n = λ n l. (c.instants n).1 ((d.instants n).0 l) in
    let same = same_lists xs ys (up_of s p i b e xs c) (up_of s p j b' e' ys d)
    (λ n l. listed_of ys n (there n (listed_in xs n l))) (λ n l. listed_of xs n (back n (listed_in ys n l)))
    (λ k l x y f g h. same_fix s valid p x y (c.positions k (vertex_of x) (to_mapped xs k x f))
    (d.positions l (vertex_of y) (to_mapped ys l y g)) h) in
    let interps : i ≡ j = c.same_interp ∙ sym d.same_interp in
    let begins : b ≡ b' = same_flag b b' (open_too p.begin_in b b' _ _ p.begin c.begin_open d.begin_open (there p.begin))
    (open_too p.begin_in b' b _ _ p.begin d.begin_open c.begin_open (back p.begin)) in
    let ends : e ≡ e' = same_flag e e' (open_too p.end_in e e' _ _ p.end c.end_open d.end_open (there p.end))
    (open_too p.end_in e' e _ _ p.end d.end_open c.end_open (back p.end)) in
    rw (interps, begins, ends, same.0, same.1) refl

pub cut_one : (s : Sequence) → IsValid s → (p : Span) (a b : List ℕ) → SaysCut s p a → SaysCut s p b → a ≡ b
cut_one s valid p a b (inl h) (inl k) =
    h.spelling
    ∙ same_parts s valid p h.interp k.interp h.begin_in h.end_in k.begin_in k.end_in h.fixes k.fixes h.is_cut k.is_cut
    ∙ sym k.spelling
cut_one s valid p a b (inl h) (inr k) = absurd (k.has_none.nothing_shared h.is_cut.shared)
cut_one s valid p a b (inr h) (inl k) = absurd (h.has_none.nothing_shared k.is_cut.shared)
cut_one s valid p a b (inr h) (inr k) = h.spelling ∙ sym k.spelling
