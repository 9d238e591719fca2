-- The pieces of a sequence: what the value relation at one place of the list says of the points there.
use Rattle.std.proofs.Common.{◌≡◌, ℕ, ◌+◌, ◌-◌, ◌<◌, ◌≤◌, suc, zero, inl, inr, List, [], ◌∷◌, map, length, slice_get, Some, refl, sym, ◌∙◌}
use Rattle.std.proofs.Common.{ap, subst, get_or, arith}
use Rattle.std.proofs.lemmas.Option.{same_Some, none-some, slice_get-map, slice_get_within, slice_get-get_or}
use Rattle.std.proofs.lemmas.List.{length-map}
use Rattle.std.specs.Option.{option_map}
use Rattle.tpoint.proofs.Fractions.{≤ᶠ_trans, ≈_sym, ≈_from_≤ᶠ, ≤ᶠ_of_≈, <ᶠ-≤ᶠ, ≤ᶠ_of_<ᶠ, moment_le}
use Rattle.tpoint.specs.Fraction.{Fraction, ◌≈◌, ◌≤ᶠ◌, ◌<ᶠ◌}
use Rattle.tpoint.specs.Moving.{Position, Vertex, IsPositionOf, OnLeg, AtListed, AtStep, AtPlace, Rises, moment, vertex}
use Rattle.tpoint.specs.declared.point.Point.{Point}
use Rattle.tpoint.specs.declared.interp.Interp.{Interp}
use Rattle.tpoint.specs.declared.interp.Interp.TheVariants.{Discrete, Step, Linear}
use Rattle.tpoint.specs.Pieces.{AtPoint, HeldUntil, OnPiece}

-- ---- elements of the list of vertices
pub mapped : (ps : List Point) (k : ℕ) (q : Point) → slice_get ps k ≡ Some q → slice_get (map vertex ps) k ≡ Some (vertex q)
mapped ps k q e = slice_get-map vertex ps k ∙ ap (option_map vertex) e

pub unmap : (ps : List Point) (k : ℕ) (w : Vertex) → slice_get (map vertex ps) k ≡ Some w →
    (q : Point) × (slice_get ps k ≡ Some q) × (vertex q ≡ w)
unmap [] k w e = absurd (none-some w e)
unmap (x ∷ ps) zero w e = (x, refl, same_Some (vertex x) w e)
unmap (x ∷ ps) (suc k) w e = unmap ps k w e

pub the_vertex : (ps : List Point) (k : ℕ) (q : Point) (w : Vertex) → slice_get ps k ≡ Some q → slice_get (map vertex ps) k ≡ Some w →
    w ≡ vertex q
the_vertex ps k q w e f = same_Some w (vertex q) (sym f ∙ mapped ps k q e)

-- ---- instants rise along the list
pub rises_by : (ps : List Point) → ((k : ℕ) → Rises ps k) → (d i j : ℕ) (p q : Point) → j ≡ i + d → slice_get ps i ≡ Some p →
    slice_get ps j ≡ Some q → p.t ≤ q.t
rises_by ps rise zero i j p q e a b =
    let at : slice_get ps i ≡ Some q = subst (λ (k : ℕ). slice_get ps k ≡ Some q) (omega arith) b in
    let same = same_Some p q (sym a ∙ at) in
    omega (arith, ap (λ (x : Point). x.t) same)
rises_by ps rise (suc d) i j p q e a b =
    let at : slice_get ps (i + d + 1) ≡ Some q = subst (λ (k : ℕ). slice_get ps k ≡ Some q) (omega arith) b in
    let m = get_or ps (i + d) p in
    let there : slice_get ps (i + d) ≡ Some m = slice_get-get_or ps (i + d) p (omega (arith, slice_get_within ps (i + d + 1) q at)) in
    omega (arith, rises_by ps rise d i (i + d) p m refl a there, rise (i + d) m q there at)

pub rises_le : (ps : List Point) → ((k : ℕ) → Rises ps k) → (i j : ℕ) (p q : Point) → i ≤ j → slice_get ps i ≡ Some p →
    slice_get ps j ≡ Some q → p.t ≤ q.t
rises_le ps rise i j p q h a b = rises_by ps rise (j - i) i j p q (omega arith) a b

-- ---- the pieces
pub discrete_to : (ps : List Point) (i : ℕ) (p : Point) → slice_get ps i ≡ Some p → (t : Fraction) (v : Position) → AtPoint p t v →
    AtListed (map vertex ps) i t v
discrete_to ps i p e t v h = record { point = vertex p; listed = mapped ps i p e; then = h.then; there = h.there }

pub discrete_from : (ps : List Point) (i : ℕ) (p : Point) → slice_get ps i ≡ Some p → (t : Fraction) (v : Position) →
    AtListed (map vertex ps) i t v → AtPoint p t v
discrete_from ps i p e t v h =
    let P : Vertex → Type 0 = λ w. (t ≈ moment w.time) × IsPositionOf v w.place in
    let r = subst P (the_vertex ps i p h.point e h.listed) (h.then, h.there) in
    record { then = r.0; there = r.1 }

pub held_to : (ps : List Point) → ((k : ℕ) → Rises ps k) → (i : ℕ) (p q : Point) → slice_get ps i ≡ Some p →
    slice_get ps (i + 1) ≡ Some q → (t : Fraction) (v : Position) → HeldUntil p q t v → AtStep (map vertex ps) i t v
held_to ps rise i p q e f t v h =
    record {
      point = vertex p;
      listed = mapped ps i p e;
      reached = h.reached;
      not_left = λ j w below at.
          let found = unmap ps j w at in
          let order = rises_le ps rise (i + 1) j q found.0 (omega arith) f found.1 in
          let P : Vertex → Type 0 = λ w. t <ᶠ moment w.time in
          subst P found.2 (<ᶠ-≤ᶠ h.not_left ((moment_le q.t found.0.t).0 order));
      not_over = (i + 1, vertex q, mapped ps (i + 1) q f, ≤ᶠ_of_<ᶠ h.not_left);
      there = h.there;
    }

pub held_from : (ps : List Point) (i : ℕ) (p q : Point) → slice_get ps i ≡ Some p → slice_get ps (i + 1) ≡ Some q →
    (t : Fraction) (v : Position) → AtStep (map vertex ps) i t v → HeldUntil p q t v
held_from ps i p q e f t v h =
    let P : Vertex → Type 0 = λ w. (moment w.time ≤ᶠ t) × IsPositionOf v w.place in
    let r = subst P (the_vertex ps i p h.point e h.listed) (h.reached, h.there) in
    record { reached = r.0; not_left = h.not_left (i + 1) (vertex q) (omega arith) (mapped ps (i + 1) q f); there = r.1 }

pub last_to : (ps : List Point) (i : ℕ) (p : Point) → length ps ≤ i + 1 → slice_get ps i ≡ Some p → (t : Fraction) (v : Position) →
    AtPoint p t v → AtStep (map vertex ps) i t v
last_to ps i p over e t v h =
    record {
      point = vertex p;
      listed = mapped ps i p e;
      reached = ≤ᶠ_of_≈ (≈_sym h.then);
      not_left = λ j w below at. let found = unmap ps j w at in absurd (omega (arith, slice_get_within ps j found.0 found.1));
      not_over = (i, vertex p, mapped ps i p e, ≤ᶠ_of_≈ h.then);
      there = h.there;
    }

pub last_from : (ps : List Point) → ((k : ℕ) → Rises ps k) → (i : ℕ) (p : Point) → length ps ≤ i + 1 → slice_get ps i ≡ Some p →
    (t : Fraction) (v : Position) → AtStep (map vertex ps) i t v → AtPoint p t v
last_from ps rise i p over e t v h =
    let P : Vertex → Type 0 = λ w. (moment w.time ≤ᶠ t) × IsPositionOf v w.place in
    let r = subst P (the_vertex ps i p h.point e h.listed) (h.reached, h.there) in
    let j = h.not_over.0 in
    let w = h.not_over.1 in
    let found = unmap ps j w h.not_over.2 in
    let Q : Vertex → Type 0 = λ w. t ≤ᶠ moment w.time in
    let before : t ≤ᶠ moment found.0.t = subst Q (sym found.2) h.not_over.3 in
    let order = rises_le ps rise j i found.0 p (omega (arith, slice_get_within ps j found.0 found.1)) found.1 e in
    record { then = ≈_from_≤ᶠ (≤ᶠ_trans before ((moment_le found.0.t p.t).0 order)) r.0; there = r.1 }

pub leg_to : (ps : List Point) (i : ℕ) (p q : Point) → slice_get ps i ≡ Some p → slice_get ps (i + 1) ≡ Some q →
    (t : Fraction) (v : Position) → OnLeg (vertex p) (vertex q) t v → AtPlace Linear (map vertex ps) i t v
leg_to ps i p q e f t v h =
    inl (record { point = vertex p; next = vertex q; listed = mapped ps i p e; next_listed = mapped ps (i + 1) q f; between = h })

pub leg_from : (ps : List Point) (i : ℕ) (p q : Point) → i + 1 < length ps → slice_get ps i ≡ Some p → slice_get ps (i + 1) ≡ Some q →
    (t : Fraction) (v : Position) → AtPlace Linear (map vertex ps) i t v → OnLeg (vertex p) (vertex q) t v
leg_from ps i p q within e f t v h =
    elim h [
      | inl b ↦
          let P : Vertex → Type 0 = λ w. OnLeg w b.next t v in
          let Q : Vertex → Type 0 = λ w. OnLeg (vertex p) w t v in
          subst Q (the_vertex ps (i + 1) q b.next f b.next_listed) (subst P (the_vertex ps i p b.point e b.listed) b.between)
      | inr s ↦ absurd (omega (arith, s.0, length-map ps vertex))
    ]

pub single_to : (ps : List Point) (i : ℕ) (p : Point) → length ps ≡ 1 → slice_get ps i ≡ Some p → (t : Fraction) (v : Position) →
    AtPoint p t v → AtPlace Linear (map vertex ps) i t v
single_to ps i p one e t v h = inr (length-map ps vertex ∙ one, discrete_to ps i p e t v h)

pub single_from : (ps : List Point) (i : ℕ) (p : Point) → length ps ≡ 1 → slice_get ps i ≡ Some p → (t : Fraction) (v : Position) →
    AtPlace Linear (map vertex ps) i t v → AtPoint p t v
single_from ps i p one e t v h =
    elim h [
      | inl b ↦ let found = unmap ps (i + 1) b.next b.next_listed in absurd (omega (arith, slice_get_within ps (i + 1) found.0 found.1))
      | inr s ↦ discrete_from ps i p e t v s.1
    ]

pub no_leg : (ps : List Point) (i : ℕ) → length ps ≤ i + 1 → ¬ (length ps ≡ 1) → (t : Fraction) (v : Position) →
    ¬ AtPlace Linear (map vertex ps) i t v
no_leg ps i over many t v h =
    elim h [
      | inl b ↦ let found = unmap ps (i + 1) b.next b.next_listed in absurd (omega (arith, slice_get_within ps (i + 1) found.0 found.1))
      | inr s ↦ absurd (many (omega (arith, s.0, length-map ps vertex)))
    ]

-- a piece has its place within the list
pub place_within : (interp : Interp) (ps : List Point) (i : ℕ) (t : Fraction) (v : Position) → OnPiece interp ps i t v → i < length ps
place_within Discrete ps i t v h = let f = unmap ps i h.point h.listed in slice_get_within ps i f.0 f.1
place_within Step ps i t v h = let f = unmap ps i h.point h.listed in slice_get_within ps i f.0 f.1
place_within Linear ps i t v h =
    elim h [
      | inl b ↦ let f = unmap ps i b.point b.listed in slice_get_within ps i f.0 f.1
      | inr s ↦ let f = unmap ps i s.1.point s.1.listed in slice_get_within ps i f.0 f.1
    ]

-- ---- when a piece has its values
-- not before its own instant
listed_from : (ps : List Point) (j : ℕ) (p : Point) (t : Fraction) (v : Position) → slice_get ps j ≡ Some p →
    AtListed (map vertex ps) j t v → moment p.t ≤ᶠ t
listed_from ps j p t v e h =
    let P : Vertex → Type 0 = λ w. t ≈ moment w.time in
    ≤ᶠ_of_≈ (≈_sym (subst P (the_vertex ps j p h.point e h.listed) h.then))

pub piece_from : (interp : Interp) (ps : List Point) (j : ℕ) (p : Point) (t : Fraction) (v : Position) → slice_get ps j ≡ Some p →
    OnPiece interp ps j t v → moment p.t ≤ᶠ t
piece_from Discrete ps j p t v e h = listed_from ps j p t v e h
piece_from Step ps j p t v e h =
    let P : Vertex → Type 0 = λ w. moment w.time ≤ᶠ t in
    subst P (the_vertex ps j p h.point e h.listed) h.reached
piece_from Linear ps j p t v e h =
    elim h [
      | inl b ↦
          let P : Vertex → Type 0 = λ w. moment w.time ≤ᶠ t in
          subst P (the_vertex ps j p b.point e b.listed) b.between.begun
      | inr s ↦ listed_from ps j p t v e s.1
    ]

-- nor after the next one
pub piece_until : (interp : Interp) (ps : List Point) (j : ℕ) (next : Point) (t : Fraction) (v : Position) → ((k : ℕ) → Rises ps k) →
    slice_get ps (j + 1) ≡ Some next → OnPiece interp ps j t v → t ≤ᶠ moment next.t
piece_until Discrete ps j next t v rise e h =
    let found = unmap ps j h.point h.listed in
    let P : Vertex → Type 0 = λ w. t ≈ moment w.time in
    let then = subst P (sym found.2) h.then in
    let order = rise j found.0 next found.1 e in
    ≤ᶠ_trans (≤ᶠ_of_≈ then) ((moment_le found.0.t next.t).0 (omega arith))
piece_until Step ps j next t v rise e h =
    ≤ᶠ_of_<ᶠ (h.not_left (j + 1) (vertex next) (omega arith) (mapped ps (j + 1) next e))
piece_until Linear ps j next t v rise e h =
    elim h [
      | inl b ↦
          let P : Vertex → Type 0 = λ w. t ≤ᶠ moment w.time in
          subst P (the_vertex ps (j + 1) next b.next e b.next_listed) b.between.not_over
      | inr s ↦ absurd (omega (arith, s.0, length-map ps vertex, slice_get_within ps (j + 1) next e))
    ]
