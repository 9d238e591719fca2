-- Lists of vertices whose instants ascend.
use Rattle.std.proofs.Common.{◌≡◌, ℕ, ◌+◌, ◌-◌, ◌<◌, ◌≤◌, zero, suc, inl, inr, List, map, slice_get, get_or, Some, sym, ◌∙◌, subst, ap}
use Rattle.std.proofs.Common.{refl, arith}
use Rattle.std.proofs.lemmas.Bool.{cases_lt}
use Rattle.std.proofs.lemmas.Option.{same_Some, slice_get_within, slice_get-get_or}
use Rattle.tpoint.proofs.PieceLemmas.{unmap}
use Rattle.tpoint.specs.Moving.{Vertex, Rises, vertex}
use Rattle.tpoint.specs.declared.point.Point.{Point}

abbrev pub Ascends : List Vertex → Type 0
Ascends list = (k : ℕ) (a b : Vertex) → slice_get list k ≡ Some a → slice_get list (k + 1) ≡ Some b → a.time < b.time

before_by : (list : List Vertex) → Ascends list → (d i j : ℕ) (a b : Vertex) → j ≡ i + d + 1 → slice_get list i ≡ Some a
    → slice_get list j ≡ Some b → a.time < b.time
before_by list up zero i j a b e p q =
    up i a b p (subst (λ (k : ℕ). slice_get list k ≡ Some b) (omega arith) q)
before_by list up (suc d) i j a b e p q =
    let at : slice_get list (i + d + 1 + 1) ≡ Some b = subst (λ (k : ℕ). slice_get list k ≡ Some b) (omega arith) q in
    let m = get_or list (i + d + 1) a in
    let there : slice_get list (i + d + 1) ≡ Some m = slice_get-get_or list (i + d + 1) a
    (omega (arith, slice_get_within list (i + d + 1 + 1) b at)) in
    omega (arith, before_by list up d i (i + d + 1) a m refl p there, up (i + d + 1) m b there at)

-- a vertex at an earlier place is earlier
pub earlier : (list : List Vertex) → Ascends list → (i j : ℕ) (a b : Vertex) → i < j → slice_get list i ≡ Some a
    → slice_get list j ≡ Some b → a.time < b.time
earlier list up i j a b h p q = before_by list up (j - i - 1) i j a b (omega arith) p q

pub not_later : (list : List Vertex) → Ascends list → (i j : ℕ) (a b : Vertex) → i ≤ j → slice_get list i ≡ Some a
    → slice_get list j ≡ Some b → a.time ≤ b.time
not_later list up i j a b h p q =
    elim (cases_lt i j) [
      | inl l ↦ omega (arith, earlier list up i j a b l p q)
      | inr l ↦
          let at : slice_get list i ≡ Some b = subst (λ (k : ℕ). slice_get list k ≡ Some b) (omega arith) q in
          let same : a ≡ b = same_Some a b (sym p ∙ at) in
          omega (arith, ap (λ (w : Vertex). w.time) same)
    ]

-- an earlier vertex is at an earlier place
pub place_before : (list : List Vertex) → Ascends list → (i j : ℕ) (a b : Vertex) → a.time < b.time → slice_get list i ≡ Some a
    → slice_get list j ≡ Some b → i < j
place_before list up i j a b h p q =
    elim (cases_lt i j) [
      | inl l ↦ l
      | inr l ↦ absurd (omega (arith, not_later list up j i b a l q p))
    ]

-- the vertices of points that rise ascend
pub rising : (ps : List Point) → ((k : ℕ) → Rises ps k) → Ascends (map vertex ps)
rising ps rise k a b p q =
    let f = unmap ps k a p in
    let g = unmap ps (k + 1) b q in
    let P : Vertex → Type 0 = λ w. w.time < b.time in
    let Q : Vertex → Type 0 = λ w. f.0.t < w.time in
    subst P f.2 (subst Q g.2 (rise k f.0 g.0 f.1 g.1))
