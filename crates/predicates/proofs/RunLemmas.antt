-- Points in a row on one side of the rectangle.
use Rattle.std.proofs.Common.{◌≡◌, ℕ, ◌+◌, ◌<◌, ◌≤◌, inl, inr, List, length, slice_get, Some, Option, get_or, subst, arith}
use Rattle.std.proofs.lemmas.Bool.{cases_lt}
use Rattle.std.proofs.lemmas.Option.{same_Some, slice_get-get_or}
use Rattle.tpoint.specs.Extents.{Span, HasInstant, Area, first_whole, last_whole}
use Rattle.tpoint.specs.Moving.{Rises}
use Rattle.tpoint.specs.Pieces.{OnPiece}
use Rattle.tpoint.specs.Places.{EachAt}
use Rattle.tpoint.specs.declared.interp.Interp.TheVariants.{Linear}
use Rattle.tpoint.specs.declared.point.Point.{Point}
use Rattle.predicates.specs.declared.ends.Side.{Side}
use Rattle.predicates.specs.declared.ends.Side.TheVariants.{Left, Right, Below, Above}
use Rattle.predicates.specs.declared.questions.Question.TheVariants.{Ever}
use Rattle.predicates.specs.declared.questions.Tri.TheVariants.{No}
use Rattle.predicates.specs.Ends.{IsOn, Miss}
use Rattle.predicates.specs.Questions.{AnswersQuestion}
use Rattle.predicates.proofs.EndLemmas.{missed_leg}
use Rattle.predicates.proofs.SequenceLemmas.{passes_by}

pub both_on : (side : Side) (a b : Point) (r : Area) → IsOn side a r → IsOn side b r → Miss a b r
both_on Left a b r h k = inl (inl (h, k))
both_on Right a b r h k = inl (inr (h, k))
both_on Below a b r h k = inr (inl (h, k))
both_on Above a b r h k = inr (inr (h, k))

-- what holds of the point there
pub each_at : (P : Point → Type 0) (ps : List Point) (k : ℕ) (b : Point) → slice_get ps k ≡ Some b → P b → EachAt ps P k
each_at P ps k b e h x f = subst P (same_Some b x (subst (λ (o : Option Point). o ≡ Some x) e f)) h

-- one point more of which it holds
pub each_more : (P : Point → Type 0) (ps : List Point) (from k : ℕ) (b : Point) → ((j : ℕ) → from ≤ j → j < k → EachAt ps P j) →
    slice_get ps k ≡ Some b → P b → (j : ℕ) → from ≤ j → j < k + 1 → EachAt ps P j
each_more P ps from k b before e h j l u =
    elim (cases_lt j k) [
      | inl less ↦ before j l less
      | inr no_less ↦ subst (EachAt ps P) (omega arith) (each_at P ps k b e h)
    ]

-- no leg from the k-th to the n-th point comes into the rectangle
pub run_passes_by : (ps : List Point) (p : Span) (r : Area) (side : Side) (from k n : ℕ) (a b : Point) → HasInstant p →
    ((k : ℕ) → Rises ps k) → EachAt ps (λ (q : Point). first_whole p ≤ q.t) from → from ≤ k → n < length ps →
    slice_get ps k ≡ Some a → slice_get ps (k + 1) ≡ Some b → b.t ≤ last_whole p → IsOn side a r →
    ((j : ℕ) → k + 1 ≤ j → j ≤ n → EachAt ps (λ (q : Point). IsOn side q r) j) →
    ((j : ℕ) → k + 1 < j → j ≤ n → EachAt ps (λ (q : Point). q.t ≤ last_whole p) j) →
    ((j : ℕ) → from ≤ j → j < k → AnswersQuestion Ever (OnPiece Linear ps j) p r No) →
    (j : ℕ) → from ≤ j → j < n → AnswersQuestion Ever (OnPiece Linear ps j) p r No
run_passes_by ps p r side from k n a b has rise begun h within e f over on_a on in_time before j l u =
    elim (cases_lt j k) [
      | inl less ↦ before j l less
      | inr no_less ↦
          let x = get_or ps j a in
          let y = get_or ps (j + 1) a in
          let ex = slice_get-get_or ps j a (omega (arith, u, within)) in
          let ey = slice_get-get_or ps (j + 1) a (omega (arith, u, within)) in
          let on_y : IsOn side y r = on (j + 1) (omega (arith, no_less)) (omega (arith, u)) y ey in
          elim (cases_lt k j) [
            | inl more ↦
                passes_by ps p r from j x y has rise begun l ex ey (in_time (j + 1) (omega (arith, more)) (omega (arith, u)) y ey)
                (missed_leg x y r (both_on side x y r (on j (omega (arith, more)) (omega (arith, u)) x ex) on_y))
            | inr no_more ↦
                let same : k ≡ j = omega (arith, no_less, no_more) in
                let ea = subst (λ i. slice_get ps i ≡ Some a) same e in
                let eb = subst (λ i. slice_get ps (i + 1) ≡ Some b) same f in
                let on_b : IsOn side b r = on (j + 1) (omega (arith, no_less)) (omega (arith, u)) b eb in
                passes_by ps p r from j a b has rise begun l ea eb over (missed_leg a b r (both_on side a b r on_a on_b))
          ]
    ]
