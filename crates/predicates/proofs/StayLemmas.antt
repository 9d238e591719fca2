-- What a position answers that stays as it is listed.
use Rattle.std.proofs.Common.{◌≡◌, refl, ℕ, ◌+◌, ◌<◌, ◌≤◌, ℤ, ◌≤ℤ◌, ◌↔◌, inl, inr, Bool, true, false, IsTrue, arith}
use Rattle.std.proofs.lemmas.Bool.{cases_lt}
use Rattle.tpoint.proofs.Fractions.{≤ᶠ_trans, ≤ᶠ_refl, ≈-≤ᶠ, ≤ᶠ-≈, ≈_sym, ≈_refl, ≤ᶠ-<ᶠ, <ᶠ-≤ᶠ, whole_le, moment_le, moment_lt}
use Rattle.tpoint.proofs.Periods.{before_begin, first_then, over_at, whole_lies, lies_same, up_then_before, early}
use Rattle.tpoint.specs.Fraction.{Fraction, ◌≈◌, ◌≤ᶠ◌, ◌<ᶠ◌}
use Rattle.tpoint.specs.Moving.{Position, IsPositionOf, moment}
use Rattle.tpoint.specs.Extents.{Span, HasInstant, LiesIn, Shares, Area, Between, Inside, first_whole, last_whole}
use Rattle.tpoint.specs.Pieces.{place, AtPoint, HeldUntil}
use Rattle.tpoint.specs.declared.point.Point.{Point}
use Rattle.predicates.specs.declared.questions.Question.{Question}
use Rattle.predicates.specs.declared.questions.Question.TheVariants.{Ever, Always}
use Rattle.predicates.specs.declared.questions.Tri.{Tri}
use Rattle.predicates.specs.declared.questions.Tri.TheVariants.{Yes, No, None}
use Rattle.predicates.specs.Predicates.{SomeInside, AllInside}
use Rattle.predicates.specs.Questions.{AnswersQuestion}
use Rattle.predicates.specs.Stays.{IsStayAnswer}

-- ---- two relations with the same pairs answer alike
shares_same : (R S : Fraction → Position → Type 0) (p : Span) → ((t : Fraction) (v : Position) → R t v → S t v) → Shares R p → Shares S p
shares_same R S p f s = record { t = s.t; v = s.v; in_period = s.in_period; value = f s.t s.v s.value }

some_same : (R S : Fraction → Position → Type 0) (p : Span) (r : Area) → ((t : Fraction) (v : Position) → R t v → S t v) →
    SomeInside R p r → SomeInside S p r
some_same R S p r f s =
    record { t = s.t; v = s.v; in_period = s.in_period; value = f s.t s.v s.value; inside = s.inside }

all_same : (R S : Fraction → Position → Type 0) (p : Span) (r : Area) → ((t : Fraction) (v : Position) → S t v → R t v) → AllInside R p r →
    AllInside S p r
all_same R S p r g all = record { inside = λ t v lies k. all.inside t v lies (g t v k) }

pub answers_same : (q : Question) (R S : Fraction → Position → Type 0) (p : Span) (r : Area) (answer : Tri) →
    ((t : Fraction) (v : Position) → R t v → S t v) → ((t : Fraction) (v : Position) → S t v → R t v) → AnswersQuestion q R p r answer →
    AnswersQuestion q S p r answer
answers_same Ever R S p r Yes f g h = some_same R S p r f h
answers_same Ever R S p r No f g h = (shares_same R S p f h.0, λ s. h.1 (some_same S R p r g s))
answers_same Ever R S p r None f g h = λ s. h (shares_same S R p g s)
answers_same Always R S p r Yes f g h = (shares_same R S p f h.0, all_same R S p r g h.1)
answers_same Always R S p r No f g h = (shares_same R S p f h.0, λ s. h.1 (all_same S R p r f s))
answers_same Always R S p r None f g h = λ s. h (shares_same S R p g s)

-- where there is no value at all
pub answers_nothing : (q : Question) (R : Fraction → Position → Type 0) (p : Span) (r : Area) → ((t : Fraction) (v : Position) → ¬ R t v) →
    AnswersQuestion q R p r None
answers_nothing Ever R p r nothing = λ s. nothing s.t s.v s.value
answers_nothing Always R p r nothing = λ s. nothing s.t s.v s.value

-- ---- a position that stays while S holds
Between-≈ : {s t : Fraction} {a b : ℤ} → s ≈ t → Between a b s → Between a b t
Between-≈ e h = record { from = ≤ᶠ-≈ h.from e; to = ≈-≤ᶠ (≈_sym e) h.to }

inside_there : (r : Area) (v w : Position) → IsPositionOf v w → Inside v r → Inside w r
inside_there r v w e i = record { across = Between-≈ e.same_x i.across; along = Between-≈ e.same_y i.along }

there_inside : (r : Area) (v w : Position) → IsPositionOf v w → Inside w r → Inside v r
there_inside r v w e i = record { across = Between-≈ (≈_sym e.same_x) i.across; along = Between-≈ (≈_sym e.same_y) i.along }

is_place : (v : Position) → IsPositionOf v v
is_place v = record { same_x = ≈_refl v.x; same_y = ≈_refl v.y }

record Stays (S : Fraction → Type 0) (w : Position) (t : Fraction) (v : Position) : Type 0 where
  pub while : S t
  pub there : IsPositionOf v w

-- it is there in the period
abbrev pub MeetsStay : (Fraction → Type 0) → Span → Type 0
MeetsStay S p = (t : Fraction) × LiesIn t p × S t

stay_shares : (S : Fraction → Type 0) (w : Position) (p : Span) → MeetsStay S p → Shares (Stays S w) p
stay_shares S w p m = record { t = m.0; v = w; in_period = m.1; value = record { while = m.2; there = is_place w } }

stay_some : (S : Fraction → Type 0) (w : Position) (p : Span) (r : Area) → MeetsStay S p → Inside w r → SomeInside (Stays S w) p r
stay_some S w p r m i =
    record { t = m.0; v = w; in_period = m.1; value = record { while = m.2; there = is_place w }; inside = i }

stay_apart : (S : Fraction → Type 0) (w : Position) (p : Span) (there : Bool) → (IsTrue there ↔ MeetsStay S p) → there ≡ false →
    ¬ Shares (Stays S w) p
stay_apart S w p there when e s = let t = when.1 (s.t, s.in_period, s.value.while) in absurd (cc)

stay_answers : (q : Question) (S : Fraction → Type 0) (w : Position) (p : Span) (r : Area) (there : Bool) (answer : Tri) →
    (IsTrue there ↔ MeetsStay S p) → IsStayAnswer there (Inside w r) answer → AnswersQuestion q (Stays S w) p r answer
stay_answers Ever S w p r there Yes when h = stay_some S w p r (when.0 h.0) h.1
stay_answers Ever S w p r there No when h =
    (stay_shares S w p (when.0 h.0), λ s. h.1 (inside_there r s.v w s.value.there s.inside))
stay_answers Ever S w p r there None when h = stay_apart S w p there when h
stay_answers Always S w p r there Yes when h =
    (stay_shares S w p (when.0 h.0), record { inside = λ t v lies k. there_inside r v w k.there h.1 })
stay_answers Always S w p r there No when h =
    let m = when.0 h.0 in
    (stay_shares S w p m, λ all. h.1 (all.inside m.0 w m.1 (record { while = m.2; there = is_place w })))
stay_answers Always S w p r there None when h = stay_apart S w p there when h

-- ---- when it is there
at_instant : (p : Span) (n : ℕ) → HasInstant p → ((first_whole p ≤ n) × (n ≤ last_whole p)) ↔ MeetsStay (λ t. t ≈ moment n) p
at_instant p n has = (
  λ h. (moment n, (whole_lies p n has).0 h, ≈_refl (moment n)),
  λ s. (whole_lies p n has).1 (lies_same s.2 s.1),
)

until_next : (p : Span) (m n : ℕ) → m < n → HasInstant p →
    ((m ≤ last_whole p) × (p.begin < n)) ↔ MeetsStay (λ t. (moment m ≤ᶠ t) × (t <ᶠ moment n)) p
until_next p m n h has = (
  λ k.
      elim (cases_lt m (first_whole p)) [
        | inr begun ↦ (moment m, (whole_lies p m has).0 (begun, k.0), (≤ᶠ_refl (moment m), (moment_lt m n).0 h))
        | inl before ↦
            let first = early p has in
            let from = (moment_le m p.begin).0 (before_begin p m before) in
            let to = (moment_le (p.begin + 1) n).0 (omega (arith, k.1)) in
            (first.0, first.1, (≤ᶠ_trans from first.2, <ᶠ-≤ᶠ first.3 to))
      ],
  λ s. (
    (over_at p m has).1 (up_then_before s.2.0 s.1.not_over),
    (moment_lt p.begin n).1 (≤ᶠ-<ᶠ s.1.begun.not_after s.2.1),
  ),
)

-- ---- the two kinds
pub point_answers : (q : Question) (point : Point) (p : Span) (r : Area) (there : Bool) (answer : Tri) →
    HasInstant p → (IsTrue there ↔ ((first_whole p ≤ point.t) × (point.t ≤ last_whole p))) →
    IsStayAnswer there (Inside (place point) r) answer → AnswersQuestion q (AtPoint point) p r answer
point_answers q point p r there answer has when h =
    let S : Fraction → Type 0 = λ t. t ≈ moment point.t in
    let i = at_instant p point.t has in
    answers_same q (Stays S (place point)) (AtPoint point) p r answer
    (λ t v k. record { then = k.while; there = k.there })
    (λ t v k. record { while = k.then; there = k.there })
    (stay_answers q S (place point) p r there answer (λ e. i.0 (when.0 e), λ m. when.1 (i.1 m)) h)

pub held_answers : (q : Question) (point next : Point) (p : Span) (r : Area) (there : Bool) (answer : Tri) → point.t < next.t →
    HasInstant p → (IsTrue there ↔ ((point.t ≤ last_whole p) × (p.begin < next.t))) → IsStayAnswer there (Inside (place point) r) answer →
    AnswersQuestion q (HeldUntil point next) p r answer
held_answers q point next p r there answer later has when h =
    let S : Fraction → Type 0 = λ t. (moment point.t ≤ᶠ t) × (t <ᶠ moment next.t) in
    let i = until_next p point.t next.t later has in
    answers_same q (Stays S (place point)) (HeldUntil point next) p r answer
    (λ t v k. record { reached = k.while.0; not_left = k.while.1; there = k.there })
    (λ t v k. record { while = (k.reached, k.not_left); there = k.there })
    (stay_answers q S (place point) p r there answer (λ e. i.0 (when.0 e), λ m. when.1 (i.1 m)) h)

-- ---- listed in the period, and not in the rectangle
pub point_outside : (point : Point) (p : Span) (r : Area) → HasInstant p → first_whole p ≤ point.t → point.t ≤ last_whole p →
    ¬ Inside (place point) r → AnswersQuestion Ever (AtPoint point) p r No
point_outside point p r has from over n = point_answers Ever point p r true No has (λ _. (from, over), λ _. refl) (refl, n)

pub held_outside : (point next : Point) (p : Span) (r : Area) → point.t < next.t → HasInstant p → first_whole p ≤ point.t →
    point.t ≤ last_whole p → ¬ Inside (place point) r → AnswersQuestion Ever (HeldUntil point next) p r No
held_outside point next p r later has from over n =
    let begun = first_then p point.t from in
    held_answers Ever point next p r true No later has (λ _. (over, omega (arith, begun, later)), λ _. refl) (refl, n)

-- a listed position lies in a rectangle
pub inside_numbers : (point : Point) (r : Area) →
    (((r.x0 ≤ℤ point.x) × (point.x ≤ℤ r.x1)) × ((r.y0 ≤ℤ point.y) × (point.y ≤ℤ r.y1))) ↔ Inside (place point) r
inside_numbers point r = (
  λ h. record {
    across = record { from = (whole_le r.x0 point.x).0 h.0.0; to = (whole_le point.x r.x1).0 h.0.1 };
    along = record { from = (whole_le r.y0 point.y).0 h.1.0; to = (whole_le point.y r.y1).0 h.1.1 };
  },
  λ i. (
    ((whole_le r.x0 point.x).1 i.across.from, (whole_le point.x r.x1).1 i.across.to),
    ((whole_le r.y0 point.y).1 i.along.from, (whole_le point.y r.y1).1 i.along.to),
  ),
)
