-- From the pieces of a moving point to the whole.
use Rattle.std.proofs.Common.{◌≡◌, ℕ, ◌+◌, ◌<◌, ◌≤◌, inl, inr, Bool, true, false, List, ap}
use Rattle.std.proofs.Common.{[], ◌∷◌, map, length, get_or, slice_get, Some, subst, sym, ◌∙◌, refl, ltb, ltb-true, ltb-false, arith}
use Rattle.std.proofs.lemmas.Bool.{cases_lt}
use Rattle.std.proofs.lemmas.List.Sorted.{IsPartitionedBy-ltb}
use Rattle.std.proofs.lemmas.Option.{same_Some, slice_get-get_or, slice_get_within, get_or_from_slice_get}
use Rattle.std.specs.List.Sorted.{IsNonDecreasingBy, IsPartitionedBy, IsPartitionPoint}
use Rattle.tpoint.proofs.Fractions.{moment_lt, ≤ᶠ-<ᶠ, <ᶠ_of_≤ᶠ_not}
use Rattle.tpoint.proofs.Periods.{over_at, up_then_before}
use Rattle.tpoint.proofs.PieceLemmas.{rises_le, place_within, piece_from, piece_until, leg_to, leg_from}
use Rattle.tpoint.proofs.PieceLemmas.{discrete_to, discrete_from, held_to, held_from, last_to, last_from}
use Rattle.tpoint.specs.Fraction.{Fraction}
use Rattle.tpoint.specs.Moving.{Position, Sequence, HasValue, At, OnLeg, Rises, moment, vertex}
use Rattle.tpoint.specs.Extents.{Span, HasInstant, Shares, Area, Inside, first_whole, last_whole}
use Rattle.tpoint.specs.Places.{EachAt}
use Rattle.tpoint.specs.Pieces.{OnPiece, AtPoint, HeldUntil, place}
use Rattle.tpoint.specs.declared.point.Point.{Point}
use Rattle.tpoint.specs.declared.interp.Interp.{Interp}
use Rattle.tpoint.specs.declared.interp.Interp.TheVariants.{Discrete, Step, Linear}
use Rattle.predicates.specs.declared.questions.Question.{Question}
use Rattle.predicates.specs.declared.questions.Question.TheVariants.{Ever, Always}
use Rattle.predicates.specs.declared.questions.Tri.{Tri}
use Rattle.predicates.specs.declared.questions.Tri.TheVariants.{Yes, No, None}
use Rattle.predicates.specs.Predicates.{SomeInside, AllInside}
use Rattle.predicates.specs.Questions.{AnswersQuestion, decides}
use Rattle.predicates.specs.Courses.{Crosses}
use Rattle.predicates.proofs.StayLemmas.{answers_same, point_outside, held_outside}
use Rattle.predicates.proofs.EndLemmas.{settled_leg, passed_leg, leg_lies}

-- the values of a list of points
abbrev pub Whole : Interp → List Point → Fraction → Position → Type 0
Whole interp ps t v = HasValue interp (map vertex ps) t v

-- ---- pieces that do not meet the period
-- one that ends before it
pub ends_before : (interp : Interp) (ps : List Point) (p : Span) (j : ℕ) (next : Point) → ((k : ℕ) → Rises ps k) →
    slice_get ps (j + 1) ≡ Some next → next.t < p.begin → ¬ Shares (OnPiece interp ps j) p
ends_before interp ps p j next rise e before s =
    let until = piece_until interp ps j next s.t s.v rise e s.value in
    let apart = ≤ᶠ-<ᶠ until ((moment_lt next.t p.begin).0 before) in
    <ᶠ_of_≤ᶠ_not s.t (moment p.begin) apart s.in_period.begun.not_after

-- those before a place up to which each next point is before it
pub before_place : (interp : Interp) (ps : List Point) (p : Span) (n : ℕ) → ((k : ℕ) → Rises ps k) → n < length ps →
    ((k : ℕ) → k < n → EachAt ps (λ (next : Point). next.t < p.begin) (k + 1)) → (j : ℕ) → j < n → ¬ Shares (OnPiece interp ps j) p
before_place interp [] p n rise within earlier j h = absurd (omega arith)
before_place interp (x ∷ xs) p n rise within earlier j h =
    let ps = x ∷ xs in
    let next = get_or ps (j + 1) x in
    let there = slice_get-get_or ps (j + 1) x (omega arith) in
    ends_before interp ps p j next rise there (earlier j h next there)

-- one from a point on that is after it
pub begins_after : (interp : Interp) (ps : List Point) (p : Span) (i j : ℕ) (point : Point) → HasInstant p → ((k : ℕ) → Rises ps k) →
    slice_get ps i ≡ Some point → last_whole p < point.t → i ≤ j → ¬ Shares (OnPiece interp ps j) p
begins_after interp ps p i j point has rise e after h s =
    let within = place_within interp ps j s.t s.v s.value in
    let own = get_or ps j point in
    let there = slice_get-get_or ps j point within in
    let order = rises_le ps rise i j point own h e there in
    let from = piece_from interp ps j own s.t s.v there s.value in
    let over = (over_at p own.t has).1 (up_then_before from s.in_period.not_over) in
    omega (arith, order, after, over)

-- one past the last point
pub past_the_last : (interp : Interp) (ps : List Point) (p : Span) (j : ℕ) → length ps ≤ j → ¬ Shares (OnPiece interp ps j) p
past_the_last interp ps p j over s = absurd (omega (arith, place_within interp ps j s.t s.v s.value))

-- ---- what the answer of a piece tells of the whole
abbrev pub Undecided : Question → (Fraction → Position → Type 0) → Span → Area → Type 0
Undecided Ever R p r = ¬ SomeInside R p r
Undecided Always R p r = AllInside R p r

some_shares : (R : Fraction → Position → Type 0) (p : Span) (r : Area) → SomeInside R p r → Shares R p
some_shares R p r s = record { t = s.t; v = s.v; in_period = s.in_period; value = s.value }

all_of_none : (R : Fraction → Position → Type 0) (p : Span) (r : Area) → ¬ Shares R p → AllInside R p r
all_of_none R p r none =
    record { inside = λ t v lies k. absurd (none (record { t = t; v = v; in_period = lies; value = k })) }

undecided_of_none : (q : Question) (R : Fraction → Position → Type 0) (p : Span) (r : Area) → ¬ Shares R p → Undecided q R p r
undecided_of_none Ever R p r none = λ s. none (some_shares R p r s)
undecided_of_none Always R p r none = all_of_none R p r none

undecided_by : (q : Question) (R : Fraction → Position → Type 0) (p : Span) (r : Area) (part : Tri) → AnswersQuestion q R p r part →
    decides q part ≡ false → Undecided q R p r
undecided_by Ever R p r Yes h e = absurd (cc)
undecided_by Ever R p r No h e = h.1
undecided_by Ever R p r None h e = undecided_of_none Ever R p r h
undecided_by Always R p r Yes h e = h.1
undecided_by Always R p r No h e = absurd (cc)
undecided_by Always R p r None h e = undecided_of_none Always R p r h

-- an answer but None comes from a value in the period
shares_by : (q : Question) (R : Fraction → Position → Type 0) (p : Span) (r : Area) (part : Tri) → AnswersQuestion q R p r part → ¬ (part ≡ None) →
    Shares R p
shares_by Ever R p r Yes h n = some_shares R p r h
shares_by Ever R p r No h n = h.0
shares_by Ever R p r None h n = absurd (n refl)
shares_by Always R p r Yes h n = h.0
shares_by Always R p r No h n = h.0
shares_by Always R p r None h n = absurd (n refl)

shares_whole : (interp : Interp) (ps : List Point) (p : Span) (i : ℕ) → Shares (OnPiece interp ps i) p → Shares (Whole interp ps) p
shares_whole interp ps p i s =
    record { t = s.t; v = s.v; in_period = s.in_period; value = record { i = i; at_i = s.value } }

none_by : (q : Question) (R : Fraction → Position → Type 0) (p : Span) (r : Area) → AnswersQuestion q R p r None → ¬ Shares R p
none_by Ever R p r h = h
none_by Always R p r h = h

-- what a test told of an answer, of what the answer is
pub told : (q : Question) (part answer : Tri) (test is : Bool) → answer ≡ part → test ≡ decides q answer → test ≡ is → decides q part ≡ is
told q part answer test is same tells e = ap (decides q) (sym same) ∙ sym tells ∙ e

-- a piece that decides
pub decided : (q : Question) (interp : Interp) (ps : List Point) (p : Span) (r : Area) (i : ℕ) (part : Tri) →
    AnswersQuestion q (OnPiece interp ps i) p r part → decides q part ≡ true → AnswersQuestion q (Whole interp ps) p r part
decided Ever interp ps p r i Yes s e =
    record { t = s.t; v = s.v; in_period = s.in_period; value = record { i = i; at_i = s.value }; inside = s.inside }
decided Ever interp ps p r i No h e = absurd (cc)
decided Ever interp ps p r i None h e = absurd (cc)
decided Always interp ps p r i Yes h e = absurd (cc)
decided Always interp ps p r i No h e = (
  shares_whole interp ps p i h.0,
  λ all. h.1 (record { inside = λ t v lies k. all.inside t v lies (record { i = i; at_i = k }) }),
)
decided Always interp ps p r i None h e = absurd (cc)

-- ---- the pieces before the one at i
pub record SoFar (q : Question) (interp : Interp) (ps : List Point) (p : Span) (r : Area) (i : ℕ) (answer : Tri) : Type 0 where
  pub undecided : (j : ℕ) → j < i → Undecided q (OnPiece interp ps j) p r
  pub none : answer ≡ None → (j : ℕ) → j < i → ¬ Shares (OnPiece interp ps j) p
  pub some : ¬ (answer ≡ None) → Shares (Whole interp ps) p
  pub not_yet : decides q answer ≡ false

decides_none : (q : Question) → decides q None ≡ false
decides_none Ever = refl
decides_none Always = refl

pub so_far_none : (q : Question) (interp : Interp) (ps : List Point) (p : Span) (r : Area) (i : ℕ) →
    ((j : ℕ) → j < i → ¬ Shares (OnPiece interp ps j) p) → SoFar q interp ps p r i None
so_far_none q interp ps p r i none =
    record {
      undecided = λ j h. undecided_of_none q (OnPiece interp ps j) p r (none j h);
      none = λ _. none;
      some = λ n. absurd (n refl);
      not_yet = decides_none q;
    }

-- pieces without a value in the period
pub next_none : (q : Question) (interp : Interp) (ps : List Point) (p : Span) (r : Area) (i n : ℕ) (answer : Tri) →
    SoFar q interp ps p r i answer → ((j : ℕ) → i ≤ j → j < n → AnswersQuestion q (OnPiece interp ps j) p r None) → SoFar q interp ps p r n answer
next_none q interp ps p r i n answer s each =
    let none : (j : ℕ) → i ≤ j → j < n → ¬ Shares (OnPiece interp ps j) p = λ j l h. none_by q (OnPiece interp ps j) p r (each j l h) in
    record {
      undecided = λ j h.
          elim (cases_lt j i) [
            | inl l ↦ s.undecided j l
            | inr l ↦ undecided_of_none q (OnPiece interp ps j) p r (none j l h)
          ];
      none = λ e j h. elim (cases_lt j i) [ inl l ↦ s.none e j l | inr l ↦ none j l h ];
      some = s.some;
      not_yet = s.not_yet;
    }

-- pieces with one that don't decide
pub next_some : (q : Question) (interp : Interp) (ps : List Point) (p : Span) (r : Area) (i n : ℕ) (answer part : Tri) →
    SoFar q interp ps p r i answer → i < n → ((j : ℕ) → i ≤ j → j < n → AnswersQuestion q (OnPiece interp ps j) p r part) → ¬ (part ≡ None) →
    decides q part ≡ false → SoFar q interp ps p r n part
next_some q interp ps p r i n answer part s on each some open_still =
    record {
      undecided = λ j h.
          elim (cases_lt j i) [
            | inl l ↦ s.undecided j l
            | inr l ↦ undecided_by q (OnPiece interp ps j) p r part (each j l h) open_still
          ];
      none = λ e. absurd (some e);
      some = λ _. shares_whole interp ps p i (shares_by q (OnPiece interp ps i) p r part (each i (omega arith) on) some);
      not_yet = open_still;
    }

-- ---- when no piece is left that meets the period
undecided_whole : (q : Question) (interp : Interp) (ps : List Point) (p : Span) (r : Area) →
    ((j : ℕ) → Undecided q (OnPiece interp ps j) p r) → Undecided q (Whole interp ps) p r
undecided_whole Ever interp ps p r all = λ s.
    all s.value.i (record { t = s.t; v = s.v; in_period = s.in_period; value = s.value.at_i; inside = s.inside })
undecided_whole Always interp ps p r all =
    record { inside = λ t v lies k. (all k.i).inside t v lies k.at_i }

all_undecided : (q : Question) (interp : Interp) (ps : List Point) (p : Span) (r : Area) (i : ℕ) (answer : Tri) →
    SoFar q interp ps p r i answer → ((j : ℕ) → i ≤ j → ¬ Shares (OnPiece interp ps j) p) → (j : ℕ) → Undecided q (OnPiece interp ps j) p r
all_undecided q interp ps p r i answer s rest j =
    elim (cases_lt j i) [
      | inl h ↦ s.undecided j h
      | inr h ↦ undecided_of_none q (OnPiece interp ps j) p r (rest j h)
    ]

none_whole : (interp : Interp) (ps : List Point) (p : Span) (i : ℕ) → ((j : ℕ) → j < i → ¬ Shares (OnPiece interp ps j) p) →
    ((j : ℕ) → i ≤ j → ¬ Shares (OnPiece interp ps j) p) → ¬ Shares (Whole interp ps) p
none_whole interp ps p i before rest s =
    let own : Shares (OnPiece interp ps s.value.i) p = record { t = s.t; v = s.v; in_period = s.in_period; value = s.value.at_i } in
    elim (cases_lt s.value.i i) [ inl h ↦ before s.value.i h own | inr h ↦ rest s.value.i h own ]

answer_whole : (q : Question) (R : Fraction → Position → Type 0) (p : Span) (r : Area) (answer : Tri) → Undecided q R p r →
    (answer ≡ None → ¬ Shares R p) → (¬ (answer ≡ None) → Shares R p) → decides q answer ≡ false → AnswersQuestion q R p r answer
answer_whole Ever R p r Yes u none some e = absurd (cc)
answer_whole Ever R p r No u none some e = (some (λ k. cc), u)
answer_whole Ever R p r None u none some e = none refl
answer_whole Always R p r Yes u none some e = (some (λ k. cc), u)
answer_whole Always R p r No u none some e = absurd (cc)
answer_whole Always R p r None u none some e = none refl

pub answered : (q : Question) (interp : Interp) (ps : List Point) (p : Span) (r : Area) (i : ℕ) (answer : Tri) →
    SoFar q interp ps p r i answer → ((j : ℕ) → i ≤ j → ¬ Shares (OnPiece interp ps j) p) → AnswersQuestion q (Whole interp ps) p r answer
answered q interp ps p r i answer s rest =
    answer_whole q (Whole interp ps) p r answer
    (undecided_whole q interp ps p r (all_undecided q interp ps p r i answer s rest))
    (λ e. none_whole interp ps p i (s.none e) rest)
    s.some s.not_yet

-- a sequence is its interpolation and its points
pub of_sequence : (q : Question) (s : Sequence) (interp : Interp) (ps : List Point) (p : Span) (r : Area) (answer : Tri) →
    interp ≡ s.interp → ps ≡ s.points → AnswersQuestion q (Whole interp ps) p r answer → AnswersQuestion q (At s) p r answer
of_sequence q s interp ps p r answer e f h =
    subst (λ (qs : List Point). AnswersQuestion q (Whole s.interp qs) p r answer) f (subst (λ (k : Interp). AnswersQuestion q (Whole k ps) p r answer) e h)

-- ---- the instants of a list of points do not fall
pub instants_rise : (ps : List Point) → ((k : ℕ) → Rises ps k) → IsNonDecreasingBy (λ (p : Point). p.t) ps
instants_rise ps rise i j d h k =
    rises_le ps rise i j (get_or ps i d) (get_or ps j d) h (slice_get-get_or ps i d (omega arith)) (slice_get-get_or ps j d k)

-- so those before an instant come first: n of them are before it, and the others aren't
pub parted_by_time : (ps : List Point) (begin : ℕ) → ((k : ℕ) → Rises ps k) → IsPartitionedBy (λ (p : Point). ltb p.t begin) ps
parted_by_time ps begin rise = IsPartitionedBy-ltb (λ (p : Point). p.t) ps begin (instants_rise ps rise)

pub before_and_after : (ps : List Point) (begin n : ℕ) →
    IsPartitionPoint (λ (p : Point). ltb p.t begin ≡ true) (λ (p : Point). ltb p.t begin ≡ false) ps n →
    ((k : ℕ) → k < n → EachAt ps (λ (p : Point). p.t < begin) k) × ((k : ℕ) → n ≤ k → EachAt ps (λ (p : Point). begin ≤ p.t) k)
before_and_after ps begin n split = (
  λ k h p e.
      subst (λ (q : Point). q.t < begin) (get_or_from_slice_get ps k p p e) (ltb-true _ _ (split.0 k p (omega arith) h)),
  λ k h p e.
      subst (λ (q : Point). begin ≤ q.t) (get_or_from_slice_get ps k p p e) (ltb-false _ _ (split.1 k p h (slice_get_within ps k p e))),
)

-- ---- a leg's answer is its piece's
pub leg_answers : (q : Question) (ps : List Point) (p : Span) (r : Area) (i : ℕ) (a b : Point) (answer : Tri) →
    slice_get ps i ≡ Some a → slice_get ps (i + 1) ≡ Some b → i + 1 < length ps →
    AnswersQuestion q (OnLeg (vertex a) (vertex b)) p r answer → AnswersQuestion q (OnPiece Linear ps i) p r answer
leg_answers q ps p r i a b answer e f within h =
    answers_same q (OnLeg (vertex a) (vertex b)) _ _ _ _ (leg_to ps i a b e f) (leg_from ps i a b within e f) h

-- and one more after those from a place on
pub one_more : (P : ℕ → Type 0) (from k : ℕ) → ((j : ℕ) → from ≤ j → j < k → P j) → P k → (j : ℕ) → from ≤ j → j < k + 1 → P j
one_more P from k before here j l h =
    elim (cases_lt j k) [
      | inl less ↦ before j l less
      | inr no_less ↦ subst P (omega arith) here
    ]

-- ---- runs of legs: where the legs from a place on begin after the period has begun
begun_later : (ps : List Point) (begin i k : ℕ) (a : Point) → ((k : ℕ) → Rises ps k) → EachAt ps (λ (p : Point). begin ≤ p.t) i → i ≤ k →
    slice_get ps k ≡ Some a → begin ≤ a.t
begun_later ps begin i k a rise begun h e =
    let within = slice_get_within ps k a e in
    let own = get_or ps i a in
    let there = slice_get-get_or ps i a (omega (arith, within, h)) in
    let order = rises_le ps rise i k own a h there e in
    omega (arith, order, begun own there)

-- one that passes by
pub passes_by : (ps : List Point) (p : Span) (r : Area) (i k : ℕ) (a b : Point) → HasInstant p → ((k : ℕ) → Rises ps k) →
    EachAt ps (λ (q : Point). first_whole p ≤ q.t) i → i ≤ k → slice_get ps k ≡ Some a → slice_get ps (k + 1) ≡ Some b →
    b.t ≤ last_whole p → ¬ Crosses a b r → AnswersQuestion Ever (OnPiece Linear ps k) p r No
passes_by ps p r i k a b has rise begun h e f over n =
    let from = begun_later ps (first_whole p) i k a rise begun h e in
    let later = rise k a b e f in
    let lies = leg_lies a b p has later from over in
    leg_answers Ever ps p r k a b No e f (slice_get_within ps (k + 1) b f) (passed_leg a b p r later lies.0 lies.1 n)

-- and one that stays inside
pub stays_inside : (ps : List Point) (p : Span) (r : Area) (i k : ℕ) (a b : Point) → HasInstant p → ((k : ℕ) → Rises ps k) →
    EachAt ps (λ (q : Point). first_whole p ≤ q.t) i → i ≤ k → slice_get ps k ≡ Some a → slice_get ps (k + 1) ≡ Some b →
    b.t ≤ last_whole p → Inside (place a) r → Inside (place b) r → AnswersQuestion Always (OnPiece Linear ps k) p r Yes
stays_inside ps p r i k a b has rise begun h e f over x y =
    let from = begun_later ps (first_whole p) i k a rise begun h e in
    let later = rise k a b e f in
    leg_answers Always ps p r k a b Yes e f (slice_get_within ps (k + 1) b f)
    (settled_leg Always a b p r later has (omega (arith, from, later)) (omega (arith, later, over)) (x, y))

-- ---- a position that stays and isn't in the rectangle
pub stays_outside : (interp : Interp) (ps : List Point) (p : Span) (r : Area) (i k : ℕ) (a : Point) → ¬ (interp ≡ Linear) → HasInstant p →
    ((k : ℕ) → Rises ps k) → EachAt ps (λ (q : Point). first_whole p ≤ q.t) i → i ≤ k → slice_get ps k ≡ Some a → a.t ≤ last_whole p →
    ¬ Inside (place a) r → AnswersQuestion Ever (OnPiece interp ps k) p r No
stays_outside Discrete ps p r i k a stays has rise begun h e over n =
    let from = begun_later ps (first_whole p) i k a rise begun h e in
    answers_same Ever (AtPoint a) (OnPiece Discrete ps k) p r No (discrete_to ps k a e) (discrete_from ps k a e) (point_outside a p r has from over n)
stays_outside Step ps p r i k a stays has rise begun h e over n =
    let from = begun_later ps (first_whole p) i k a rise begun h e in
    elim (cases_lt (k + 1) (length ps)) [
      | inl more ↦
          let b = get_or ps (k + 1) a in
          let f = slice_get-get_or ps (k + 1) a more in
          answers_same Ever (HeldUntil a b) (OnPiece Step ps k) p r No (held_to ps rise k a b e f) (held_from ps k a b e f)
          (held_outside a b p r (rise k a b e f) has from over n)
      | inr last ↦
          answers_same Ever (AtPoint a) (OnPiece Step ps k) p r No (last_to ps k a last e) (last_from ps rise k a last e) (point_outside a p r has from over n)
    ]
stays_outside Linear ps p r i k a stays has rise begun h e over n = absurd (stays refl)

pub first_inside : (ps : List Point) (r : Area) (i : ℕ) (a : Point) → slice_get ps i ≡ Some a → Inside (place a) r →
    EachAt ps (λ (q : Point). Inside (place q) r) i
first_inside ps r i a e h q f = subst (λ (x : Point). Inside (place x) r) (same_Some a q (sym e ∙ f)) h

-- those so far stay inside, and one more does
pub stayed_more : (ps : List Point) (p : Span) (r : Area) (i k : ℕ) (b : Point) → HasInstant p → ((k : ℕ) → Rises ps k) →
    EachAt ps (λ (q : Point). first_whole p ≤ q.t) i → i ≤ k → slice_get ps (k + 1) ≡ Some b → b.t ≤ last_whole p → Inside (place b) r →
    ((j : ℕ) → i ≤ j → j < k → AnswersQuestion Always (OnPiece Linear ps j) p r Yes) → EachAt ps (λ (q : Point). Inside (place q) r) k →
    ((j : ℕ) → i ≤ j → j < k + 1 → AnswersQuestion Always (OnPiece Linear ps j) p r Yes) × EachAt ps (λ (q : Point). Inside (place q) r) (k + 1)
stayed_more ps p r i k b has rise begun h f over inside before last =
    let within = slice_get_within ps (k + 1) b f in
    let a = get_or ps k b in
    let e = slice_get-get_or ps k b (omega (arith, within)) in (
      one_more (λ j. AnswersQuestion Always (OnPiece Linear ps j) p r Yes) i k before
          (stays_inside ps p r i k a b has rise begun h e f over (last a e) inside),
      first_inside ps r (k + 1) b f inside,
    )
