-- A leg's instants and positions, by its parameter.
use Rattle.std.proofs.Common.{◌≡◌, ◌<◌, ℤ, ◌↔◌, Bool, true, false, not, IsTrue, MatchBool, Option, is_some, sym, refl}
use Rattle.tpoint.proofs.Fractions.{≤ᶠ_refl, not_below, ≈-≤ᶠ, ≤ᶠ-≈, ≈_sym, <ᶠ-≤ᶠ, ≤ᶠ-<ᶠ, <ᶠ_of_≤ᶠ_not}
use Rattle.tpoint.proofs.Parameters.{Placed, leg_parameter, leg_value}
use Rattle.tpoint.specs.Fraction.{Fraction, ◌≈◌, ◌<ᶠ◌, whole}
use Rattle.tpoint.specs.Ways.{way}
use Rattle.tpoint.specs.Moving.{Position, OnLeg, vertex, moment}
use Rattle.tpoint.specs.Extents.{Span, Before, LiesIn, Shares, Area, Between, Inside}
use Rattle.tpoint.specs.declared.point.Point.{Point}
use Rattle.predicates.specs.declared.windows.Window.{Window}
use Rattle.predicates.specs.declared.questions.Question.{Question}
use Rattle.predicates.specs.declared.questions.Question.TheVariants.{Ever, Always}
use Rattle.predicates.specs.declared.questions.Tri.TheVariants.{None}
use Rattle.predicates.specs.Windows.{InLeg, InWindow, IsWindowOf, SomeIn, EveryIn, InTime, instant_at, place_at}
use Rattle.predicates.specs.Predicates.{SomeInside, AllInside}
use Rattle.predicates.specs.Questions.{AnswersQuestion}
use Rattle.tpoint.proofs.Periods.{at_or_before, strictly_before, lies_same}
use Rattle.predicates.proofs.WindowLemmas.{some_parameter, is_some_of, same_window}

-- ---- windows of two conditions
-- where the first part is v, the second is of v
pub part_of_part : (w v : Window) (P Q R : Fraction → Type 0) (o : Option Window) → ((u : Fraction) → InWindow u v ↔ (InWindow u w × P u)) →
    ((u : Fraction) → (P u × Q u) ↔ R u) → IsWindowOf o (λ u. InWindow u v × Q u) → IsWindowOf o (λ u. InWindow u w × R u)
part_of_part w v P Q R o first both is =
    same_window (λ u. InWindow u v × Q u) (λ u. InWindow u w × R u) o
    (λ u. (
      λ h. let f = (first u).0 h.0 in (f.0, (both u).0 (f.1, h.1)),
      λ h. let b = (both u).1 h.1 in ((first u).1 (h.0, b.0), b.1),
    ))
    is

-- a part of a part that is not there
pub no_part : (w : Window) (P R : Fraction → Type 0) → ((u : Fraction) → ¬ (InWindow u w × P u)) → ((u : Fraction) → R u → P u) →
    (u : Fraction) → ¬ (InWindow u w × R u)
no_part w P R none less u h = none u (h.0, less u h.1)

pub between_both : (low high : ℤ) (v : Fraction) → (Before true (whole low) v × Before true v (whole high)) ↔ Between low high v
between_both low high v = (
  λ h. record { from = h.0.not_after; to = h.1.not_after },
  λ b. (at_or_before b.from, at_or_before b.to),
)

pub in_time_both : (a b : Point) (p : Span) (u : Fraction) →
    (Before p.begin_in (moment p.begin) (instant_at a b u) × Before p.end_in (instant_at a b u) (moment p.end)) ↔ LiesIn
    (instant_at a b u) p
in_time_both a b p u = (λ h. record { begun = h.0; not_over = h.1 }, λ l. (l.begun, l.not_over))

-- the part in the period of the window of the whole leg
pub timed : (a b : Point) (p : Span) (w : Window) (o : Option Window) → ((u : Fraction) → InWindow u w ↔ InLeg u) →
    IsWindowOf o (λ u. InWindow u w × LiesIn (instant_at a b u) p) → IsWindowOf o (InTime a b p)
timed a b p w o all is =
    same_window (λ u. InWindow u w × LiesIn (instant_at a b u) p) (InTime a b p) o
    (λ u. (
      λ h. record { in_leg = (all u).0 h.0; in_period = h.1 },
      λ t. ((all u).1 t.in_leg, t.in_period),
    ))
    is

pub inside_both : (a b : Point) (r : Area) (u : Fraction) →
    (Between r.x0 r.x1 (way a.x b.x u) × Between r.y0 r.y1 (way a.y b.y u)) ↔ Inside (place_at a b u) r
inside_both a b r u = (λ h. record { across = h.0; along = h.1 }, λ i. (i.across, i.along))

-- ---- a number beyond one of two bounds
pub below_is_out : (low high : ℤ) (v : Fraction) → Before false v (whole low) → ¬ Between low high v
below_is_out low high v h b =
    let same : v <ᶠ v = <ᶠ-≤ᶠ (h.apart refl) b.from in
    <ᶠ_of_≤ᶠ_not v v same (≤ᶠ_refl v)

pub above_is_out : (low high : ℤ) (v : Fraction) → Before false (whole high) v → ¬ Between low high v
above_is_out low high v h b =
    let same : v <ᶠ v = ≤ᶠ-<ᶠ b.to (h.apart refl) in
    <ᶠ_of_≤ᶠ_not v v same (≤ᶠ_refl v)

-- what is not beyond them is between them
pub else_between : (low high : ℤ) (v : Fraction) → ¬ Before false v (whole low) → ¬ Before false (whole high) v → Between low high v
else_between low high v n m =
    record {
      from = not_below v (whole low) (λ h. n (strictly_before false h));
      to = not_below (whole high) v (λ h. m (strictly_before false h));
    }

-- ---- a leg's instants in the period, by parameters
pub Between-≈ : {s t : Fraction} {a b : ℤ} → s ≈ t → Between a b s → Between a b t
Between-≈ e h = record { from = ≤ᶠ-≈ h.from e; to = ≈-≤ᶠ (≈_sym e) h.to }

-- an instant of the period on the leg has a parameter
pub time_of : (a b : Point) (p : Span) (t : Fraction) (v : Position) → a.t < b.t → LiesIn t p → OnLeg (vertex a) (vertex b) t v →
    (u : Fraction) × Placed a b u t v × InTime a b p u
time_of a b p t v later lies on =
    let found = leg_parameter a b t v later on in
    let at = found.1 in
    (found.0, at, record { in_leg = record { from = at.from; to = at.to }; in_period = lies_same at.time lies })

pub value_at : (a b : Point) (p : Span) (u : Fraction) → a.t < b.t → InTime a b p u →
    OnLeg (vertex a) (vertex b) (instant_at a b u) (place_at a b u)
value_at a b p u later at = leg_value a b u later at.in_leg.from at.in_leg.to

pub placed_inside : (a b : Point) (r : Area) (u t : Fraction) (v : Position) → Placed a b u t v → Inside v r → Inside (place_at a b u) r
placed_inside a b r u t v at i = record { across = Between-≈ at.across i.across; along = Between-≈ at.along i.along }

pub inside_placed : (a b : Point) (r : Area) (u t : Fraction) (v : Position) → Placed a b u t v → Inside (place_at a b u) r → Inside v r
inside_placed a b r u t v at i = record { across = Between-≈ (≈_sym at.across) i.across; along = Between-≈ (≈_sym at.along) i.along }

-- ---- what the window of the period tells of the leg
pub shares_none : (a b : Point) (p : Span) → a.t < b.t → ((u : Fraction) → ¬ InTime a b p u) → ¬ Shares (OnLeg (vertex a) (vertex b)) p
shares_none a b p later none s =
    let found = time_of a b p s.t s.v later s.in_period s.value in
    none found.0 found.2

pub shares_some : (a b : Point) (p : Span) (w : Window) → a.t < b.t → ((u : Fraction) → InWindow u w ↔ InTime a b p u) →
    Shares (OnLeg (vertex a) (vertex b)) p
shares_some a b p w later is =
    let some = some_parameter w in
    let at = (is some.0).0 some.1 in
    record { t = instant_at a b some.0; v = place_at a b some.0; in_period = at.in_period; value = value_at a b p some.0 later at }

pub inside_is : (a b : Point) (p : Span) (r : Area) (w : Window) → a.t < b.t → ((u : Fraction) → InWindow u w ↔ InTime a b p u) →
    SomeIn w (λ u. Inside (place_at a b u) r) ↔ SomeInside (OnLeg (vertex a) (vertex b)) p r
inside_is a b p r w later is = (
  λ s.
      let at = (is s.at).0 s.in_window in
      let value = value_at a b p s.at later at in
      record { t = instant_at a b s.at; v = place_at a b s.at; in_period = at.in_period; value = value; inside = s.holds },
  λ s.
      let found = time_of a b p s.t s.v later s.in_period s.value in
      record { at = found.0; in_window = (is found.0).1 found.2; holds = placed_inside a b r found.0 s.t s.v found.1 s.inside },
)

pub all_inside : (a b : Point) (p : Span) (r : Area) (w : Window) → a.t < b.t → ((u : Fraction) → InWindow u w ↔ InTime a b p u) →
    EveryIn w (λ u. Inside (place_at a b u) r) → AllInside (OnLeg (vertex a) (vertex b)) p r
all_inside a b p r w later is every =
    record {
      inside = λ t v lies on.
          let found = time_of a b p t v later lies on in
          inside_placed a b r found.0 t v found.1 (every.holds found.0 ((is found.0).1 found.2));
    }

pub not_all_inside : (a b : Point) (p : Span) (r : Area) (w : Window) → a.t < b.t → ((u : Fraction) → InWindow u w ↔ InTime a b p u) →
    SomeIn w (λ u. ¬ Inside (place_at a b u) r) → ¬ AllInside (OnLeg (vertex a) (vertex b)) p r
not_all_inside a b p r w later is s all =
    let at = (is s.at).0 s.in_window in
    s.holds (all.inside (instant_at a b s.at) (place_at a b s.at) at.in_period (value_at a b p s.at later at))

-- ---- whether a part of a window is there
pub some_in : (w : Window) (P : Fraction → Type 0) (o : Option Window) → IsWindowOf o (λ u. InWindow u w × P u) →
    IsTrue (is_some o) ↔ SomeIn w P
some_in w P o is =
    let some = is_some_of (λ u. InWindow u w × P u) o is in (
      λ e. let s = some.0 e in record { at = s.0; in_window = s.1.0; holds = s.1.1 },
      λ s. some.1 (s.at, (s.in_window, s.holds)),
    )

-- beyond one bound, or the other, or between them
pub stray_below : (w : Window) (from to low high : ℤ) (o : Option Window) → is_some o ≡ true →
    IsWindowOf o (λ u. InWindow u w × Before false (way from to u) (whole low)) → SomeIn w (λ u. ¬ Between low high (way from to u))
stray_below w from to low high o there is =
    let s = (some_in w (λ u. Before false (way from to u) (whole low)) o is).0 there in
    record { at = s.at; in_window = s.in_window; holds = below_is_out low high (way from to s.at) s.holds }

pub stray_above : (w : Window) (from to low high : ℤ) (below above : Option Window) (result : Bool) → is_some below ≡ false →
    IsWindowOf below (λ u. InWindow u w × Before false (way from to u) (whole low)) →
    IsWindowOf above (λ u. InWindow u w × Before false (whole high) (way from to u)) → result ≡ is_some above →
    MatchBool result (SomeIn w (λ u. ¬ Between low high (way from to u))) (EveryIn w (λ u. Between low high (way from to u)))
stray_above w from to low high below above true none is_below is_above e =
    let s = (some_in w (λ u. Before false (whole high) (way from to u)) above is_above).0 (sym e) in
    record { at = s.at; in_window = s.in_window; holds = above_is_out low high (way from to s.at) s.holds }
stray_above w from to low high below above false none is_below is_above e =
    let not_below_any = (some_in w (λ u. Before false (way from to u) (whole low)) below is_below).1 in
    let not_above_any = (some_in w (λ u. Before false (whole high) (way from to u)) above is_above).1 in
    record {
      holds = λ u i.
          else_between low high (way from to u)
          (λ h. let t = not_below_any (record { at = u; in_window = i; holds = h }) in cc)
          (λ h. let t = not_above_any (record { at = u; in_window = i; holds = h }) in cc);
    }

-- outside by one coordinate, or the other, or inside by both
pub leaves_across : (w : Window) (a b : Point) (r : Area) → SomeIn w (λ u. ¬ Between r.x0 r.x1 (way a.x b.x u)) →
    SomeIn w (λ u. ¬ Inside (place_at a b u) r)
leaves_across w a b r s = record { at = s.at; in_window = s.in_window; holds = λ i. s.holds i.across }

pub leaves_along : (w : Window) (a b : Point) (r : Area) (result : Bool) → EveryIn w (λ u. Between r.x0 r.x1 (way a.x b.x u)) →
    MatchBool result (SomeIn w (λ u. ¬ Between r.y0 r.y1 (way a.y b.y u))) (EveryIn w (λ u. Between r.y0 r.y1 (way a.y b.y u))) →
    MatchBool result (SomeIn w (λ u. ¬ Inside (place_at a b u) r)) (EveryIn w (λ u. Inside (place_at a b u) r))
leaves_along w a b r true across s = record { at = s.at; in_window = s.in_window; holds = λ i. s.holds i.along }
leaves_along w a b r false across every =
    record { holds = λ u i. record { across = across.holds u i; along = every.holds u i } }

-- ---- what the leg answers
pub answers_none : (q : Question) (R : Fraction → Position → Type 0) (p : Span) (r : Area) → ¬ Shares R p → AnswersQuestion q R p r None
answers_none Ever R p r none = none
answers_none Always R p r none = none

pub not_true : (b : Bool) → not b ≡ true → b ≡ false
not_true true e = absurd (cc)
not_true false e = refl

pub not_false : (b : Bool) → not b ≡ false → b ≡ true
not_false true e = refl
not_false false e = absurd (cc)

pub match_true : (b : Bool) (P Q : Type 0) → b ≡ true → MatchBool b P Q → P
match_true true P Q e h = h
match_true false P Q e h = absurd (cc)

pub match_false : (b : Bool) (P Q : Type 0) → b ≡ false → MatchBool b P Q → Q
match_false true P Q e h = absurd (cc)
match_false false P Q e h = h
