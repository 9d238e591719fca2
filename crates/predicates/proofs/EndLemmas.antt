-- What the two ends of a leg tell of the whole of it.
use Rattle.std.proofs.Common.{◌+◌, ◌<◌, ◌≤◌, ℤ, pos, ◌+ℤ◌, ◌-ℤ◌, inl, inr, arith}
use Rattle.std.proofs.lemmas.Bool.{cases_lt}
use Rattle.std.proofs.lemmas.Int.{ints}
use Rattle.tpoint.proofs.Fractions.{≤ᶠ_trans, ≤ᶠ_refl, ≤ᶠ_of_<ᶠ, whole_le, moment_le}
use Rattle.tpoint.proofs.SubLegs.{leg_reaches}
use Rattle.tpoint.proofs.Periods.{begun_at, over_at, whole_lies, lies_between, before_then_up, up_then_before, early, before_begin}
use Rattle.tpoint.proofs.Periods.{begin_no_later, first_then}
use Rattle.tpoint.proofs.Polynomials.{int, nat, ◌⊕◌, ◌⊝◌, ◌⊛◌, eq_from}
use Rattle.tpoint.specs.Fraction.{Fraction, ◌≈◌, ◌≤ᶠ◌, whole}
use Rattle.tpoint.specs.Ways.{way}
use Rattle.tpoint.specs.Moving.{OnLeg, moment, vertex}
use Rattle.tpoint.specs.Extents.{Span, HasInstant, LiesIn, Shares, Area, Between, Inside, first_whole, last_whole}
use Rattle.tpoint.specs.Pieces.{place}
use Rattle.tpoint.specs.declared.point.Point.{Point}
use Rattle.predicates.specs.declared.questions.Question.{Question}
use Rattle.predicates.specs.declared.questions.Question.TheVariants.{Ever, Always}
use Rattle.predicates.specs.Windows.{InLeg, InTime, instant_at, place_at}
use Rattle.predicates.specs.declared.questions.Tri.TheVariants.{Yes, No}
use Rattle.predicates.specs.Predicates.{AllInside}
use Rattle.predicates.specs.Questions.{AnswersQuestion}
use Rattle.predicates.specs.Ends.{AreBeyond, Miss, Settle, settled}
use Rattle.predicates.specs.Courses.{Crosses}
use Rattle.predicates.proofs.Margins.{way_at_least, way_at_most}
use Rattle.predicates.proofs.LegLemmas.{Between-≈, time_of, value_at, placed_inside, inside_placed}

-- a number on its way stays beyond a bound that both ends are beyond
beyond_all_along : (from to low high : ℤ) (u : Fraction) → InLeg u → AreBeyond from to low high → ¬ Between low high (way from to u)
beyond_all_along from to low high u in_leg h b =
    elim h [
      | inl below ↦
          let most = way_at_most (low -ℤ pos 1) from to u in_leg (omega (arith, ints, below.0)) (omega (arith, ints, below.1)) in
          let order = (whole_le low (low -ℤ pos 1)).1 (≤ᶠ_trans b.from most) in
          omega (arith, ints, order)
      | inr above ↦
          let least = way_at_least (high +ℤ pos 1) from to u in_leg (omega (arith, ints, above.0)) (omega (arith, ints, above.1)) in
          let order = (whole_le (high +ℤ pos 1) high).1 (≤ᶠ_trans least b.to) in
          omega (arith, ints, order)
    ]

pub missed_leg : (a b : Point) (r : Area) → Miss a b r → ¬ Crosses a b r
missed_leg a b r h c =
    elim h [
      | inl across ↦ beyond_all_along a.x b.x r.x0 r.x1 c.at c.in_leg across c.inside.across
      | inr along ↦ beyond_all_along a.y b.y r.y0 r.y1 c.at c.in_leg along c.inside.along
    ]

-- and between two bounds that both ends are between
between_all_along : (from to low high : ℤ) (u : Fraction) → InLeg u → Between low high (whole from) → Between low high (whole to) →
    Between low high (way from to u)
between_all_along from to low high u in_leg f t =
    record {
      from = way_at_least low from to u in_leg ((whole_le low from).1 f.from) ((whole_le low to).1 t.from);
      to = way_at_most high from to u in_leg ((whole_le from high).1 f.to) ((whole_le to high).1 t.to);
    }

-- a leg within the period is in time all along
pub leg_lies : (a b : Point) (p : Span) → HasInstant p → a.t < b.t → first_whole p ≤ a.t → b.t ≤ last_whole p →
    LiesIn (moment a.t) p × LiesIn (moment b.t) p
leg_lies a b p has later begun over = (
  (whole_lies p a.t has).0 (begun, omega (arith, later, over)),
  (whole_lies p b.t has).0 (omega (arith, later, begun), over),
)

in_time : (a b : Point) (p : Span) (u : Fraction) → a.t < b.t → LiesIn (moment a.t) p → LiesIn (moment b.t) p → InLeg u → InTime a b p u
in_time a b p u later from to in_leg =
    record {
      in_leg = in_leg;
      in_period = lies_between from
          (way_at_least (pos a.t) (pos a.t) (pos b.t) u in_leg (omega (arith, ints)) (omega (arith, ints)))
          (way_at_most (pos b.t) (pos a.t) (pos b.t) u in_leg (omega (arith, ints)) (omega (arith, ints)))
          to;
    }

begin_in_leg : InLeg (whole (pos 0))
begin_in_leg = record { from = record { cross = omega (arith, ints) }; to = record { cross = omega (arith, ints) } }

-- a leg has a value at each of its instants
shares_at : (a b : Point) (p : Span) (t : Fraction) → a.t < b.t → moment a.t ≤ᶠ t → t ≤ᶠ moment b.t → LiesIn t p →
    Shares (OnLeg (vertex a) (vertex b)) p
shares_at a b p t later from to lies =
    let value = leg_reaches a b t later from to in record { t = t; v = value.0; in_period = lies; value = value.1 }

pub shares : (a b : Point) (p : Span) → a.t < b.t → HasInstant p → first_whole p ≤ b.t → a.t ≤ last_whole p →
    Shares (OnLeg (vertex a) (vertex b)) p
shares a b p later has begun over =
    elim (cases_lt a.t (first_whole p)) [
      | inr from ↦
          shares_at a b p (moment a.t) later (≤ᶠ_refl (moment a.t)) ((moment_le a.t b.t).0 (omega (arith, later)))
          ((whole_lies p a.t has).0 (from, over))
      | inl before ↦
          let from = (moment_le a.t p.begin).0 (before_begin p a.t before) in
          elim (cases_lt p.begin b.t) [
            | inl less ↦
                let first = early p has in
                let to = (moment_le (p.begin + 1) b.t).0 (omega (arith, less)) in
                shares_at a b p first.0 later (≤ᶠ_trans from first.2) (≤ᶠ_trans (≤ᶠ_of_<ᶠ first.3) to) first.1
            | inr last ↦
                let lies = (whole_lies p p.begin has).0 (omega (arith, begun, last), begin_no_later p has) in
                let to = (moment_le p.begin b.t).0 (first_then p b.t begun) in
                shares_at a b p (moment p.begin) later from to lies
          ]
    ]

-- and none in a period of other instants
pub shares_not : (a b : Point) (p : Span) → HasInstant p → ¬ ((first_whole p ≤ b.t) × (a.t ≤ last_whole p)) →
    ¬ Shares (OnLeg (vertex a) (vertex b)) p
shares_not a b p has apart s =
    let begun = (begun_at p b.t).1 (before_then_up s.in_period.begun s.value.not_over) in
    let over = (over_at p a.t has).1 (up_then_before s.value.begun s.in_period.not_over) in
    apart (begun, over)

-- ---- the answer of a leg that its ends settle, where it has an instant of the period
pub settled_leg : (q : Question) (a b : Point) (p : Span) (r : Area) → a.t < b.t → HasInstant p → first_whole p ≤ b.t →
    a.t ≤ last_whole p → Settle q a b r → AnswersQuestion q (OnLeg (vertex a) (vertex b)) p r (settled q)
settled_leg Ever a b p r later has begun over h = (
  shares a b p later has begun over,
  λ s.
      let found = time_of a b p s.t s.v later s.in_period s.value in
      let u = found.0 in
      let i = placed_inside a b r u s.t s.v found.1 s.inside in
      elim h [
        | inl across ↦ beyond_all_along a.x b.x r.x0 r.x1 u found.2.in_leg across i.across
        | inr along ↦ beyond_all_along a.y b.y r.y0 r.y1 u found.2.in_leg along i.along
      ],
)
settled_leg Always a b p r later has begun over h = (
  shares a b p later has begun over,
  record {
    inside = λ t v lies on.
        let found = time_of a b p t v later lies on in
        let u = found.0 in
        inside_placed a b r u t v found.1
        (record {
          across = between_all_along a.x b.x r.x0 r.x1 u found.2.in_leg h.0.across h.1.across;
          along = between_all_along a.y b.y r.y0 r.y1 u found.2.in_leg h.0.along h.1.along;
        });
  },
)

-- ---- the answer of a leg within the period that its ends don't settle
within_shares : (a b : Point) (p : Span) → a.t < b.t → LiesIn (moment a.t) p → LiesIn (moment b.t) p
    → Shares (OnLeg (vertex a) (vertex b)) p
within_shares a b p later begun over =
    shares_at a b p (moment a.t) later (≤ᶠ_refl (moment a.t)) ((moment_le a.t b.t).0 (omega (arith, later))) begun

pub crossed_leg : (a b : Point) (p : Span) (r : Area) → a.t < b.t → LiesIn (moment a.t) p → LiesIn (moment b.t) p → Crosses a b r →
    AnswersQuestion Ever (OnLeg (vertex a) (vertex b)) p r Yes
crossed_leg a b p r later begun over c =
    let at = in_time a b p c.at later begun over c.in_leg in
    record {
      t = instant_at a b c.at;
      v = place_at a b c.at;
      in_period = at.in_period;
      value = value_at a b p c.at later at;
      inside = c.inside;
    }

pub passed_leg : (a b : Point) (p : Span) (r : Area) → a.t < b.t → LiesIn (moment a.t) p → LiesIn (moment b.t) p → ¬ Crosses a b r →
    AnswersQuestion Ever (OnLeg (vertex a) (vertex b)) p r No
passed_leg a b p r later begun over n = (
  within_shares a b p later begun over,
  λ s.
      let found = time_of a b p s.t s.v later s.in_period s.value in
      n (record { at = found.0; in_leg = found.2.in_leg; inside = placed_inside a b r found.0 s.t s.v found.1 s.inside }),
)

-- where a leg's ends are, by its parameters
at_begin : (from to : ℤ) → way from to (whole (pos 0)) ≈ whole from
at_begin from to =
    let X = int from in
    record { cross = eq_from ((X ⊛ nat 1 ⊕ (int to ⊝ X) ⊛ nat 0) ⊛ nat 1) (X ⊛ nat 1) (omega arith) }

at_end : (from to : ℤ) → way from to (whole (pos 1)) ≈ whole to
at_end from to =
    let X = int from in
    record { cross = eq_from ((X ⊛ nat 1 ⊕ (int to ⊝ X) ⊛ nat 1) ⊛ nat 1) (int to ⊛ nat 1) (omega arith) }

end_in_leg : InLeg (whole (pos 1))
end_in_leg = record { from = record { cross = omega (arith, ints) }; to = record { cross = omega (arith, ints) } }

inside_at : (a b : Point) (p : Span) (r : Area) (u : Fraction) → a.t < b.t → LiesIn (moment a.t) p → LiesIn (moment b.t) p → InLeg u →
    AllInside (OnLeg (vertex a) (vertex b)) p r → Inside (place_at a b u) r
inside_at a b p r u later begun over in_leg all =
    let at = in_time a b p u later begun over in_leg in
    all.inside (instant_at a b u) (place_at a b u) at.in_period (value_at a b p u later at)

pub straying_leg : (a b : Point) (p : Span) (r : Area) → a.t < b.t → LiesIn (moment a.t) p → LiesIn (moment b.t) p →
    ¬ (Inside (place a) r × Inside (place b) r) → AnswersQuestion Always (OnLeg (vertex a) (vertex b)) p r No
straying_leg a b p r later begun over n = (
  within_shares a b p later begun over,
  λ all.
      let first = inside_at a b p r (whole (pos 0)) later begun over begin_in_leg all in
      let last = inside_at a b p r (whole (pos 1)) later begun over end_in_leg all in
      n (
        record { across = Between-≈ (at_begin a.x b.x) first.across; along = Between-≈ (at_begin a.y b.y) first.along },
        record { across = Between-≈ (at_end a.x b.x) last.across; along = Between-≈ (at_end a.y b.y) last.along },
      ),
)
