use Rattle.std.proofs.Common.{◌≡◌, ◌∙◌, ◌||◌, true, sym, rules}
use Rattle.std.specs.Option.{is_none}
use Rattle.tpoint.specs.Moving.{At}
use Rattle.tpoint.specs.Extents.{Shares}
use Rattle.restrict.proofs.Assembly.{by_itself, by_other, ends_of, is_cut}
use Rattle.restrict.proofs.Shared.{Ends, shared_told, told_shared}
use Rattle.restrict.proofs.period_cut.cut.Goals.{After-is_shared, then-begin_in, else-begin_in, then-end_in, else-end_in}
use Rattle.restrict.proofs.period_cut.cut.Goals as goal

-- the points inside and what the two ends add
parts : (c : After-is_shared)
    → Ends c.args.seq.now c.args.period.now c.at_begin-begin.result c.inside-inside.result.now c.at_end-end.result
parts c =
    ends_of _ _ _ _ _ _ c.points.ensures.valid c.points.ensures.value c.inside-inside.ensures.has_instant c.inside-inside.ensures.points
    c.at_begin-begin.ensures c.at_end-end.ensures

told : (c : After-is_shared) → c.is_shared.result ≡ true → Shares (At c.args.seq.now) c.args.period.now
told c e = told_shared _ _ _ _ _ (parts c) (sym c.is_shared.ensures ∙ e)

pub returns-then-not-is_shared-clause-cut : goal.returns-then-not-is_shared-clause-cut
returns-then-not-is_shared-clause-cut c =
    record {
      nothing_shared = λ shared.
          let yes_told = shared_told _ _ _ _ _ (parts (goal.at.returns-then-not-is_shared-clause-cut c).After-is_shared) shared in
          let test = c.is_shared.ensures in
          let failed = c.if-not-is_shared.true in
          absurd (cc);
    }

-- where something is shared there is a cut
pub returns-in_err-points-clause-none : goal.returns-in_err-points-clause-none
returns-in_err-points-clause-none c =
    λ none.
    let shared : c.is_shared.result ≡ true = let f = c.if-not-is_shared.false in search rules in
    absurd (none.nothing_shared (told (goal.at.returns-in_err-points-clause-none c).After-is_shared shared))

pub returns-clause-none : goal.returns-clause-none
returns-clause-none c =
    λ none.
    let shared : c.is_shared.result ≡ true = let f = c.if-not-is_shared.false in search rules in
    absurd (none.nothing_shared (told (goal.at.returns-clause-none c).After-is_shared shared))

pub returns-clause-cut : goal.returns-clause-cut
returns-clause-cut c =
    let at = (goal.at.returns-clause-cut c).After-is_shared in
    let shared : c.is_shared.result ≡ true = let f = c.if-not-is_shared.false in search rules in
    let p = c.args.period.now in
    let begin_in : c.if-begin_in.begin_in ≡ (p.begin_in || is_none c.at_begin-begin.result) =
    elim c.if-begin_in.branch [
      | then-begin_in w ↦ by_itself _ _ _ (sym c.begin_in.ensures.value ∙ w.if-begin_in.true) (w.begin_in-is ∙ w.if-begin_in.true)
      | else-begin_in w ↦
          by_other _ _ _ _ (sym c.begin_in.ensures.value ∙ w.if-begin_in.false) w.begin_in-is w.is_none-begin_in.ensures
    ] in
    let end_in : c.if-end_in.end_in ≡ (p.end_in || is_none c.at_end-end.result) =
    elim c.if-end_in.branch [
      | then-end_in w ↦ by_itself _ _ _ (sym c.end_in.ensures.value ∙ w.if-end_in.true) (w.end_in-is ∙ w.if-end_in.true)
      | else-end_in w ↦ by_other _ _ _ _ (sym c.end_in.ensures.value ∙ w.if-end_in.false) w.end_in-is w.is_none-end_in.ensures
    ] in
    is_cut _ _ _ _ _ _ _ _ _ c.interp.ensures.value begin_in end_in (parts at) (told at shared) c.in_ok-points.ensures
