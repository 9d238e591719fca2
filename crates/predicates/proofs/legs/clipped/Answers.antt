use Rattle.std.proofs.Common.{sym, ◌∙◌}
use Rattle.predicates.proofs.LegLemmas.{shares_none, shares_some, inside_is, all_inside, not_all_inside}
use Rattle.predicates.proofs.LegLemmas.{answers_none, not_true, not_false, match_true, match_false}
use Rattle.predicates.proofs.Tests.{told_no}
use Rattle.predicates.proofs.legs.clipped.Goals as goal
use Rattle.predicates.proofs.legs.clipped.Goals.{in-Ever, in-Always}

pub returns-in_default : goal.returns-in_default
returns-in_default c =
    answers_none c.args.question _ _ _ (shares_none c.args.a.now c.args.b.now c.args.period.now c.requires.later c.in_default.ensures)

pub returns-then-inside : goal.returns-then-inside
returns-then-inside c =
    let is = c.in-Some.ensures in
    elim c.match-question.branch [
      | in-Ever w ↦
          let met = sym w.inside-is ∙ c.if-inside.true in
          rw w.in-Ever.is ((inside_is _ _ _ _ _ c.requires.later is).0 (w.meets-inside.ensures.0 met))
      | in-Always w ↦
          let stays = not_true w.leaves.result (sym w.inside-is ∙ c.if-inside.true) in
          rw w.in-Always.is
          (shares_some _ _ _ _ c.requires.later is, all_inside _ _ _ _ _ c.requires.later is (match_false _ _ _ stays w.leaves.ensures))
    ]

pub returns-else-inside : goal.returns-else-inside
returns-else-inside c =
    let is = c.in-Some.ensures in
    let shares = shares_some _ _ _ _ c.requires.later is in
    elim c.match-question.branch [
      | in-Ever w ↦
          let apart = sym w.inside-is ∙ c.if-inside.false in
          rw w.in-Ever.is
          (shares, λ s. told_no apart w.meets-inside.ensures.1 ((inside_is _ _ _ _ _ c.requires.later is).1 s))
      | in-Always w ↦
          let strays = not_false w.leaves.result (sym w.inside-is ∙ c.if-inside.false) in
          rw w.in-Always.is
          (shares, not_all_inside _ _ _ _ _ c.requires.later is (match_true _ _ _ strays w.leaves.ensures))
    ]
