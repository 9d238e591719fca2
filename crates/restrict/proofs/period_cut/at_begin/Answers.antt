use Rattle.std.proofs.Common.{◌≢◌, ◌∙◌, sym, arith, rules}
use Rattle.std.proofs.lemmas.Bool.{eqb-false}
use Rattle.std.proofs.lemmas.Grind.{elements}
use Rattle.tpoint.specs.declared.interp.Interp.TheVariants.{Discrete}
use Rattle.restrict.proofs.InsideLemmas.{begin_not_listed, first_added, none_listed}
use Rattle.restrict.proofs.period_cut.at_begin.Goals.{in_default-via-then-inside-lt1, in_default-via-in-len1-up+else-eq}
use Rattle.restrict.proofs.period_cut.at_begin.Goals as goal

pub returns-in_default-2 : goal.returns-in_default-2
returns-in_default-2 c =
    let same = c.begin-begin.ensures.value in
    let goes_on : c.args.seq.now.interp ≢ Discrete = search rules in
    first_added c.args.seq.now c.args.period.now c.args.inside.now c.begin-begin.result c.value_at.result same
    (elim c.in_default.branch [
      | in_default-via-then-inside-lt1 w ↦ none_listed _ _ (grind arith)
      | in_default-via-in-len1-up+else-eq w ↦
          let other = eqb-false _ _ (sym w.eq.ensures ∙ w.if-eq.false) in
          begin_not_listed c.args.seq.now.points _ _ w.first-item.result c.requires w.in-len1-up.len_at_least w.first-item.is
          (λ e. other (e ∙ sym same))
    ])
    goes_on c.value_at.ensures

pub returns-in-len1-up : goal.returns-in-len1-up
returns-in-len1-up c = grind (arith, elements)
