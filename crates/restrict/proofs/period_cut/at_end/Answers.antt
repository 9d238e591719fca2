use Rattle.std.proofs.Common.{◌≢◌, ◌∙◌, ◌-◌, length, sym, arith, rules}
use Rattle.std.proofs.lemmas.Bool.{eqb-false}
use Rattle.std.proofs.lemmas.Grind.{elements}
use Rattle.tpoint.specs.declared.interp.Interp.TheVariants.{Discrete}
use Rattle.restrict.proofs.InsideLemmas.{end_not_listed, last_added, none_listed}
use Rattle.restrict.proofs.period_cut.at_end.Goals.{in_default-via-then-inside-lt1, in_default-via-in-len1-up+else-eq}
use Rattle.restrict.proofs.period_cut.at_end.Goals as goal

pub returns-in_default-3 : goal.returns-in_default-3
returns-in_default-3 c =
    let qs = c.args.inside.now in
    let same = c.end-end.ensures.value in
    let goes_on : c.args.seq.now.interp ≢ Discrete = search rules in
    let apart = eqb-false _ _ (sym c.eq-2.ensures ∙ c.if-eq-2.false) in
    last_added c.args.seq.now c.args.period.now qs c.value_up_to_end.result
    (elim c.in_default.branch [
      | in_default-via-then-inside-lt1 w ↦ none_listed _ _ (search rules)
      | in_default-via-in-len1-up+else-eq w ↦
          let other = eqb-false _ _ (sym w.eq.ensures ∙ w.if-eq.false) in
          end_not_listed c.args.seq.now.points _ qs (length qs - 1) w.last-item.result c.requires (omega arith) w.last-item.is
          (λ e. other (e ∙ sym same))
    ])
    (λ e. apart (c.begin.ensures.value ∙ e ∙ sym same))
    goes_on c.value_up_to_end.ensures

pub returns-in-len1-up : goal.returns-in-len1-up
returns-in-len1-up c = grind (arith, elements)
