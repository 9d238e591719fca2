use Rattle.std.proofs.Common.{◌+◌, ℕ, max, get_or, ap, ◌∙◌}
use Rattle.verdicts.specs.declared.lines.LearnLine.{LearnLine}
use Rattle.verdicts.specs.declared.lines.Name.TheVariants.{NoOp}
use Rattle.verdicts.proofs.VerdictLemmas.{greatest_upto}
use Rattle.verdicts.proofs.decision.learnt_reach.Goals as goal

pub loop-line-preserved : goal.loop-line-preserved
loop-line-preserved c =
    let other : LearnLine = record { place = record { file = 0; line = 0 }; slot = 0; name = NoOp } in
    c.max-reached.ensures
    ∙ ap (λ (n : ℕ). max n ((get_or c.args.learns.now c.loop-line.line-index other).slot + 1)) c.loop-line.invariant
    ∙ greatest_upto (λ (line : LearnLine). line.slot + 1) c.args.learns.now c.loop-line.line-index other c.loop-line-test.true
