use Rattle.std.proofs.Common.{ℕ, max, take, ap, ◌∙◌}
use Rattle.verdicts.specs.Explaining.{greatest, position_of}
use Rattle.verdicts.specs.declared.lines.ToldLine.{ToldLine}
use Rattle.verdicts.proofs.VerdictLemmas.{greatest_upto}
use Rattle.verdicts.proofs.decision.told_reach.Goals as goal

pub loop-line-preserved : goal.loop-line-preserved
loop-line-preserved c =
    c.max-reached.ensures ∙ ap (λ (n : ℕ). max n c.position_of.result) c.loop-line.invariant
    ∙ ap (λ (n : ℕ). max (greatest (λ (line : ToldLine). position_of line.told) (take c.loop-line.line-index c.args.told.now)) n)
    (c.position_of.ensures ∙ ap (λ (line : ToldLine). position_of line.told) c.line-item.is)
    ∙ greatest_upto (λ (line : ToldLine). position_of line.told) c.args.told.now c.loop-line.line-index c.line-item.result c.loop-line-test.true
