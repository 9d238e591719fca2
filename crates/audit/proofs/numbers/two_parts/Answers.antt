use Rattle.audit.proofs.NumberLemmas.{other_parts}
use Rattle.audit.proofs.numbers.two_parts.Goals as goal

pub returns-in-Some : goal.returns-in-Some
returns-in-Some c =
    other_parts c.args.mark c.args.word.now _ _ c.cut.result.1 c.in_ok-more.field-0 c.cut-2.result.1 c.in-Some.field-0
    c.cut.ensures c.in_ok-more.was c.cut-2.ensures c.in-Some.is
