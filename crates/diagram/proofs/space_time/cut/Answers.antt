use Rattle.std.proofs.Common.{sym, arith}
use Rattle.std.proofs.lemmas.List.{take_all}
use Rattle.diagram.proofs.space_time.cut.Goals as goal

pub returns-in-None : goal.returns-in-None
returns-in-None c = sym (take_all 56 c.args.text.now (omega (arith, c.in-None.ensures.cases)))
