use Rattle.std.proofs.Common.{arith}
use Rattle.std.proofs.lemmas.Grind.{common_steps}
use Rattle.replay.proofs.line_texts.write_end.Goals as goal

pub returns-in-NotAQuorum : goal.returns-in-NotAQuorum
returns-in-NotAQuorum c = grind (arith, common_steps)

pub returns-in-Down : goal.returns-in-Down
returns-in-Down c = grind (arith, common_steps)

pub returns-in-Behind : goal.returns-in-Behind
returns-in-Behind c = grind (arith, common_steps)

pub returns-in-Refused : goal.returns-in-Refused
returns-in-Refused c = grind (arith, common_steps)

pub returns-in-Stopped : goal.returns-in-Stopped
returns-in-Stopped c = grind (arith, common_steps)

pub returns-in-TooLow : goal.returns-in-TooLow
returns-in-TooLow c = grind (arith, common_steps)

pub returns-in-Decided : goal.returns-in-Decided
returns-in-Decided c = grind (arith, common_steps)
