use Rattle.sessions.proofs.TextLaws.{one_machine_of_text}
use Rattle.sessions.proofs.laws.one_machine_of_each_text.Goals as goal

pub returns : goal.returns
returns c = one_machine_of_text
