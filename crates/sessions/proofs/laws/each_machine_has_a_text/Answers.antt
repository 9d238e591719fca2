use Rattle.sessions.proofs.Snapshots.{tells_each}
use Rattle.sessions.proofs.laws.each_machine_has_a_text.Goals as goal

pub returns : goal.returns
returns c = λ l m fits s. tells_each m fits l s
