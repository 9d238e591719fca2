use Rattle.std.proofs.Common.{arith}
use Rattle.std.proofs.lemmas.Grind.{common_steps}
use Rattle.sqlstable.proofs.Spellings.{found_spelled}
use Rattle.sqlstable.proofs.key_bytes.key_of.Goals as goal

pub returns-in_ok-slot-in-86 : goal.returns-in_ok-slot-in-86
returns-in_ok-slot-in-86 c = grind (arith, common_steps)

-- one byte
pub returns-in-len1 : goal.returns-in-len1
returns-in-len1 c =
    found_spelled c.args.bytes.now _ c.of_letter.result c.in-len1.len_at_least c.in-len1.len_below c.of_letter.ensures
