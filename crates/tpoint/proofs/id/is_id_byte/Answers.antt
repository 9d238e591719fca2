use Rattle.std.proofs.Common.{rules}
use Rattle.tpoint.proofs.id.is_id_byte.Goals as goal

pub returns-else-byte-eq95 : goal.returns-else-byte-eq95
returns-else-byte-eq95 c = search rules
