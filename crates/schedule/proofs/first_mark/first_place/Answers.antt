use Rattle.std.proofs.Common.{◌==◌}
use Rattle.schedule.proofs.FirstPlaces.{first_is_position}
use Rattle.schedule.proofs.first_mark.first_place.Goals as goal

pub returns : goal.returns
returns c = first_is_position (λ b. b == c.args.mark) c.args.bytes.now c.memchr.result c.memchr.ensures
