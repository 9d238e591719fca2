use Rattle.std.proofs.Common.{◌==◌}
use Rattle.schedule.proofs.Cuts.{position_or_end}
use Rattle.schedule.proofs.first_mark.first_end.Goals as goal

pub returns : goal.returns
returns c =
    rw (c.unwrap_or.ensures, c.first_place.ensures) (position_or_end (λ b. b == c.args.mark) c.args.bytes.now)
