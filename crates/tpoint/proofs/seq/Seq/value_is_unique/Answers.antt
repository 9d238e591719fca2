use Rattle.tpoint.proofs.Unique.{at_unique}
use Rattle.tpoint.proofs.seq.Seq.value_is_unique.Goals as goal

pub returns : goal.returns
returns c = at_unique c.args.self.now c.points.ensures.valid
