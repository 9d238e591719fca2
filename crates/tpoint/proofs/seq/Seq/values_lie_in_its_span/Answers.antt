use Rattle.tpoint.proofs.SpanLemmas.{values_in_span}
use Rattle.tpoint.proofs.seq.Seq.values_lie_in_its_span.Goals as goal

pub returns : goal.returns
returns c = values_in_span c.args.self.now c.points.ensures.valid
