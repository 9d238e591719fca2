use Rattle.mfpxd.proofs.Written.{writes_more}
use Rattle.mfpxd.proofs.outbox.Outbox.write_to.Goals as goal

pub loop-self-preserved : goal.loop-self-preserved
loop-self-preserved g c =
    writes_more _ _ _ _ _ _ _ _ c.loop-self.invariant c.as_slice.ensures c.advance.ensures.items c.in-Ok.ensures.bytes
