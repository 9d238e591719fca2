use Rattle.std.proofs.Common.{rules}
use Rattle.mfpxd.proofs.Horizons.{all_seen, one_seen}
use Rattle.mfpxd.proofs.place.horizon_of.Goals as goal

pub loop-key-preserved : goal.loop-key-preserved
loop-key-preserved c =
    one_seen c.args.keys.now c.loop-key.key-index _ _ _ c.key-item.result c.loop-key-test.true (search rules) c.see.ensures
    c.loop-key.invariant

pub returns : goal.returns
returns c = all_seen c.args.keys.now c.loop-key.key-index c.loop-key.horizon _ (search rules) c.loop-key.invariant
