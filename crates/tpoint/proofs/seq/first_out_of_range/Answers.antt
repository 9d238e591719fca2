use Rattle.std.proofs.Common.{rules, arith}
use Rattle.tpoint.specs.Moving.{InBounds}
use Rattle.tpoint.proofs.PlaceLemmas.{at_read_more, not_at_read, at_all}
use Rattle.tpoint.proofs.seq.first_out_of_range.Goals as goal

pub returns-then-not-is_in_range : goal.returns-then-not-is_in_range
returns-then-not-is_in_range c =
    record {
      within = omega arith;
      before = c.loop-k.invariant;
      fails = not_at_read c.args.points.now InBounds c.loop-k.k c.index-points-k.result (omega arith) c.index-points-k.is (search rules);
    }

pub loop-k-preserved : goal.loop-k-preserved
loop-k-preserved c =
    at_read_more c.args.points.now InBounds c.loop-k.k c.index-points-k.result (omega arith) c.index-points-k.is
    (search rules) c.loop-k.invariant

pub returns : goal.returns
returns c = at_all c.args.points.now InBounds c.loop-k.k (omega arith) c.loop-k.invariant
