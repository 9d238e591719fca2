use Rattle.std.proofs.Common.{rules, arith, take_all, ◌∙◌}
use Rattle.mfjson.proofs.Lists.{together_more}
use Rattle.mfjson.proofs.reader.points_of.Goals as goal

pub loop-i-preserved : goal.loop-i-preserved
loop-i-preserved c =
    rw c.in_ok-push.ensures.items (together_more c.loop-i.points.items c.args.instants.now c.args.places.now c.loop-i.i _ (omega arith)
    (omega arith)
    c.loop-i.invariant c.index-instants-i.is (search rules))

pub returns : goal.returns
returns c =
    record {
      when = c.loop-i.invariant.when ∙ take_all _ _ (omega arith);
      where_to = c.loop-i.invariant.where_to ∙ take_all _ _ (omega arith);
    }
