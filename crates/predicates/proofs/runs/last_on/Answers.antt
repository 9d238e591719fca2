use Rattle.std.proofs.Common.{◌+◌, ◌≤◌, IsTrue, rules, arith}
use Rattle.tpoint.proofs.PlaceLemmas.{stands_at}
use Rattle.tpoint.specs.declared.point.Point.{Point}
use Rattle.predicates.specs.Ends.{IsOn}
use Rattle.predicates.proofs.RunLemmas.{each_more}
use Rattle.predicates.proofs.runs.last_on.Goals as goal

pub loop-k-preserved : goal.loop-k-preserved
loop-k-preserved c =
    let ps = c.args.points.now in
    let k = c.loop-k.k in
    let b = c.index-points-k.result in
    let e = stands_at ps k b (omega arith) c.index-points-k.is in
    let told : IsTrue c.is_on.result = let g = c.if-not-is_on.false in search rules in
    let over : b.t ≤ c.args.end = search rules in (
      each_more (λ (p : Point). IsOn c.args.side p c.args.area.now) ps c.args.from k b c.loop-k.invariant.0 e (c.is_on.ensures.0 told),
      each_more (λ (p : Point). p.t ≤ c.args.end) ps (c.args.from + 1) k b c.loop-k.invariant.1 e over,
    )
