use Rattle.std.proofs.Common.{rules, vec_len}
use Rattle.stable.specs.Storages.{scripted}
use Rattle.world.proofs.StartLemmas.{started_membership}
use Rattle.world.proofs.inner.Inner.with.Goals as goal

pub invariant_of-result-clause-membership : goal.invariant_of-result-clause-membership
invariant_of-result-clause-membership g c =
    started_membership (scripted g.S.Stable) c.args.count (vec_len c.in_ok-nodes.nodes) c.in_ok-nodes.nodes.items
    c.new-2.result.items (search rules) c.in_ok-nodes.ensures.few c.new-2.ensures.items c.in_ok-nodes.ensures.started
