use Rattle.std.proofs.Common.{rules}
use Rattle.stable.specs.Storages.{scripted}
use Rattle.world.specs.Inner.{inner_of}
use Rattle.world_model.proofs.Progress.FiredLemmas.{start_few}
use Rattle.world.proofs.WorldSound.{started, stays_safe}
use Rattle.world.proofs.world.World.with.Goals as goal

-- a run begins sound, and no fault has come
pub invariant_of-result : goal.invariant_of-result
invariant_of-result g c = record {
  sound = started c.args.count (inner_of c.in_ok-inner.inner) c.in_ok-inner.ensures.start;
  few_faults = start_few (scripted g.S.Stable) c.args.count (inner_of c.in_ok-inner.inner) c.in_ok-inner.ensures.start;
}

pub returns-clause-safe : goal.returns-clause-safe
returns-clause-safe g c =
    stays_safe g.S.Stable c.in_ok-inner.inner (start_few (scripted g.S.Stable) c.args.count
    (inner_of c.in_ok-inner.inner) c.in_ok-inner.ensures.start)
    (started c.args.count (inner_of c.in_ok-inner.inner) c.in_ok-inner.ensures.start)

-- each node is over its own of the storages that were given
pub returns-clause-over : goal.returns-clause-over
returns-clause-over g c = c.in_ok-inner.ensures.over

pub returns-in_err-inner-clause-used : goal.returns-in_err-inner-clause-used
returns-in_err-inner-clause-used g c = search rules
