use Rattle.std.proofs.Common.{rules}
use Rattle.world.specs.Inner.{inner_of}
use Rattle.world.specs.declared.log.TheConstants.{MOST_DELIVERIES}
use Rattle.world_model.proofs.Progress.FiredLemmas.{flush_keeps_few}
use Rattle.world.proofs.WorldSound.{flush_kept, stays_safe}
use Rattle.world.proofs.world.World.flush.Goals as goal

-- the run behind it was left as its contract says
pub invariant_of-self : goal.invariant_of-self
invariant_of-self g c =
    let old = inner_of c.args.self.now.inner in
    let new = inner_of c.flush.new.self in
    record {
      sound = flush_kept g.S.Stable g.met.S.Stable.laws old new c.flush.result c.flush.ensures.delivers c.flush.ensures.limit
          c.flush.ensures.memory c.flush.ensures.faults c.args.self.now.inner.membership c.args.self.now.sound;
      few_faults = flush_keeps_few g.S.Stable old new MOST_DELIVERIES c.flush.result c.flush.ensures.delivers c.flush.ensures.limit
          c.flush.ensures.memory c.flush.ensures.faults c.args.self.now.few_faults;
    }

pub returns-clause-safe : goal.returns-clause-safe
returns-clause-safe g c = stays_safe g.S.Stable c.flush.new.self (search rules) (search rules)
