use Rattle.std.proofs.Common.{rules}
use Rattle.world.specs.Inner.{inner_of}
use Rattle.world_model.proofs.Progress.FiredLemmas.{step_keeps_few}
use Rattle.world.proofs.WorldSound.{step_kept, stays_safe}
use Rattle.world.proofs.world.World.step.Goals as goal

-- the run behind it was left as its contract says
pub invariant_of-self : goal.invariant_of-self
invariant_of-self g c =
    let old = inner_of c.args.self.now.inner in
    let new = inner_of c.step.new.self in
    record {
      sound = step_kept g.S.Stable g.met.S.Stable.laws old new c.args.event c.step.result c.step.ensures.steps c.step.ensures.err
          c.args.self.now.inner.membership c.args.self.now.sound;
      few_faults = step_keeps_few g.S.Stable old new c.args.event c.step.result c.step.ensures.steps c.step.ensures.err
          c.args.self.now.few_faults;
    }

pub returns-clause-safe : goal.returns-clause-safe
returns-clause-safe g c = stays_safe g.S.Stable c.step.new.self (search rules) (search rules)
