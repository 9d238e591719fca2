use Rattle.std.proofs.Common.{rules}
use Rattle.world.specs.Inner.{inner_of}
use Rattle.world_model.proofs.Progress.FiredLemmas.{round_keeps_few}
use Rattle.world.proofs.WorldSound.{round_kept, round_progress, stays_safe}
use Rattle.world.proofs.world.World.round.Goals as goal

-- the run behind it was left as its contract says
pub invariant_of-self : goal.invariant_of-self
invariant_of-self g c =
    let old = inner_of c.args.self.now.inner in
    let new = inner_of c.round.new.self in
    record {
      sound = round_kept g.S.Stable g.met.S.Stable.laws old new c.args.node c.args.members.now c.round.result c.round.ensures.ends
          c.round.ensures.unchanged c.round.ensures.memory c.round.ensures.faults c.args.self.now.inner.membership c.args.self.now.sound;
      few_faults = round_keeps_few g.S.Stable old new c.args.node c.args.members.now c.round.result c.round.ensures.ends
          c.round.ensures.unchanged c.round.ensures.memory c.round.ensures.faults c.args.self.now.few_faults;
    }

pub returns-clause-safe : goal.returns-clause-safe
returns-clause-safe g c = stays_safe g.S.Stable c.round.new.self (search rules) (search rules)

-- it was sound when the round began
pub returns-clause-progress : goal.returns-clause-progress
returns-clause-progress g c = round_progress g.S.Stable c.args.self.now.inner c.args.node c.args.members.now c.round.result
    (inner_of c.round.new.self) c.args.self.now.few_faults c.args.self.now.sound c.args.self.now.inner.membership c.round.ensures.ends
