use Rattle.world.proofs.WorldSound.{stays_safe}
use Rattle.world.proofs.world.World.outcomes.Goals as goal

pub returns-clause-safe : goal.returns-clause-safe
returns-clause-safe g c = stays_safe g.S.Stable c.args.self.now.inner c.args.self.now.few_faults c.args.self.now.sound
