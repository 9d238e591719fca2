use Rattle.std.proofs.Common.{rules, Some, refl}
use Rattle.stable.specs.Records.{Trims}
use Rattle.acceptor.specs.State.{accepting_of}
use Rattle.acceptor.proofs.FloorLemmas.{untrimmed_is}
use Rattle.acceptor.proofs.acceptor.Acceptor.trim.Goals as goal

-- where no vote stands below the floor, none goes
pub returns-then-not-has_below-clause-state : goal.returns-then-not-has_below-clause-state
returns-then-not-has_below-clause-state g c =
    untrimmed_is (accepting_of c.args.self.now) (λ any. let has = c.has_below.ensures.1 any in search rules)

-- the device failed on the trim
pub returns-in_err-trim_below-clause-device : goal.returns-in_err-trim_below-clause-device
returns-in_err-trim_below-clause-device g c = λ device. (
  Some (Trims c.args.self.now.floor),
  (c.has_below.ensures.0 (search rules), refl),
  c.in_err-trim_below.ensures.device (search rules),
)

-- the trim was written
pub returns-clause-written : goal.returns-clause-written
returns-clause-written g c = (
  Some (Trims c.args.self.now.floor),
  (c.has_below.ensures.0 (search rules), refl),
  c.in_ok-trim_below.ensures.ok,
)
