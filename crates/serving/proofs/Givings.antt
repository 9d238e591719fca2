-- A node that took its input, or refused it and is still up, was given it, and its life holds what it told.
use Rattle.std.proofs.Common.{◌≡◌, Option, Some, None, Result, Ok, Err, subst}
use Rattle.stable.specs.declared.stable.Stable.{Ghosts}
use Rattle.node_model.specs.declared.fault.NodeFault.{NodeFault}
use Rattle.node_model.specs.declared.input.Input.{Input}
use Rattle.world_model.specs.Lives.{Took}
use Rattle.life.specs.Lives.{Does, LifeState}
use Rattle.life.specs.declared.fault.LifeFault.{LifeFault}
use Rattle.life.specs.declared.fault.LifeFault.TheVariants.{Memory, Node}
use Rattle.serving.specs.Refusals.{IsRefusal, IsRefused}
use Rattle.serving.specs.Staying.{WasGiven}

module _ {S : Type 0} (storages : Ghosts S) where
  pub was_given : (old new : LifeState S) (given : Input) (result : Result (Unit {0}) LifeFault) (refused : Option NodeFault)
      → Does storages old (Took given) result new → IsRefusal result (Ok refused) → WasGiven storages old given new
  was_given old new given (Ok done) refused does refusal =
      record { result = Ok does.0; takes = does.1; goes_on = λ fault is. absurd (cc) }
  was_given old new given (Err (Node fault)) (Some other) does refusal = record {
    result = Err fault;
    takes = does;
    goes_on = λ f is. let same : other ≡ f = cc in subst IsRefused same refusal.1;
  }
  was_given old new given (Err (Node fault)) None does refusal = absurd (cc)
  was_given old new given (Err Memory) (Some other) does refusal = absurd (cc)
  was_given old new given (Err Memory) None does refusal = absurd (cc)
