use Rattle.stable.specs.Storages.{scripted}
use Rattle.world_model.specs.Flushing.{Delivers}
use Rattle.world.specs.Inner.{inner_of}
use Rattle.world.proofs.inner.Inner.flush.Given as goal

abbrev pub invariant-loop-delivered : goal.invariant-loop-delivered
invariant-loop-delivered g l = Delivers (scripted g.S.Stable) (inner_of l.initial.self) l.delivered (inner_of l.self)
