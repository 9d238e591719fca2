use Rattle.std.proofs.Common.{rules, arith, ◌<◌, ◌+◌}
use Rattle.std.proofs.lemmas.Result.{err_from_is_err_and}
use Rattle.stable.specs.Memory.{in_memory}
use Rattle.stable.specs.Storages.{scripted}
use Rattle.cluster.specs.ClusterViews.{pumped_of}
use Rattle.cluster.specs.declared.cluster.TheConstants.{MOST_PUMPED}
use Rattle.cluster.proofs.Pumping.{none_passed, one_passed, broken_off, all_passed}
use Rattle.cluster.proofs.cluster.Cluster.passes.Goals as goal

pub loop-idle-init : goal.loop-idle-init
loop-idle-init g c = (
  search (rules, arith),
  search (rules, arith),
  none_passed (scripted in_memory) g.T.Transport (pumped_of c.args.self.now) c.args.self.now.transport,
)

-- a pass breaks off
pub returns-in_err-more : goal.returns-in_err-more
returns-in_err-more g c =
    let exit = err_from_is_err_and c.from_residual.result c.from_residual.ensures.1 in
    rw (exit.1, exit.2) (broken_off (scripted in_memory) g.T.Transport (pumped_of c.args.self.now) (pumped_of c.loop-idle.self)
    (pumped_of c.pass.new.self) c.args.self.now.transport c.loop-idle.self.transport c.pass.new.self.transport c.loop-idle.idle
    c.loop-idle.made c.in_err-more.field-0.0 (search (rules, arith)) c.loop-idle.invariant.2 c.in_err-more.ensures.breaks)

-- one more is made
pub loop-idle-preserved : goal.loop-idle-preserved
loop-idle-preserved g c =
    let few = c.in_ok-more.ensures.passes.0 in
    let made = c.loop-idle.invariant.0 in
    let less : c.loop-idle.made + c.in_ok-more.more < MOST_PUMPED = search (rules, arith, few, made) in (
      less,
      search (rules, arith),
      one_passed (scripted in_memory) g.T.Transport (pumped_of c.args.self.now) (pumped_of c.loop-idle.self)
          (pumped_of c.pass.new.self) c.args.self.now.transport c.loop-idle.self.transport c.pass.new.self.transport c.loop-idle.idle
          c.loop-idle.made c.idle_after-idle.result c.in_ok-more.more (search (rules, arith)) less c.idle_after-idle.ensures.still
          c.idle_after-idle.ensures.reset c.loop-idle.invariant.2 c.in_ok-more.ensures.passes.1,
    )

-- enough were idle
pub returns : goal.returns
returns g c =
    all_passed (scripted in_memory) g.T.Transport (pumped_of c.args.self.now) (pumped_of c.loop-idle.self) c.args.self.now.transport
    c.loop-idle.self.transport c.loop-idle.idle c.loop-idle.made (search (rules, arith)) c.loop-idle.invariant.2
