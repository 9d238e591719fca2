use Rattle.std.proofs.Common.{subst, sym, arith}
use Rattle.std.proofs.lemmas.Grind.{common_steps}
use Rattle.stable.specs.Storages.{scripted}
use Rattle.world_model.specs.Rounds.{IsPartOfRound, untold}
use Rattle.world.specs.Inner.{inner_of}
use Rattle.world.proofs.inner.Inner.round.Goals as goal

-- the round is over, and its end is not told
pub returns-in_err-tell_end-clause-memory : goal.returns-in_err-tell_end-clause-memory
returns-in_err-tell_end-clause-memory g c = λ _.
    subst (λ w. IsPartOfRound (scripted g.S.Stable) (inner_of c.args.self.now) c.args.node c.args.members.now w)
    (sym c.in_err-tell_end.ensures.err) (untold c.in_ok-end.end c.in_ok-end.ensures.ends)

pub returns-clause-no_node : goal.returns-clause-no_node
returns-clause-no_node g c = grind (arith, common_steps)

pub returns-in_err-end-clause-no_node : goal.returns-in_err-end-clause-no_node
returns-in_err-end-clause-no_node g c = grind (arith, common_steps)

pub returns-in_err-find-clause-no_node : goal.returns-in_err-find-clause-no_node
returns-in_err-find-clause-no_node g c = grind (arith, common_steps)

pub returns-in_err-find_all-clause-no_node : goal.returns-in_err-find_all-clause-no_node
returns-in_err-find_all-clause-no_node g c = grind (arith, common_steps)

pub returns-in_err-tell_end-clause-no_node : goal.returns-in_err-tell_end-clause-no_node
returns-in_err-tell_end-clause-no_node g c = grind (arith, common_steps)
