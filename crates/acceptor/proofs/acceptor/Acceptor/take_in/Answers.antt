use Rattle.std.proofs.Common.{rules, refl, ap, arith}
use Rattle.stable.specs.declared.key.Key.TheVariants as key
use Rattle.acceptor.proofs.CheckpointLemmas.{begins_same, machine_as_before}
use Rattle.acceptor.proofs.RecordLemmas.{RecordsSay-see_round, elsewhere}
use Rattle.acceptor.proofs.acceptor.Acceptor.take_in.Goals as goal

-- a way out is answered whole: its clauses are found together
pub returns-in_err-found-in-Promise : goal.returns-in_err-found-in-Promise
returns-in_err-found-in-Promise g c = search rules

pub returns-in_err-found-in-Vote : goal.returns-in_err-found-in-Vote
returns-in_err-found-in-Vote g c = search rules

pub returns-in_err-take_vote-in-Vote : goal.returns-in_err-take_vote-in-Vote
returns-in_err-take_vote-in-Vote g c = search rules

-- the promise is taken in, and tells nothing of a machine
pub returns-in_ok-found-in-Promise-clause-told : goal.returns-in_ok-found-in-Promise-clause-told
returns-in_ok-found-in-Promise-clause-told g c = λ honest seen fresh says.
    rw (c.in-Promise.is, c.in_ok-found-in-Promise.ensures.told honest)
    (c.take_promise.ensures.told seen (rw c.in-Promise.is at fresh) says)

pub returns-in_ok-found-in-Promise-clause-machine : goal.returns-in_ok-found-in-Promise-clause-machine
returns-in_ok-found-in-Promise-clause-machine g c = λ honest seen fresh begins.
    rw c.in-Promise.is (begins_same seen _ c.args.machine.now refl begins)

pub returns-in_ok-found-in-Promise-clause-restored : goal.returns-in_ok-found-in-Promise-clause-restored
returns-in_ok-found-in-Promise-clause-restored g c = machine_as_before _ _ _ (ap (λ v. v.items) c.take_promise.ensures.text)

-- nor does the round
pub returns-in-Round-clause-told : goal.returns-in-Round-clause-told
returns-in-Round-clause-told g c = λ honest seen fresh says.
    rw c.in-Round.is (RecordsSay-see_round seen _ _ says)

pub returns-in-Round-clause-machine : goal.returns-in-Round-clause-machine
returns-in-Round-clause-machine g c = λ honest seen fresh begins.
    rw c.in-Round.is (begins_same seen _ c.args.machine.now refl begins)

-- nor does a vote, which is taken in
pub returns-in_ok-take_vote-in-Vote-clause-told : goal.returns-in_ok-take_vote-in-Vote-clause-told
returns-in_ok-take_vote-in-Vote-clause-told g c = λ honest seen fresh says.
    rw (c.in-Vote.is, c.in_ok-found-in-Vote.ensures.told honest)
    (c.in_ok-take_vote-in-Vote.ensures.told seen (rw c.in-Vote.is at fresh) says)

pub returns-in_ok-take_vote-in-Vote-clause-machine : goal.returns-in_ok-take_vote-in-Vote-clause-machine
returns-in_ok-take_vote-in-Vote-clause-machine g c = λ honest seen fresh begins.
    rw c.in-Vote.is (begins_same seen _ c.args.machine.now
    (elsewhere seen (key.Vote c.in-Vote.slot) key.Checkpoint _ (λ e. absurd (omega arith))) begins)

pub returns-in_ok-take_vote-in-Vote-clause-restored : goal.returns-in_ok-take_vote-in-Vote-clause-restored
returns-in_ok-take_vote-in-Vote-clause-restored g c = machine_as_before _ _ _ (ap (λ v. v.items) c.in_ok-take_vote-in-Vote.ensures.text)
