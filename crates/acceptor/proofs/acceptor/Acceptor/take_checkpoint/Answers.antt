use Rattle.std.proofs.Common.{refl, sym, ap, ◌∙◌}
use Rattle.acceptor.specs.AcceptedValues.{vote_held}
use Rattle.acceptor.specs.Loading.{checkpoint_found}
use Rattle.acceptor.specs.State.{accepting_of}
use Rattle.acceptor.proofs.CheckpointLemmas.{begins_same, begins_with_text, machine_of_text, machine_as_before}
use Rattle.acceptor.proofs.FloorLemmas.{RecordsSay-see_checkpoint, raised_to}
use Rattle.acceptor.proofs.RecordLemmas.{RecordsSay-holds}
use Rattle.acceptor.proofs.acceptor.Acceptor.take_checkpoint.Goals as goal

-- the checkpoint is seen, and what it promises raises the promise
pub returns-in-Some-promise-clause-told : goal.returns-in-Some-promise-clause-told
returns-in-Some-promise-clause-told c = λ seen fresh says.
    let a = accepting_of c.args.self.now in
    let checkpoint = checkpoint_found c.in-Some.found in
    let there = RecordsSay-see_checkpoint seen a checkpoint (rw c.in-Some.is at c.requires.fits) fresh says in
    let promise = c.raise.ensures.promise ∙ sym (ap (raised_to a.promise) c.in-Some-promise.is) in
    rw c.in-Some.is (RecordsSay-holds _
    (record a {
      promise = raised_to a.promise checkpoint.promise;
      floor = checkpoint.position;
      sealed = checkpoint.promise;
      text = checkpoint.text;
    })
    (accepting_of c.raise.new.self) promise c.raise.ensures.floor c.raise.ensures.sealed (ap (λ v. v.items) c.raise.ensures.text)
    (λ s. ap (λ votes. vote_held votes s) c.raise.ensures.votes) there)

-- its machine stands for each list that it is of
pub returns-in-Some-promise-clause-machine : goal.returns-in-Some-promise-clause-machine
returns-in-Some-promise-clause-machine c = λ seen fresh begins.
    let found = c.in-Some.found in
    rw c.in-Some.is (begins_with_text _ found.machine (checkpoint_found found) refl (rw c.in-Some.is at c.requires.fits)
    (rw c.in-Some.is at c.requires.stands))

pub returns-in_default-promise-clause-machine : goal.returns-in_default-promise-clause-machine
returns-in_default-promise-clause-machine c = λ seen fresh begins.
    let found = c.in-Some.found in
    rw c.in-Some.is (begins_with_text _ found.machine (checkpoint_found found) refl (rw c.in-Some.is at c.requires.fits)
    (rw c.in-Some.is at c.requires.stands))

-- no record tells nothing
pub returns-in_default-clause-machine : goal.returns-in_default-clause-machine
returns-in_default-clause-machine c = λ seen fresh begins.
    rw c.in_default.is (begins_same seen _ c.args.machine.now (sym fresh) begins)

-- and it is that of the text
pub returns-in-Some-promise-clause-restored : goal.returns-in-Some-promise-clause-restored
returns-in-Some-promise-clause-restored c = λ before.
    machine_as_before _ _ _ (ap (λ v. v.items) c.raise.ensures.text)
    (machine_of_text _ _ (rw c.in-Some.is at c.requires.restored))

pub returns-in_default-promise-clause-restored : goal.returns-in_default-promise-clause-restored
returns-in_default-promise-clause-restored c = λ before. machine_of_text _ _ (rw c.in-Some.is at c.requires.restored)
