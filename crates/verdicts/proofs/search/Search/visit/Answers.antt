use Rattle.std.proofs.Common.{length}
use Rattle.verdicts.proofs.SearchLemmas.{entering_still}
use Rattle.verdicts.proofs.TryingLemmas.{contradicted_fails, next_extended, tried_extended, tried_now}
use Rattle.verdicts.specs.Verdicts.{are_open}
use Rattle.verdicts.proofs.search.Search.visit.Goals as goal

pub returns-in-Contradicted-clause-leaving : goal.returns-in-Contradicted-clause-leaving
returns-in-Contradicted-clause-leaving c = λ e.
    let entering = entering_still c.args.requests.now c.args.names.now c.args.questions.now c.args.told.now c.args.self.now c.extend.new.commands
    c.in_ok-choice.ensures.extended c.in_ok-choice.ensures.learnt c.requires.entering in
    let found = rw c.deref.ensures.value at c.in_ok-found.ensures in
    c.leave.ensures.leaving c.args.requests.now c.args.names.now c.args.questions.now c.args.told.now entering (rw c.in-Contradicted.is at found)

pub returns-in_ok-choose-in-Undecided-clause-leaving : goal.returns-in_ok-choose-in-Undecided-clause-leaving
returns-in_ok-choose-in-Undecided-clause-leaving c = λ e.
    let entering = entering_still c.args.requests.now c.args.names.now c.args.questions.now c.args.told.now c.args.self.now c.extend.new.commands
    c.in_ok-choice.ensures.extended c.in_ok-choice.ensures.learnt c.requires.entering in
    let found = rw c.deref.ensures.value at c.in_ok-found.ensures in
    c.in_ok-choose-in-Undecided.ensures.leaving c.args.names.now c.args.questions.now c.args.told.now entering c.in_ok-choice.ensures.stops
    (rw c.in-Undecided.is at found)

pub returns-in-Contradicted-clause-tried : goal.returns-in-Contradicted-clause-tried
returns-in-Contradicted-clause-tried c = λ e count next.
    let found = rw c.in-Contradicted.is at (rw c.deref.ensures.value at c.in_ok-found.ensures) in
    rw (c.leave.ensures.commands, c.leave.ensures.untried)
    (tried_now c.args.requests.now c.args.names.now c.args.questions.now c.args.told.now c.extend.new.commands.items
    c.args.self.now.untried.items count
    (next_extended c.args.requests.now c.args.names.now c.args.questions.now c.args.told.now c.args.self.now c.extend.new.commands count
    c.in_ok-choice.ensures.extended c.requires.entering c.in_ok-choice.ensures.learnt next)
    (tried_extended c.args.requests.now c.args.names.now c.args.questions.now c.args.told.now c.args.self.now c.extend.new.commands count
    c.in_ok-choice.ensures.extended c.requires.entering c.in_ok-choice.ensures.learnt next c.in_ok-choice.choice
    c.in_ok-choice.ensures.stops
    (contradicted_fails c.args.requests.now c.args.names.now c.args.questions.now c.args.told.now (length c.args.names.now)
    c.extend.new.commands.items c.args.self.now.latest c.in-Contradicted.contradiction found)))

pub returns-in_ok-choose-in-Undecided-clause-tried : goal.returns-in_ok-choose-in-Undecided-clause-tried
returns-in_ok-choose-in-Undecided-clause-tried c = λ e count next.
    let opened = rw c.in-Undecided.is at (rw c.deref.ensures.value at c.in_ok-found.ensures) in
    c.in_ok-choose-in-Undecided.ensures.tried c.args.names.now c.args.questions.now c.args.told.now count
    (next_extended c.args.requests.now c.args.names.now c.args.questions.now c.args.told.now c.args.self.now c.extend.new.commands count
    c.in_ok-choice.ensures.extended c.requires.entering c.in_ok-choice.ensures.learnt next)
    (tried_extended c.args.requests.now c.args.names.now c.args.questions.now c.args.told.now c.args.self.now c.extend.new.commands count
    c.in_ok-choice.ensures.extended c.requires.entering c.in_ok-choice.ensures.learnt next c.in_ok-choice.choice
    c.in_ok-choice.ensures.stops (are_open opened))
    opened
