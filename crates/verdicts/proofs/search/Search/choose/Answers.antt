use Rattle.std.proofs.Common.{◌≡◌, length, rules}
use Rattle.verdicts.proofs.SearchLemmas.{leaving_unlearnt, leaving_choices}
use Rattle.verdicts.proofs.TryingLemmas.{tried_before, tried_now}
use Rattle.verdicts.proofs.search.Search.choose.Goals as goal

pub returns-in-None-clause-leaving : goal.returns-in-None-clause-leaving
returns-in-None-clause-leaving c = λ names questions told entering stop opened.
    let same : c.len-slot.result ≡ length c.args.self.now.commands.items = search rules in
    let free = rw c.in-None.is at stop in
    rw same (leaving_unlearnt c.args.requests.now names questions told c.args.self.now entering (free opened.below) opened)

pub returns-in_ok-add_branches-in-Some-clause-leaving : goal.returns-in_ok-add_branches-in-Some-clause-leaving
returns-in_ok-add_branches-in-Some-clause-leaving c = λ names questions told entering stop opened.
    let same : c.len-slot.result ≡ length c.args.self.now.commands.items = search rules in
    let several = rw c.in-Some.is at stop in
    let added = rw (c.deref-in-Some.ensures.value, same) at c.in_ok-add_branches-in-Some.ensures in
    leaving_choices c.args.requests.now names questions told c.args.self.now c.in-Some.key.0 c.in-Some.key.1
    c.in_ok-places-in-Some.places.items c.add_branches.new.branches entering several.0 several.1 c.in_ok-places-in-Some.ensures.operations added

pub returns-in-None-clause-tried : goal.returns-in-None-clause-tried
returns-in-None-clause-tried c = λ names questions told count next tried opened.
    tried_now c.args.requests.now names questions told c.args.self.now.commands.items c.args.self.now.untried.items count next tried

pub returns-in_ok-add_branches-in-Some-clause-tried : goal.returns-in_ok-add_branches-in-Some-clause-tried
returns-in_ok-add_branches-in-Some-clause-tried c = λ names questions told count next tried opened.
    let same : c.len-slot.result ≡ length c.args.self.now.commands.items = search rules in
    let added = rw (c.deref-in-Some.ensures.value, same) at c.in_ok-add_branches-in-Some.ensures in
    tried_before c.args.requests.now names questions told c.args.self.now.commands.items c.args.self.now.untried.items count next tried
    c.in_ok-places-in-Some.places.items c.add_branches.new.branches.items c.in_ok-places-in-Some.ensures.unlike added opened
