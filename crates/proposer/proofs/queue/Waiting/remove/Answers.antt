use Rattle.std.proofs.Common.{◌≡◌, ◌∙◌, is_some, sym, ap, arith}
use Rattle.std.specs.Map.{lookup, remove_entry}
use Rattle.proposer.specs.declared.name.Name.{Name}
use Rattle.proposer.specs.Requests.{AreNamed}
use Rattle.proposer.proofs.RequestLemmas.{is_named, found_by_name, removed_by_name, named_without}
use Rattle.proposer.proofs.queue.Waiting.remove.Goals as goal
use Rattle.proposer.proofs.queue.Waiting.remove.Goals.{After-shift_remove}

-- what is left is what stands under other names
left : (c : After-shift_remove)
    → c.shift_remove.new.self.entries ≡ remove_entry (is_named c.args.client c.args.number) c.self.inside.requests.entries
left c =
    c.shift_remove.ensures.entries
    ∙ ap (λ (n : Name). remove_entry (is_named n.client n.number) c.self.inside.requests.entries) c.new.ensures

still_named : (c : After-shift_remove) → AreNamed c.shift_remove.new.self.entries
still_named c = rw (left c) (named_without c.args.client c.args.number c.self.inside.requests.entries c.self.invariant.0)

-- the names stay, and no more wait
pub invariant_of-self : goal.invariant_of-self
invariant_of-self c =
    (still_named (goal.at.invariant_of-self c).After-shift_remove, omega (arith, c.shift_remove.ensures.len, c.self.invariant.1))

pub returns-clause-waited : goal.returns-clause-waited
returns-clause-waited c =
    let es = c.self.inside.requests.entries in
    rw (← c.self.view_is) (c.is_some.ensures ∙ ap is_some c.shift_remove.ensures.value
    ∙ ap (λ (n : Name). is_some (lookup (is_named n.client n.number) es)) c.new.ensures
    ∙ found_by_name c.args.client c.args.number es c.self.invariant.0)

pub returns-clause-rest : goal.returns-clause-rest
returns-clause-rest c =
    rw (← c.self.view_is) (rw (left (goal.at.returns-clause-rest c).After-shift_remove)
    (removed_by_name c.args.client c.args.number c.self.inside.requests.entries c.self.invariant.0))

pub returns-clause-gone : goal.returns-clause-gone
returns-clause-gone c =
    let es = c.shift_remove.new.self.entries in
    sym (found_by_name c.args.client c.args.number es (still_named (goal.at.returns-clause-gone c).After-shift_remove))
    ∙ sym (ap (λ (n : Name). is_some (lookup (is_named n.client n.number) es)) c.new.ensures)
    ∙ ap is_some c.shift_remove.ensures.updates.1
