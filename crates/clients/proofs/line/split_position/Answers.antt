use Rattle.std.proofs.Common.{ℕ, ◌+◌, List, subst}
use Rattle.std.proofs.lemmas.List.{take_rest}
use Rattle.schedule.specs.Numbers.{WritesNumber}
use Rattle.clients.proofs.PositionLemmas.{found, none_without_blank, none_without_from, none_without_number}
use Rattle.clients.proofs.line.split_position.Goals as goal

pub returns-in_err-blank : goal.returns-in_err-blank
returns-in_err-blank c = rw c.from_residual.ensures (none_without_blank c.args.rest.now c.in_err-blank.ensures)

pub returns-in_err-front : goal.returns-in_err-front
returns-in_err-front c =
    rw c.from_residual-in_err-front.ensures
    (none_without_from c.args.rest.now c.in_ok-blank.blank c.in_ok-blank.ensures c.in_err-front.ensures)

pub returns-in_err-position : goal.returns-in_err-position
returns-in_err-position c =
    rw c.from_residual-in_err-position.ensures
    (none_without_number c.args.rest.now c.in_ok-blank.blank c.in_ok-blank.ensures
    (subst (λ (word : List ℕ). (value : ℕ) → ¬ (WritesNumber 0 65537 word value))
    (take_rest c.args.rest.now (c.in_ok-blank.blank + 1)) c.in_err-position.ensures))

pub returns : goal.returns
returns c =
    found c.args.rest.now c.in_ok-front.front.now c.in_ok-blank.blank c.in_ok-position.position
    c.in_ok-blank.ensures c.in_ok-front.ensures
    (subst (λ (word : List ℕ). WritesNumber 0 65537 word c.in_ok-position.position)
    (take_rest c.args.rest.now (c.in_ok-blank.blank + 1)) c.in_ok-position.ensures)
