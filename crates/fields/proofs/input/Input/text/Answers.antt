use Rattle.std.proofs.Common.{rules, ◌≡◌, ◌-◌, length, take, drop, arith}
use Rattle.std.proofs.lemmas.List.{take_all, length-drop}
use Rattle.tpoint.specs.Ids.{IsId}
use Rattle.fields.proofs.IdLemmas.{id_is_there, no_id_is_there}
use Rattle.fields.proofs.input.Input.text.Goals as goal

pub returns-in_default-clause-read : goal.returns-in_default-clause-read
returns-in_default-clause-read c =
    let rest = c.self.inside.rest.now in
    let none : ¬ IsId (take c.args.len rest) = λ is. let some = c.new.ensures.valid.1 is in search rules in
    rw (← c.self.view_is) (no_id_is_there c.args.len rest c.requires.some c.requires.few (omega (arith, c.if-self-len.false)) none)

pub returns-clause-read : goal.returns-clause-read
returns-clause-read c =
    let rest = c.self.inside.rest.now in
    let valid : IsId (take c.args.len rest) = c.new.ensures.valid.0 (search rules) in
    let id : c.in-Some.id ≡ take c.args.len rest = search rules in
    let left : take (length rest - c.args.len) (drop c.args.len rest) ≡ drop c.args.len rest =
    take_all (length rest - c.args.len) (drop c.args.len rest) (omega (arith, length-drop c.args.len rest)) in
    rw (← c.self.view_is, id, left) (id_is_there c.args.len rest (omega (arith, c.if-self-len.false)) valid)
