use Rattle.std.proofs.Common.{◌≡◌, ◌∙◌, sym, subst}
use Rattle.std.specs.List.{insert}
use Rattle.timeindex.specs.Entries.{Entry, IsSet, id_of, with_entry}
use Rattle.timeindex.proofs.EditLemmas.{insert-gap, with_entry_set}
use Rattle.timeindex.proofs.index.TimeIndex.insert_at.Goals as goal

pub returns-clause-value : goal.returns-clause-value
returns-clause-value c =
    let e : Entry = record { id = c.args.id; first = c.args.first; last = c.args.last } in
    c.in_ok-insert.ensures.items ∙ (λ j. insert (c.self.view_is j) c.args.place (c.in_ok-entry.ensures j))
    ∙ insert-gap id_of c.args.self.now e c.args.place c.requires

pub returns-clause-set : goal.returns-clause-set
returns-clause-set c =
    let e : Entry = record { id = c.args.id; first = c.args.first; last = c.args.last } in
    let grown : c.insert.new.self.items ≡ with_entry c.args.self.now e =
    c.in_ok-insert.ensures.items ∙ (λ j. insert (c.self.view_is j) c.args.place (c.in_ok-entry.ensures j))
    ∙ insert-gap id_of c.args.self.now e c.args.place c.requires in
    subst IsSet (sym grown) (with_entry_set c.args.self.now e (subst IsSet c.self.view_is c.self.invariant))

pub invariant_of-self-2 : goal.invariant_of-self-2
invariant_of-self-2 c =
    let e : Entry = record { id = c.args.id; first = c.args.first; last = c.args.last } in
    let grown : c.insert.new.self.items ≡ with_entry c.args.self.now e =
    c.in_ok-insert.ensures.items ∙ (λ j. insert (c.self.view_is j) c.args.place (c.in_ok-entry.ensures j))
    ∙ insert-gap id_of c.args.self.now e c.args.place c.requires in
    subst IsSet (sym grown) (with_entry_set c.args.self.now e (subst IsSet c.self.view_is c.self.invariant))
