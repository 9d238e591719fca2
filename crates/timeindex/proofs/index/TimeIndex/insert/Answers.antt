use Rattle.std.proofs.Common.{◌≡◌, ◌∙◌, rules, set}
use Rattle.timeindex.specs.Entries.{Entry, id_of}
use Rattle.timeindex.proofs.PlaceLemmas.{element_of-gap}
use Rattle.timeindex.proofs.EditLemmas.{set-at}
use Rattle.timeindex.proofs.index.TimeIndex.insert.Goals as goal

-- the id is unknown, and its entry goes into the gap
pub returns-in_err-insert_at-in-Err-clause-known : goal.returns-in_err-insert_at-in-Err-clause-known
returns-in_err-insert_at-in-Err-clause-known c =
    let none = element_of-gap id_of _ _ _ c.in-Err.ensures.absent in
    λ known. absurd (search rules)

-- the id is known, and its entry is written over
pub returns-in-Ok-clause-value : goal.returns-in-Ok-clause-value
returns-in-Ok-clause-value c =
    let e : Entry = record { id = c.args.id; first = c.args.first; last = c.args.last } in
    let id_there : c.index_mut.result.now.id ≡ c.args.id =
    cc (c.index_mut.ensures.value, c.self.view_is, c.in-Ok.ensures.found.has_id c.index_mut.result.now) in
    let same : c.replace.new.self ≡ e =
    c.replace.ensures ∙ (λ j. record { id = id_there j; first = c.args.first; last = c.args.last }) in
    (λ j. set (c.self.view_is j) c.in-Ok.at (same j)) ∙ set-at id_of c.args.self.now e c.in-Ok.at c.in-Ok.ensures.found
