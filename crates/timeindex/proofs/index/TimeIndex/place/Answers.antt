use Rattle.std.proofs.Common.{rules}
use Rattle.std.proofs.lemmas.List.Sorted.{answers_always}
use Rattle.timeindex.proofs.PlaceLemmas.{searched}
use Rattle.timeindex.specs.Entries.{id_of}
use Rattle.timeindex.proofs.index.TimeIndex.place.Goals as goal

-- the closure gives an entry's id, and the slice is the set's entries
pub returns-clause-found : goal.returns-clause-found
returns-clause-found c =
    let facts = c.binary_search_by_key.ensures in
    let by_id = facts.position (λ e. e.id) (answers_always _ _ _ (λ f a r g called. search rules)) in
    rw (← c.self.view_is, ← c.deref.ensures.value)
    (searched id_of _ (rw c.deref.ensures.value c.self.invariant.ascending) c.args.id.now _ facts.bound by_id).found

pub returns-clause-absent : goal.returns-clause-absent
returns-clause-absent c =
    let facts = c.binary_search_by_key.ensures in
    let by_id = facts.position (λ e. e.id) (answers_always _ _ _ (λ f a r g called. search rules)) in
    rw (← c.self.view_is, ← c.deref.ensures.value)
    (searched id_of _ (rw c.deref.ensures.value c.self.invariant.ascending) c.args.id.now _ facts.bound by_id).absent
