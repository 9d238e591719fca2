use Rattle.std.proofs.Common.{rules}
use Rattle.std.proofs.lemmas.List.Sorted.{answers_always}
use Rattle.timeindex.proofs.PlaceLemmas.{searched}
use Rattle.store.specs.Features.{feature_id}
use Rattle.store.proofs.db.Db.place.Goals as goal

-- the closure gives a feature's id, and the slice is the database's features
pub returns : goal.returns
returns c =
    let facts = c.binary_search_by_key.ensures in
    let by_id = facts.position feature_id (answers_always _ _ _ (λ f a r g called. search rules)) in
    rw (← c.self.view_is, ← c.deref.ensures.value)
    (searched feature_id _ (rw c.deref.ensures.value c.self.invariant.database.ascending) c.args.id.now _ facts.bound by_id)
