use Rattle.std.proofs.Common.{◌≡◌, Some, get_or, sym, ap, ◌∙◌}
use Rattle.timeindex.proofs.PlaceLemmas.{element_of-at, element_of-gap}
use Rattle.store.specs.Features.{feature_id}
use Rattle.store.proofs.db.Db.held.Goals as goal

-- the feature at the place is the one that is found
pub returns-in-Ok : goal.returns-in-Ok
returns-in-Ok c =
    let f = c.index.result.now in
    let there : f ≡ get_or c.args.self.now c.in-Ok.at f =
    c.index.ensures ∙ ap (λ fs. get_or fs c.in-Ok.at f) c.self.view_is in
    ap Some there ∙ sym (element_of-at feature_id c.args.self.now c.args.id.now c.in-Ok.at c.in-Ok.ensures.found f)

-- none has the id
pub returns-in-Err : goal.returns-in-Err
returns-in-Err c = sym (element_of-gap feature_id c.args.self.now c.args.id.now _ c.in-Err.ensures.absent)
