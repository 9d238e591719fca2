use Rattle.std.proofs.lemmas.Grind.{common_steps}
use Rattle.std.proofs.Common.{◌≡◌, ◌+◌, ℕ, List, rules, true, sym, subst, take, get_or, arith}
use Rattle.predicates.specs.Predicates.{IsEver}
use Rattle.predicates.specs.declared.questions.Tri.TheVariants.{Yes}
use Rattle.mfjson.specs.declared.feature.Feature.{Feature}
use Rattle.store.specs.Answers.{AreIdsOf}
use Rattle.store.specs.Indexed.{entry_of}
use Rattle.store.proofs.IdLemmas.{are_ids_more, are_ids_skip}
use Rattle.store.proofs.IndexLemmas.{entry_there, not_there}
use Rattle.store.proofs.answers.ids_within.Goals as goal

-- what is held at a place is the feature there
here : (fs : List Feature) (i : ℕ) (f held : Feature) → f ≡ held → held ≡ get_or fs i held → f ≡ get_or fs i f
here fs i f held e is = subst (λ (g : Feature). g ≡ get_or fs i g) (sym e) is

-- the index tells that this feature isn't there in the period
pub loop-place-preserved-then-not-overlaps : goal.loop-place-preserved-then-not-overlaps
loop-place-preserved-then-not-overlaps c =
    let l = c.loop-place in
    let f = c.feature-feature.result.now in
    let fs = c.args.features.now in
    let is = here fs l.place f c.index-features-place.result c.feature-feature.ensures c.index-features-place.is in
    let there = entry_there fs c.args.index.now l.place f c.requires.indexed (omega arith) is in
    let told = c.overlaps.ensures (entry_of f) there in
    are_ids_skip (λ f. IsEver f.seq c.args.period.now c.args.area.now Yes) fs l.place f _ (omega arith) is l.invariant
    (not_there f c.args.period.now c.args.area.now c.values_lie_in_its_span.ensures (search rules))

-- it is never there in the rectangle
pub loop-place-preserved-then-not-is_within : goal.loop-place-preserved-then-not-is_within
loop-place-preserved-then-not-is_within c =
    let is = here c.args.features.now c.loop-place.place _ c.index-features-place.result c.feature-feature.ensures
    c.index-features-place.is in
    are_ids_skip (λ f. IsEver f.seq c.args.period.now c.args.area.now Yes) c.args.features.now c.loop-place.place
    c.feature-feature.result.now _ (omega arith) is c.loop-place.invariant
    (λ holds.
    let held = subst (λ (f : Feature). IsEver f.seq c.args.period.now c.args.area.now Yes) c.feature-feature.ensures holds in
    let within : c.is_within.result ≡ true = c.is_within.ensures.1 held in absurd (search rules))

-- its id is added
pub loop-place-preserved : goal.loop-place-preserved
loop-place-preserved c =
    let l = c.loop-place in
    let f = c.feature-feature.result.now in
    let fs = c.args.features.now in
    let is = here fs l.place f c.index-features-place.result c.feature-feature.ensures c.index-features-place.is in
    let holds : IsEver f.seq c.args.period.now c.args.area.now Yes =
    subst (λ (g : Feature). IsEver g.seq c.args.period.now c.args.area.now Yes) (sym c.feature-feature.ensures)
    (c.is_within.ensures.0 (search rules)) in
    subst (AreIdsOf (λ f. IsEver f.seq c.args.period.now c.args.area.now Yes) (take (l.place + 1) fs)) (sym c.in_ok-push.ensures.items)
    (are_ids_more (λ f. IsEver f.seq c.args.period.now c.args.area.now Yes) fs l.place f _
    (omega arith) is l.invariant holds)

pub returns : goal.returns
returns c = grind (arith, common_steps)

pub overlaps-requires : goal.overlaps-requires
overlaps-requires c = grind (arith, common_steps)
