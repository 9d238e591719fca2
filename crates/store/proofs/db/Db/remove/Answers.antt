use Rattle.std.proofs.Common.{sym, subst, ◌∙◌, arith}
use Rattle.std.proofs.lemmas.Grind.{common_steps}
use Rattle.store.proofs.EffectLemmas.{remove_known-reply, remove_known-write, remove_unknown-reply, remove_unknown-effect}
use Rattle.store.specs.Places.{FeatureIsAt}
use Rattle.store.proofs.KeptLemmas.{removed_kept}
use Rattle.store.proofs.db.Db.remove.Goals as goal

-- the id is unknown
pub returns-in_default-clause-reply : goal.returns-in_default-clause-reply
returns-in_default-clause-reply c = sym (remove_unknown-reply c.args.self.now _ _ c.in_default.ensures.absent)

pub returns-in_default-clause-effect : goal.returns-in_default-clause-effect
returns-in_default-clause-effect c = sym (remove_unknown-effect c.args.self.now _ _ c.in_default.ensures.absent)

-- the id is known, and its feature is taken out
pub returns-clause-reply : goal.returns-clause-reply
returns-clause-reply c = sym (remove_known-reply c.args.self.now _ _ c.in-Ok.ensures.found c.remove.result)

pub returns-clause-effect : goal.returns-clause-effect
returns-clause-effect c =
    c.remove.ensures.items
    ∙ remove_known-write c.args.self.now _ _ c.in-Ok.ensures.found c.remove.result _ c.self.view_is

pub invariant_of-self : goal.invariant_of-self
invariant_of-self c =
    let at = subst (λ fs. FeatureIsAt fs c.args.id.now c.in-Ok.at) (sym c.self.view_is) c.in-Ok.ensures.found in
    removed_kept c.self.inside.features.items c.remove.new.self.items c.self.inside.index c.remove_at.new.self c.args.id.now c.in-Ok.at
    c.self.invariant at c.remove.ensures.items c.remove_at.ensures.value

pub remove_at-requires : goal.remove_at-requires
remove_at-requires c = grind (arith, common_steps)
