use Rattle.std.proofs.Common.{◌≡◌, inl, inr, true, rules, subst}
use Rattle.tpoint.specs.Moving.{At}
use Rattle.tpoint.specs.Extents.{Shares}
use Rattle.mfjson.specs.declared.feature.Feature.{Feature}
use Rattle.store.proofs.BoundsLemmas.{ever_no, ever_yes}
use Rattle.store.proofs.stored_feature.StoredFeature.ever.Goals as goal

-- it has a value in the period, and none in the rectangle
pub returns-then-is_out : goal.returns-then-is_out
returns-then-is_out c =
    let p = c.args.period.now in
    let there = subst (λ (f : Feature). Shares (At f.seq) p) c.feature.ensures (c.is_there.ensures.0 (search rules)) in
    ever_no c.args.self.now.seq p c.args.area.now there (c.stays_out_of-is_out.ensures (search rules))

-- it has a value in the period, and each is in the rectangle
pub returns-else-is_out : goal.returns-else-is_out
returns-else-is_out c =
    let p = c.args.period.now in
    let there = subst (λ (f : Feature). Shares (At f.seq) p) c.feature.ensures (c.is_there.ensures.0 (search rules)) in
    let inside : c.stays_in-is_in.result ≡ true = elim c.else-not-is_out.either [ inl w ↦ w.1 | inr w ↦ absurd (cc) ] in
    ever_yes c.args.self.now.seq p c.args.area.now there (c.stays_in-is_in.ensures inside)
