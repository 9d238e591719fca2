use Rattle.std.proofs.Common.{◌≡◌, ◌≤◌, ◌↔◌, true, subst}
use Rattle.tpoint.specs.Extents.{Span, first_whole, last_whole}
use Rattle.store.proofs.GaplessLemmas.{there}
use Rattle.store.proofs.stored_feature.is_between_ends_in.Goals as goal

pub returns : goal.returns
returns c =
    let p = c.args.period.now in
    let lasts = there c.args.seq.now p c.points-points.ensures.valid c.values_lie_in_its_span.ensures c.requires c.overlap.ensures.has_instant in
    let same = subst (λ (q : Span). (c.overlap.result ≡ true) ↔ ((first_whole p ≤ q.end) × (q.begin ≤ last_whole p))) c.span.ensures
    c.overlap.ensures.overlap in
    (λ told. lasts.0 (same.0 told), λ shared. same.1 (lasts.1 shared))
