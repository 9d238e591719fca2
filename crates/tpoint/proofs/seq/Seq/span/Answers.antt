use Rattle.std.proofs.Common.{◌≡◌, ℕ, ◌≤◌, List, length, IfSome, sym, subst, ap, ◌∙◌}
use Rattle.tpoint.specs.Extents.{Span, closed}
use Rattle.tpoint.specs.Moving.{Rises}
use Rattle.tpoint.specs.Spans.{span_of}
use Rattle.tpoint.specs.declared.point.Point.{Point}
use Rattle.tpoint.proofs.SpanLemmas.{ends_in_order, span_read}
use Rattle.tpoint.proofs.seq.Seq.span.Goals as goal

pub unwrap-requires : goal.unwrap-requires
unwrap-requires c =
    let ps = c.points-points.result.now in
    let same = sym c.points-points.ensures.value in
    let rise = subst (λ (qs : List Point). (k : ℕ) → Rises qs k) same c.points-points.ensures.valid.increasing in
    let some = subst (λ (qs : List Point). 1 ≤ length qs) same c.points-points.ensures.valid.not_empty in
    c.new.ensures.valid.1 (ends_in_order ps rise c.index-points-0.result c.index-points-points.result some
    c.index-points-0.is c.index-points-points.is)

pub returns : goal.returns
returns c =
    let ps = c.points-points.result.now in
    let first = c.index-points-0.result in
    let last = c.index-points-points.result in
    let some = subst (λ (qs : List Point). 1 ≤ length qs) (sym c.points-points.ensures.value) c.points-points.ensures.valid.not_empty in
    let made : Span = closed first.t last.t in
    let it : c.unwrap.result ≡ made = subst (λ o. IfSome o (λ p. p ≡ made)) c.unwrap.ensures c.new.ensures.value in
    it ∙ span_read ps first last some c.index-points-0.is c.index-points-points.is ∙ ap span_of c.points-points.ensures.value
