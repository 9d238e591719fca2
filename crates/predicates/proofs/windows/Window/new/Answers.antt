use Rattle.std.proofs.Common.{◌≡◌, ◌&&◌, ◌∙◌}
use Rattle.tpoint.specs.Extents.{Before}
use Rattle.predicates.specs.Bounds.{parameter}
use Rattle.predicates.proofs.BoundLemmas.{ends_in_order}
use Rattle.predicates.proofs.Tests.{told_no}
use Rattle.predicates.proofs.windows.Window.new.Goals as goal
use Rattle.predicates.proofs.windows.Window.new.Goals.{then-low, else-low}

pub returns-else-is_before : goal.returns-else-is_before
returns-else-is_before c =
    λ u h.
    let low = c.args.low in
    let high = c.args.high in
    let both : c.if-low.is_before ≡ (low.counts && high.counts) =
    elim c.if-low.branch [
      | then-low w ↦ rw w.if-low.true w.is_before-is
      | else-low w ↦ rw w.if-low.false (w.is_before-is ∙ w.if-low.false)
    ] in
    let in_order : Before c.if-low.is_before (parameter low) (parameter high) =
    rw both (ends_in_order low.counts high.counts _ _ u h.0 h.1) in
    told_no c.if-is_before.false c.is_before.ensures.1 in_order
