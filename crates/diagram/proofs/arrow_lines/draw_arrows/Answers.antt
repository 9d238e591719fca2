use Rattle.std.proofs.Common.{List, subst, sym}
use Rattle.std.proofs.lemmas.Result.{on_ok_weaker}
use Rattle.diagram.specs.Arrows.{AreArrows}
use Rattle.diagram.specs.Pictures.{IsWhole}
use Rattle.diagram.specs.declared.arrows.Arrow.{Arrow}
use Rattle.diagram.proofs.DrawnLemmas.{all_there}
use Rattle.diagram.proofs.arrow_lines.draw_arrows.Goals as goal

-- the arrows of the window are those of its frames
pub returns : goal.returns
returns c =
    let s = c.args.scene.now in
    let are = subst (λ (xs : List Arrow). AreArrows s.frames.now s.waiting.now s.passages.now c.args.window.first c.args.window.end xs)
    (sym c.as_slice.ensures.value) c.in_ok-arrows.ensures in
    on_ok_weaker c.draw_all.result (λ drawn (_ : IsWhole s). record {
      arrows = c.as_slice.result.now;
      are = are;
      drawn = drawn (all_there s c.args.window.first c.args.window.end c.as_slice.result.now are);
    }) c.draw_all.ensures
