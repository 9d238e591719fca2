use Rattle.std.proofs.Common.{◌++◌, List, ℕ, codes, refl}
use Rattle.std.proofs.lemmas.Result.{on_ok_weaker}
use Rattle.diagram.specs.Drawn.{group}
use Rattle.diagram.specs.Strokes.{stroke_text}
use Rattle.diagram.specs.Titles.{title_text}
use Rattle.diagram.proofs.Drawings.{behind, grouped}
use Rattle.diagram.proofs.arrow_lines.draw_frame.Goals as goal

pub returns : goal.returns
returns c =
    let old = c.args.picture.now in
    let title : List ℕ = title_text c.args.arrow.now c.args.facts.now in
    let stroke : List ℕ = stroke_text c.args.nodes c.args.layout.now.ends.items c.args.arrow.now c.args.color in
    let shut = grouped (codes "frame") title stroke old c.open_frame.new.picture c.draw_arrow.new.picture c.close.new.self
    c.in_ok-open_frame.ensures c.in_ok-draw_arrow.ensures c.in_ok-close.ensures in
    on_ok_weaker c.draw_kind.result (λ k. record {
      part = group (codes "frame") title stroke ++ k.part;
      such = record { color = c.args.color; kind = k.part; told = k.such; is = refl };
      is = behind old (group (codes "frame") title stroke) k.part c.close.new.self c.draw_kind.new.picture shut k.is;
    }) c.draw_kind.ensures
