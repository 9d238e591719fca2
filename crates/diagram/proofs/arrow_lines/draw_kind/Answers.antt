use Rattle.std.proofs.Common.{◌≡◌, ◌∙◌, ◌-◌, ℕ, ap, codes}
use Rattle.std.proofs.lemmas.Result.{on_ok_weaker}
use Rattle.picture.specs.Elements.{words_text}
use Rattle.diagram.specs.Drawn.{MayTell, beside, told, untold}
use Rattle.diagram.specs.Facts.{kind_text}
use Rattle.diagram.specs.Places.{down, further, lane}
use Rattle.diagram.proofs.Drawings.{adds, adds_nothing, words_so}
use Rattle.diagram.proofs.arrow_lines.draw_kind.Goals as goal

-- another word stands there
pub returns-then-y-free : goal.returns-then-y-free
returns-then-y-free c =
    adds_nothing (MayTell c.args.nodes c.args.layout.now.ends.items c.args.arrow.now (kind_text c.args.kind)) c.args.picture.now untold

pub returns : goal.returns
returns c =
    let nodes = c.args.nodes in
    let ends = c.args.layout.now.ends.items in
    let arrow = c.args.arrow.now in
    let kind = kind_text c.args.kind in
    let left : c.saturating_sub.result ≡ lane nodes arrow.from - 200 = cc in
    let below : c.saturating_add-2.result ≡ further (down ends arrow.sent) 600 =
    c.saturating_add-2.ensures ∙ ap (λ (n : ℕ). further n 600) c.place_of-y.ensures in
    adds c.text.result (MayTell nodes ends arrow kind) (words_text (codes "kind") (beside nodes ends arrow) kind) c.args.picture.now
    c.text.new.self told
    (on_ok_weaker c.text.result
    (words_so (codes "kind") c.saturating_sub.result c.saturating_add-2.result (lane nodes arrow.from - 200)
    (further (down ends arrow.sent) 600) c.as_bytes.result.now kind c.args.picture.now c.text.new.self left below
    (c.as_bytes.ensures.value ∙ c.kind_name.ensures))
    c.text.ensures)
