use Rattle.std.proofs.Common.{◌∙◌, ◌++◌, ◌-◌, List, ℕ, ap, codes}
use Rattle.picture.specs.Elements.{opened, words_text}
use Rattle.diagram.specs.Places.{further}
use Rattle.diagram.specs.Signs.{sign_text}
use Rattle.diagram.proofs.Drawings.{puts_group, words_so}
use Rattle.diagram.proofs.signs.draw_mark.Goals as goal

pub returns : goal.returns
returns c =
    let m = c.args.mark.now in
    let x = c.args.x in
    let y = c.args.y in
    puts_group c.close.result (codes "mark") m.title.items (sign_text m.sign (record { x = x; y = y }))
    (words_text (codes "note") (record { x = further x 350; y = y - 60 }) m.note.items) c.args.picture.now c.open.new.self
    c.draw_sign.new.picture c.text.new.self c.close.new.self
    (c.in_ok-open.ensures ∙ ap (λ (t : List ℕ). c.args.picture.now ++ opened (codes "mark") t) c.as_slice.ensures.value)
    c.in_ok-draw_sign.ensures
    (words_so (codes "note") c.saturating_add.result c.saturating_sub.result (further x 350) (y - 60) c.as_slice-2.result.now m.note.items
    c.draw_sign.new.picture c.text.new.self c.saturating_add.ensures c.saturating_sub.ensures c.as_slice-2.ensures.value
    c.in_ok-text.ensures)
    c.close.ensures
