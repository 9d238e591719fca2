use Rattle.std.proofs.Common.{◌≡◌, ◌≤◌, length, replicate, false, ap, arith}
use Rattle.std.proofs.lemmas.List.{length-replicate}
use Rattle.std.proofs.lemmas.Result.{IfOk-weaker}
use Rattle.diagram.specs.Shown.{IsLayout, StandWhereSet}
use Rattle.diagram.specs.declared.layout.Layout.{Layout}
use Rattle.diagram.proofs.FlagLemmas.{layout}
use Rattle.diagram.proofs.layout.lay_out.Goals as goal

-- the flags are set of what the window shows
pub returns : goal.returns
returns c =
    let s = c.args.scene.now in
    let n = c.saturating_add-2.result in
    let empty : c.in_ok-shown.shown.items ≡ replicate n false = c.in_ok-shown.ensures.items_if_clones_equal (λ y e. e) in
    let steps : s.steps ≤ length c.in_ok-shown.shown.items = omega (arith, ap length empty, length-replicate n false) in
    IfOk-weaker c.stack.result (λ (l : Layout). StandWhereSet c.show_labels.new.shown.items l.ends.items l.height)
    (λ (l : Layout). IsLayout s c.args.window l.ends.items l.height)
    (λ l stand.
    layout s c.args.window c.steps_of-first.result.0 c.steps_of-first.result.1 c.steps_of-first.ensures.first c.steps_of-first.ensures.last
    n c.in_ok-shown.shown.items c.show_passages.new.shown.items c.show_marks.new.shown.items c.show_labels.new.shown.items l.ends.items
    l.height empty steps c.show_passages.ensures c.show_marks.ensures c.show_labels.ensures.shown stand)
    c.stack.ensures
