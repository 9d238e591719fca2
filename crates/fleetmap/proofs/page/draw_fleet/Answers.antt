use Rattle.std.proofs.Common.{List, subst}
use Rattle.picture.proofs.Growth.{grows_by, grows_on}
use Rattle.fleetmap.specs.Pages.{AreMarked}
use Rattle.fleetmap.specs.declared.shown.Shown.{Shown}
use Rattle.fleetmap.proofs.PageLemmas.{shows}
use Rattle.fleetmap.proofs.page.draw_fleet.Goals as goal

-- what comes behind the title and the marks leaves them there
pub returns : goal.returns
returns c =
    let marked = subst (λ (shown : List Shown). AreMarked c.args.db.now shown c.draw_marks.new.picture) c.deref.ensures.value
    c.in_ok-draw_marks.ensures.marked in
    let behind_marks = grows_on _ _ _ c.in_ok-draw_scale.ensures c.in_ok-draw_legend.ensures in
    let behind_title = grows_on _ _ _ (grows_by _ _ _ c.in_ok-rectangle.ensures) (grows_on _ _ _ c.in_ok-draw_areas.ensures
    (grows_on _ _ _ c.in_ok-draw_ways.ensures (grows_on _ _ _ c.in_ok-draw_marks.ensures.grows behind_marks))) in
    shows c.finish.result (λ x. x.items) c.args.db.now c.args.t c.args.title.now c.chart_of-chart.result c.in_ok-shown.shown.items
    c.draw_title.new.picture c.draw_marks.new.picture c.draw_legend.new.picture _ c.in_ok-draw_title.ensures.titled behind_title
    c.in_ok-shown.ensures marked behind_marks c.finish.ensures
