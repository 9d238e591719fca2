use Rattle.std.proofs.Common.{◌≡◌, ◌++◌, ℕ, List, subst, codes}
use Rattle.std.proofs.lemmas.Result.{on_ok_weaker}
use Rattle.picture.specs.Elements.{circle_text, closed}
use Rattle.picture.specs.declared.canvas.Place.{Place}
use Rattle.fleetmap.specs.Pages.{mark_text}
use Rattle.fleetmap.specs.declared.label.TheConstants.{MARK}
use Rattle.fleetmap.proofs.PageLemmas.{three_parts}
use Rattle.fleetmap.proofs.marks.draw_mark.Goals as goal

-- a group, a circle in it, and its end
pub returns : goal.returns
unfolding mark_text
returns c =
    let circled = subst (λ (p : Place). c.circle.new.self ≡ c.open.new.self ++ circle_text (codes "mark") p MARK)
    c.place_on_map-place.ensures c.in_ok-circle.ensures in
    on_ok_weaker c.close.result
    (λ e. three_parts c.args.picture.now _ _ closed c.open.new.self c.circle.new.self c.close.new.self c.in_ok-open.ensures circled e)
    c.close.ensures
