use Rattle.schedule.proofs.Coordinates.{rect_made}
use Rattle.schedule.proofs.forms.rect.Goals as goal

pub returns : goal.returns
returns c =
    rect_made _ _ _ _ _ _ _ _ c.new.result c.in_ok-x0.ensures c.in_ok-y0.ensures c.in_ok-x1.ensures c.in_ok-y1.ensures
    c.new.ensures.valid c.new.ensures.value
