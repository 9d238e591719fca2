use Rattle.picture.proofs.Parts.{five_parts}
use Rattle.picture.proofs.canvas.push_size.Goals as goal

pub returns : goal.returns
returns c =
    five_parts _ _ _ _ _ _ _ _ _ _ _ c.in_ok-push_units.ensures c.in_ok-push_units-2.ensures c.in_ok-push_units-3.ensures
    c.in_ok-push_units-4.ensures c.in_ok-extend_from_slice.ensures.items
