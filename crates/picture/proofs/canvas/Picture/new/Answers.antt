use Rattle.picture.proofs.Parts.{four_parts}
use Rattle.picture.proofs.canvas.Picture.new.Goals as goal

pub returns : goal.returns
returns c =
    four_parts _ _ _ _ _ _ _ _ _ c.new-text.ensures.items c.in_ok-push_size.ensures c.in_ok-push_escaped.ensures
    c.in_ok-extend_from_slice.ensures.items c.in_ok-extend_from_slice-2.ensures.items
