use Rattle.mfjson.proofs.PlaceLemmas.{no_place, says_x, says_y}
use Rattle.mfjson.proofs.reader.place_of.Goals as goal

pub returns-in_err-coordinate_of : goal.returns-in_err-coordinate_of
returns-in_err-coordinate_of c =
    rw c.from_residual-in_err-coordinate_of.ensures (no_place _ _ (λ is. (is.p.0, says_x _ _ _ c.in_ok-x.ensures is))
    c.in_err-coordinate_of.ensures)

pub returns-in_err-coordinate_of-2 : goal.returns-in_err-coordinate_of-2
returns-in_err-coordinate_of-2 c =
    rw c.from_residual-in_err-coordinate_of-2.ensures (no_place _ _ (λ is. (is.p.1, says_y _ _ _ c.in_ok-x.ensures is))
    c.in_err-coordinate_of-2.ensures)
