use Rattle.std.proofs.lemmas.Result.{on_ok_weaker}
use Rattle.picture.proofs.Growth.{grows_on}
use Rattle.fleetmap.proofs.label.Rooms.draw_beside.Goals as goal

pub returns-then-is_free : goal.returns-then-is_free
returns-then-is_free c = on_ok_weaker c.draw_in.result (λ drawn. grows_on _ _ _ c.loop-number.invariant drawn) c.draw_in.ensures
