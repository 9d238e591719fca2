use Rattle.std.proofs.lemmas.Result.{on_ok_weaker}
use Rattle.replay.proofs.Parts.{adds_through}
use Rattle.replay.proofs.part.add.Goals as goal

-- what waited is handed on, and the bytes behind it
pub returns-clause-added : goal.returns-clause-added
returns-clause-added g c =
    on_ok_weaker c.take.result
    (adds_through g.K.Sink.takes c.args.sink.now c.hand_on.new.sink c.take.new.self c.args.part.now.items c.args.bytes.now c.hand_on.new.part.items
    c.in_ok-hand_on.ensures.handed c.in_ok-hand_on.ensures.empty)
    c.take.ensures.taken
