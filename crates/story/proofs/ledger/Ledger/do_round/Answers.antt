-- A round begins at a frame that is there, since none is lost in it, and its own step made all from that one on.
use Rattle.std.proofs.Common.{◌≡◌, ◌≤◌, length, ap, arith}
use Rattle.stable.specs.Memory.{in_memory}
use Rattle.stable.specs.Storages.{scripted}
use Rattle.world.specs.Seen.{world_of}
use Rattle.schedule.specs.declared.action.Action.TheVariants.{Round}
use Rattle.story.proofs.NotingLemmas.{line_grows}
use Rattle.story.proofs.ledger.Ledger.do_round.Goals as goal

pub part_round-requires-clause-within : goal.part_round-requires-clause-within
part_round-requires-clause-within c =
    let same : length c.frames-first.result.now ≡ length (world_of c.args.self.now.world).frames = ap length c.frames-first.ensures in
    let grows : length (world_of c.args.self.now.world).frames ≤ length (world_of c.do_action.new.self.world).frames =
    line_grows (scripted in_memory) (record { number = c.args.line; action = Round c.args.node c.args.members })
    c.do_action.new.self.fault (world_of c.args.self.now.world) (world_of c.do_action.new.self.world) c.do_action.ensures.done in
    omega (arith, same, grows, ap (λ w. length w.frames) c.in_ok-begin_round.ensures.still.world)
