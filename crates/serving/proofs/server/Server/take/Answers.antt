use Rattle.std.proofs.Common.{[], subst, ◌∙◌}
use Rattle.life.specs.Seen.{life_of}
use Rattle.serving.specs.Seen.{process_of}
use Rattle.serving.specs.Moves.{Moves, Taking}
use Rattle.serving.specs.Processes.{ProcessState}
use Rattle.serving.proofs.Moving.{both_taken, moves_then}
use Rattle.serving.proofs.Passing.{over_kept, over_nodes, over_told}
use Rattle.std.proofs.Common.{List}
use Rattle.serving.specs.Resting.{HasRead}
use Rattle.serving.specs.Tapes.{Carried, polled}
use Rattle.serving.proofs.Breaking.{breaks_behind_lines, breaks_still, breaks_then, frames_kept, on_err}
use Rattle.serving.proofs.Stopping.{both_stop_behind, both_stop_frames, both_stop_lines, both_stop_timing, stops_at_own, stops_at_records}
use Rattle.std.proofs.lemmas.Result.{err_from_is_err_and}
use Rattle.serving.proofs.server.Server.take.Goals as goal

pub returns-in_err-more_frames-clause-serves : goal.returns-in_err-more_frames-clause-serves
returns-in_err-more_frames-clause-serves g c =
    over_nodes g.S.Stable g.N.Network.tape g.N.Network.Tells g.D.Desk.tape g.D.Desk.Tells _ _ _ _ c.args.desk.now c.take_frames.ensures.serves

pub returns-in_err-more_lines-clause-serves : goal.returns-in_err-more_lines-clause-serves
returns-in_err-more_lines-clause-serves g c =
    over_told g.S.Stable g.N.Network.tape g.N.Network.Tells g.D.Desk.tape g.D.Desk.Tells _ _ _ _ _ _ _ _
    (over_nodes g.S.Stable g.N.Network.tape g.N.Network.Tells g.D.Desk.tape g.D.Desk.Tells _ _ _ _ c.args.desk.now c.take_frames.ensures.serves) c.take_lines.ensures.serves

pub returns-in_err-keep_time-clause-serves : goal.returns-in_err-keep_time-clause-serves
returns-in_err-keep_time-clause-serves g c =
    over_kept g.S.Stable g.N.Network.tape g.N.Network.Tells g.D.Desk.tape g.D.Desk.Tells _ _ _ _ _ _ _
    (over_told g.S.Stable g.N.Network.tape g.N.Network.Tells g.D.Desk.tape g.D.Desk.Tells _ _ _ _ _ _ _ _
    (over_nodes g.S.Stable g.N.Network.tape g.N.Network.Tells g.D.Desk.tape g.D.Desk.Tells _ _ _ _ c.args.desk.now c.take_frames.ensures.serves) c.take_lines.ensures.serves) c.keep_time.ensures.serves

pub returns-in_err-take_own-clause-serves : goal.returns-in_err-take_own-clause-serves
returns-in_err-take_own-clause-serves g c =
    over_kept g.S.Stable g.N.Network.tape g.N.Network.Tells g.D.Desk.tape g.D.Desk.Tells _ _ _ _ _ _ _
    (over_kept g.S.Stable g.N.Network.tape g.N.Network.Tells g.D.Desk.tape g.D.Desk.Tells _ _ _ _ _ _ _
    (over_told g.S.Stable g.N.Network.tape g.N.Network.Tells g.D.Desk.tape g.D.Desk.Tells _ _ _ _ _ _ _ _
    (over_nodes g.S.Stable g.N.Network.tape g.N.Network.Tells g.D.Desk.tape g.D.Desk.Tells _ _ _ _ c.args.desk.now c.take_frames.ensures.serves) c.take_lines.ensures.serves) c.keep_time.ensures.serves) c.take_own.ensures.serves

pub returns-in_err-keep_records-clause-serves : goal.returns-in_err-keep_records-clause-serves
returns-in_err-keep_records-clause-serves g c =
    over_kept g.S.Stable g.N.Network.tape g.N.Network.Tells g.D.Desk.tape g.D.Desk.Tells _ _ _ _ _ _ _
    (over_kept g.S.Stable g.N.Network.tape g.N.Network.Tells g.D.Desk.tape g.D.Desk.Tells _ _ _ _ _ _ _
    (over_kept g.S.Stable g.N.Network.tape g.N.Network.Tells g.D.Desk.tape g.D.Desk.Tells _ _ _ _ _ _ _
    (over_told g.S.Stable g.N.Network.tape g.N.Network.Tells g.D.Desk.tape g.D.Desk.Tells _ _ _ _ _ _ _ _
    (over_nodes g.S.Stable g.N.Network.tape g.N.Network.Tells g.D.Desk.tape g.D.Desk.Tells _ _ _ _ c.args.desk.now c.take_frames.ensures.serves) c.take_lines.ensures.serves) c.keep_time.ensures.serves) c.take_own.ensures.serves) c.keep_records.ensures.serves

pub returns-clause-serves : goal.returns-clause-serves
returns-clause-serves g c =
    over_kept g.S.Stable g.N.Network.tape g.N.Network.Tells g.D.Desk.tape g.D.Desk.Tells _ _ _ _ _ _ _
    (over_kept g.S.Stable g.N.Network.tape g.N.Network.Tells g.D.Desk.tape g.D.Desk.Tells _ _ _ _ _ _ _
    (over_kept g.S.Stable g.N.Network.tape g.N.Network.Tells g.D.Desk.tape g.D.Desk.Tells _ _ _ _ _ _ _
    (over_told g.S.Stable g.N.Network.tape g.N.Network.Tells g.D.Desk.tape g.D.Desk.Tells _ _ _ _ _ _ _ _
    (over_nodes g.S.Stable g.N.Network.tape g.N.Network.Tells g.D.Desk.tape g.D.Desk.Tells _ _ _ _ c.args.desk.now c.take_frames.ensures.serves) c.take_lines.ensures.serves) c.keep_time.ensures.serves) c.take_own.ensures.serves) c.keep_records.ensures.serves

pub returns-clause-takes : goal.returns-clause-takes
returns-clause-takes g c =
    let p = process_of c.args.self.now in
    let framed = process_of c.take_frames.new.self in
    let lined = process_of c.take_lines.new.self in
    let timed = process_of c.keep_time.new.self in
    let own = process_of c.take_own.new.self in
    let kept = process_of c.keep_records.new.self in
    both_taken g.S.Stable c.args.now g.N.Network.tape g.N.Network.Tells g.D.Desk.tape g.D.Desk.Tells p framed lined kept
    (life_of c.keep_time.new.self.life) c.keep_time.new.self.timing c.args.network.now c.take_frames.new.network c.args.desk.now
    c.take_lines.new.desk c.in_ok-more_frames.more_frames c.in_ok-more_lines.more_lines c.in_ok-more_frames.ensures.takes
    (c.in_ok-more_lines.ensures.takes c.args.now) c.in_ok-more_frames.ensures.own c.in_ok-keep_time.ensures.keeps
    (subst (λ (q : ProcessState _). Moves g.S.Stable c.args.now Taking q [] [] kept) c.keep_time.ensures.others
    (moves_then g.S.Stable c.args.now timed own kept [] [] [] [] (c.in_ok-take_own.ensures.moves c.args.now)
    (c.in_ok-keep_records.ensures.moves c.args.now)))
    (c.in_ok-keep_records.ensures.own ∙ c.in_ok-take_own.ensures.own)

pub returns-clause-own : goal.returns-clause-own
returns-clause-own g c = c.in_ok-keep_records.ensures.own ∙ c.in_ok-take_own.ensures.own

pub returns-in_err-more_frames-clause-breaks : goal.returns-in_err-more_frames-clause-breaks
returns-in_err-more_frames-clause-breaks g c =
    on_err _ (
    breaks_still g.D.Desk.tape g.D.Desk.Tells c.args.self.now.waiting c.args.desk.now)

pub returns-in_err-more_lines-clause-breaks : goal.returns-in_err-more_lines-clause-breaks
returns-in_err-more_lines-clause-breaks g c =
    on_err _ (
    let p = process_of c.args.self.now in
    let framed = process_of c.take_frames.new.self in
    breaks_then g.D.Desk.tape g.D.Desk.Tells p.waiting framed.waiting c.args.desk.now c.args.desk.now c.take_lines.new.desk
    (frames_kept g.D.Desk.tape g.D.Desk.Tells g.S.Stable c.args.now g.N.Network.tape g.N.Network.Tells
    (λ (xs : List Carried). HasRead polled xs c.in_ok-more_frames.more_frames) p framed c.args.network.now
    c.take_frames.new.network c.args.desk.now c.in_ok-more_frames.ensures.takes)
    c.in_err-more_lines.ensures.breaks)

pub returns-in_err-keep_time-clause-breaks : goal.returns-in_err-keep_time-clause-breaks
returns-in_err-keep_time-clause-breaks g c =
    on_err _ (breaks_behind_lines g.D.Desk.tape g.D.Desk.Tells g.S.Stable c.args.now g.N.Network.tape g.N.Network.Tells
    (process_of c.args.self.now) (process_of c.take_frames.new.self) (process_of c.take_lines.new.self) _ _ _ _ _ _
    c.in_ok-more_frames.ensures.takes (c.in_ok-more_lines.ensures.takes c.args.now))

pub returns-in_err-take_own-clause-breaks : goal.returns-in_err-take_own-clause-breaks
returns-in_err-take_own-clause-breaks g c =
    on_err _ (breaks_behind_lines g.D.Desk.tape g.D.Desk.Tells g.S.Stable c.args.now g.N.Network.tape g.N.Network.Tells
    (process_of c.args.self.now) (process_of c.take_frames.new.self) (process_of c.take_lines.new.self) _ _ _ _ _ _
    c.in_ok-more_frames.ensures.takes (c.in_ok-more_lines.ensures.takes c.args.now))

pub returns-in_err-keep_records-clause-breaks : goal.returns-in_err-keep_records-clause-breaks
returns-in_err-keep_records-clause-breaks g c =
    on_err _ (breaks_behind_lines g.D.Desk.tape g.D.Desk.Tells g.S.Stable c.args.now g.N.Network.tape g.N.Network.Tells
    (process_of c.args.self.now) (process_of c.take_frames.new.self) (process_of c.take_lines.new.self) _ _ _ _ _ _
    c.in_ok-more_frames.ensures.takes (c.in_ok-more_lines.ensures.takes c.args.now))

pub returns-in_err-more_frames-clause-stops : goal.returns-in_err-more_frames-clause-stops
returns-in_err-more_frames-clause-stops g c =
    let p = err_from_is_err_and c.from_residual.result c.from_residual.ensures.1 in
    rw (p.1, p.2) (both_stop_frames g.S.Stable c.args.now g.N.Network.tape g.N.Network.Tells g.D.Desk.tape g.D.Desk.Tells (process_of c.args.self.now) _ _ c.args.desk.now _ _
    c.in_err-more_frames.ensures.stops)

pub returns-in_err-more_lines-clause-stops : goal.returns-in_err-more_lines-clause-stops
returns-in_err-more_lines-clause-stops g c =
    let p = err_from_is_err_and c.from_residual-in_err-more_lines.result c.from_residual-in_err-more_lines.ensures.1 in
    rw (p.1, p.2) (both_stop_lines g.S.Stable c.args.now g.N.Network.tape g.N.Network.Tells g.D.Desk.tape g.D.Desk.Tells (λ (xs : List Carried). HasRead polled xs c.in_ok-more_frames.more_frames)
    (process_of c.args.self.now) (process_of c.take_frames.new.self) _ _ _ _ _ _ c.in_ok-more_frames.ensures.takes
    (c.in_err-more_lines.ensures.stops c.args.now))

pub returns-in_err-keep_time-clause-stops : goal.returns-in_err-keep_time-clause-stops
returns-in_err-keep_time-clause-stops g c =
    let p = process_of c.args.self.now in
    let framed = process_of c.take_frames.new.self in
    let lined = process_of c.take_lines.new.self in
    let x = err_from_is_err_and c.from_residual-in_err-keep_time.result c.from_residual-in_err-keep_time.ensures.1 in
    rw (x.1, x.2) (both_stop_timing g.S.Stable c.args.now g.N.Network.tape g.N.Network.Tells g.D.Desk.tape g.D.Desk.Tells
    p framed lined _ _ _ _ _ _ _ _ c.in_ok-more_frames.ensures.takes c.in_ok-more_frames.ensures.own (c.in_ok-more_lines.ensures.takes c.args.now)
    c.in_err-keep_time.ensures.stops)

pub returns-in_err-take_own-clause-stops : goal.returns-in_err-take_own-clause-stops
returns-in_err-take_own-clause-stops g c =
    let p = process_of c.args.self.now in
    let framed = process_of c.take_frames.new.self in
    let lined = process_of c.take_lines.new.self in
    let timed = process_of c.keep_time.new.self in
    let x = err_from_is_err_and c.from_residual-in_err-take_own.result c.from_residual-in_err-take_own.ensures.1 in
    rw (x.1, x.2) (both_stop_behind g.S.Stable c.args.now g.N.Network.tape g.N.Network.Tells g.D.Desk.tape g.D.Desk.Tells
    p framed lined _ _ _ _ _ _ _ _ c.in_ok-more_frames.ensures.takes c.in_ok-more_frames.ensures.own (c.in_ok-more_lines.ensures.takes c.args.now)
    (stops_at_own g.S.Stable c.args.now lined timed (life_of c.keep_time.new.self.life) c.keep_time.new.self.timing _ _
    c.in_ok-keep_time.ensures.keeps c.keep_time.ensures.others (c.in_err-take_own.ensures.stops c.args.now)))

pub returns-in_err-keep_records-clause-stops : goal.returns-in_err-keep_records-clause-stops
returns-in_err-keep_records-clause-stops g c =
    let p = process_of c.args.self.now in
    let framed = process_of c.take_frames.new.self in
    let lined = process_of c.take_lines.new.self in
    let timed = process_of c.keep_time.new.self in
    let own = process_of c.take_own.new.self in
    let x = err_from_is_err_and c.from_residual-in_err-keep_records.result c.from_residual-in_err-keep_records.ensures.1 in
    rw (x.1, x.2) (both_stop_behind g.S.Stable c.args.now g.N.Network.tape g.N.Network.Tells g.D.Desk.tape g.D.Desk.Tells
    p framed lined _ _ _ _ _ _ _ _ c.in_ok-more_frames.ensures.takes c.in_ok-more_frames.ensures.own (c.in_ok-more_lines.ensures.takes c.args.now)
    (stops_at_records g.S.Stable c.args.now lined timed own (life_of c.keep_time.new.self.life) c.keep_time.new.self.timing _ _
    c.in_ok-keep_time.ensures.keeps c.keep_time.ensures.others (c.in_ok-take_own.ensures.moves c.args.now)
    c.in_ok-take_own.ensures.own c.in_err-keep_records.ensures.stops))
