use Rattle.serving.proofs.HandingOn.{rightly_since}
use Rattle.serving.specs.Seen.{process_of, server_of}
use Rattle.serving.proofs.Keeping.{has_looked, moves_looking}
use Rattle.serving.proofs.MovesKeep.{turn_keeps_each, turn_learns, turn_stays}
use Rattle.serving.proofs.Moving.{both_quiet, both_turned}
use Rattle.serving.proofs.Passing.{over_quiet, over_then}
use Rattle.std.proofs.Common.{◌∙◌, ◌||◌, IsSome, inr, refl, subst, sym}
use Rattle.serving.proofs.Breaking.{breaks_over, breaks_still, breaks_then, kept_of_all, on_err}
use Rattle.serving.proofs.Leading.{serves_none}
use Rattle.serving.proofs.Stopping.{both_end, both_end_at_once, both_stop_telling, down_unless_up}
use Rattle.std.proofs.lemmas.Result.{err_from_is_err_and}
use Rattle.serving.proofs.server.Server.turn.Goals as goal

pub returns-in_err-has_told-clause-serves : goal.returns-in_err-has_told-clause-serves
returns-in_err-has_told-clause-serves g c =
    over_then g.S.Stable g.N.Network.tape g.N.Network.Tells g.D.Desk.tape g.D.Desk.Tells _ _ _ _ _ _ _ _ _ c.take.ensures.serves c.tell.ensures.serves

pub returns-clause-serves : goal.returns-clause-serves
returns-clause-serves g c =
    over_then g.S.Stable g.N.Network.tape g.N.Network.Tells g.D.Desk.tape g.D.Desk.Tells _ _ _ _ _ _ _ _ _ c.take.ensures.serves c.tell.ensures.serves

pub returns-clause-rests : goal.returns-clause-rests
returns-clause-rests g c =
    c.in_ok-has_told.ensures.rests c.in_ok-more_came.ensures.checkpoints

pub returns-clause-sends : goal.returns-clause-sends
returns-clause-sends g c =
    rightly_since g.N.Network.tape g.N.Network.Tells c.tell.new.self.timing c.see_position.new.self c.position-position.result c.is_asked-is_asked.result
    c.args.now c.tell.new.self.own _ _ _ c.see_position.ensures c.in_ok-more_came.ensures.comes c.in_ok-has_told.ensures.sends

pub returns-clause-own : goal.returns-clause-own
returns-clause-own g c = c.in_ok-has_told.ensures.own ∙ c.in_ok-more_came.ensures.own

pub returns-clause-held : goal.returns-clause-held
returns-clause-held g c = c.in_ok-has_told.ensures.held

pub returns-clause-due : goal.returns-clause-due
returns-clause-due g c = c.in_ok-has_told.ensures.due

pub returns-clause-handed_on : goal.returns-clause-handed_on
returns-clause-handed_on g c = c.in_ok-has_told.ensures.handed_on

pub returns-clause-moves : goal.returns-clause-moves
returns-clause-moves g c =
    let p = process_of c.args.self.now in
    let taken = process_of c.take.new.self in
    let told = process_of c.tell.new.self in
    let looked = record told { timing = c.see_position.new.self } in
    let net = c.tell.new.network in
    let desk = c.tell.new.desk in
    both_turned g.S.Stable c.args.now g.N.Network.tape g.N.Network.Tells g.D.Desk.tape g.D.Desk.Tells p taken looked
    c.args.network.now c.take.new.network net c.args.desk.now c.take.new.desk desk c.in_ok-more_came.more_came c.in_ok-has_told.has_told
    c.in_ok-more_came.ensures.takes
    (both_quiet g.S.Stable c.args.now g.N.Network.tape g.N.Network.Tells g.D.Desk.tape g.D.Desk.Tells taken told looked
    c.take.new.network net c.take.new.desk desk c.in_ok-has_told.has_told c.in_ok-has_told.ensures.moves
    (moves_looking g.S.Stable c.args.now told c.position-position.result c.is_asked-is_asked.result c.see_position.new.self
    c.position-position.ensures c.is_asked-is_asked.ensures c.see_position.ensures))

pub returns-clause-each : goal.returns-clause-each
returns-clause-each g c =
    turn_keeps_each g.S.Stable c.args.now g.N.Network.tape g.N.Network.Tells g.D.Desk.tape g.D.Desk.Tells (process_of c.args.self.now)
    (record (process_of c.tell.new.self) { timing = c.see_position.new.self }) c.args.network.now c.tell.new.network c.args.desk.now
    c.tell.new.desk (c.in_ok-more_came.more_came || c.in_ok-has_told.has_told) (returns-clause-moves g c)

pub returns-clause-stays : goal.returns-clause-stays
returns-clause-stays g c =
    turn_stays g.S.Stable c.args.now g.N.Network.tape g.N.Network.Tells g.D.Desk.tape g.D.Desk.Tells (process_of c.args.self.now)
    (record (process_of c.tell.new.self) { timing = c.see_position.new.self }) c.args.network.now c.tell.new.network c.args.desk.now
    c.tell.new.desk (c.in_ok-more_came.more_came || c.in_ok-has_told.has_told) (returns-clause-moves g c)

pub returns-clause-learns : goal.returns-clause-learns
returns-clause-learns g c =
    turn_learns g.S.Stable c.args.now g.N.Network.tape g.N.Network.Tells g.D.Desk.tape g.D.Desk.Tells c.args.self.now
    (record c.tell.new.self { timing = c.see_position.new.self }) c.args.network.now c.tell.new.network c.args.desk.now
    c.tell.new.desk (c.in_ok-more_came.more_came || c.in_ok-has_told.has_told) (returns-clause-moves g c)

pub returns-clause-looked : goal.returns-clause-looked
returns-clause-looked g c =
    has_looked c.args.now (process_of c.tell.new.self) c.position-position.result c.is_asked-is_asked.result c.see_position.new.self
    c.position-position.ensures c.is_asked-is_asked.ensures c.see_position.ensures

pub returns-in_err-more_came-clause-breaks : goal.returns-in_err-more_came-clause-breaks
returns-in_err-more_came-clause-breaks g c =
    on_err _ (
    breaks_over g.D.Desk.tape g.D.Desk.Tells c.args.self.now.waiting c.args.desk.now c.take.new.desk c.in_err-more_came.ensures.breaks)

pub returns-in_err-has_told-clause-breaks : goal.returns-in_err-has_told-clause-breaks
returns-in_err-has_told-clause-breaks g c =
    on_err _ (
    let p = process_of c.args.self.now in
    let taken = process_of c.take.new.self in
    breaks_over g.D.Desk.tape g.D.Desk.Tells p.waiting c.args.desk.now c.tell.new.desk
    (breaks_then g.D.Desk.tape g.D.Desk.Tells p.waiting taken.waiting c.args.desk.now c.take.new.desk c.tell.new.desk
    (kept_of_all g.D.Desk.tape g.D.Desk.Tells g.S.Stable c.args.now g.N.Network.tape g.N.Network.Tells p taken c.args.network.now c.take.new.network c.args.desk.now
    c.take.new.desk c.in_ok-more_came.more_came c.in_ok-more_came.ensures.takes)
    c.in_err-has_told.ensures.breaks))

pub returns-in_err-more_came-clause-stops : goal.returns-in_err-more_came-clause-stops
returns-in_err-more_came-clause-stops g c =
    let p = err_from_is_err_and c.from_residual.result c.from_residual.ensures.1 in
    rw (p.1, p.2) (both_end g.S.Stable c.args.now g.N.Network.tape g.N.Network.Tells g.D.Desk.tape g.D.Desk.Tells (process_of c.args.self.now)
    _ _ _ _ _ _ (subst (λ n. IsSome n.up) c.node.ensures (c.is_up.ensures.0 c.if-not-is_up.false)) c.in_err-more_came.ensures.stops)

pub returns-in_err-has_told-clause-stops : goal.returns-in_err-has_told-clause-stops
returns-in_err-has_told-clause-stops g c =
    let p = err_from_is_err_and c.from_residual-in_err-has_told.result c.from_residual-in_err-has_told.ensures.1 in
    rw (p.1, p.2) (both_end g.S.Stable c.args.now g.N.Network.tape g.N.Network.Tells g.D.Desk.tape g.D.Desk.Tells (process_of c.args.self.now)
    _ _ _ _ _ _ (subst (λ n. IsSome n.up) c.node.ensures (c.is_up.ensures.0 c.if-not-is_up.false))
    (both_stop_telling g.S.Stable c.args.now g.N.Network.tape g.N.Network.Tells g.D.Desk.tape g.D.Desk.Tells (process_of c.args.self.now)
    (process_of c.take.new.self) _ _ _ _ _ _ _ _ _ c.in_ok-more_came.ensures.takes c.in_err-has_told.ensures.stops))

-- its node is down already
pub returns-then-not-is_up-clause-serves : goal.returns-then-not-is_up-clause-serves
returns-then-not-is_up-clause-serves g c =
    over_quiet g.S.Stable g.N.Network.tape g.N.Network.Tells g.D.Desk.tape g.D.Desk.Tells (server_of c.args.self.now)
    (server_of c.args.self.now) c.args.network.now c.args.desk.now (serves_none g.S.Stable (server_of c.args.self.now))

pub returns-then-not-is_up-clause-breaks : goal.returns-then-not-is_up-clause-breaks
returns-then-not-is_up-clause-breaks g c =
    breaks_over g.D.Desk.tape g.D.Desk.Tells c.args.self.now.waiting c.args.desk.now c.args.desk.now
    (breaks_still g.D.Desk.tape g.D.Desk.Tells c.args.self.now.waiting c.args.desk.now)

pub returns-then-not-is_up-clause-stops : goal.returns-then-not-is_up-clause-stops
returns-then-not-is_up-clause-stops g c =
    both_end_at_once g.S.Stable c.args.now g.N.Network.tape g.N.Network.Tells g.D.Desk.tape g.D.Desk.Tells (process_of c.args.self.now)
    c.args.network.now c.args.desk.now (down_unless_up _ (λ up. let yes = c.is_up.ensures.1 (subst (λ n. IsSome n.up) (sym c.node.ensures) up) in
    let no = c.if-not-is_up.true in absurd (cc)))

pub returns-then-not-is_up-clause-ends : goal.returns-then-not-is_up-clause-ends
returns-then-not-is_up-clause-ends g c = (
  inr refl,
  down_unless_up _ (λ up. let yes = c.is_up.ensures.1 (subst (λ n. IsSome n.up) (sym c.node.ensures) up) in
      let no = c.if-not-is_up.true in absurd (cc)),
)
