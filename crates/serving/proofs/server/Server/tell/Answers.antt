use Rattle.std.proofs.Common.{sym, subst, ap, ◌∙◌}
use Rattle.life.specs.Seen.{life_of}
use Rattle.serving.specs.Resting.{IsCheckpointed, IsFull}
use Rattle.serving.specs.Waitings.{WaitingState}
use Rattle.serving.proofs.HandingOn.{rightly_behind}
use Rattle.serving.specs.Seen.{process_of}
use Rattle.serving.proofs.Moving.{both_quiet, both_sent, both_told}
use Rattle.serving.proofs.Passing.{over_kept, over_sent, over_told}
use Rattle.serving.proofs.Ripening.{none_ripe_same}
use Rattle.serving.proofs.Breaking.{breaks_keeping, breaks_then, kept_answering, kept_both, kept_of_both, kept_quietly, on_err, telling_kept}
use Rattle.serving.proofs.Stopping.{both_break_sent, both_break_still, both_break_told}
use Rattle.std.proofs.lemmas.Result.{err_from_is_err_and}
use Rattle.serving.proofs.server.Server.tell.Goals as goal

pub returns-in_err-has_answered-clause-serves : goal.returns-in_err-has_answered-clause-serves
returns-in_err-has_answered-clause-serves g c =
    over_told g.S.Stable g.N.Network.tape g.N.Network.Tells g.D.Desk.tape g.D.Desk.Tells _ _ _ _ _ _ _ _
    (c.let_out.ensures.serves) c.tell_ripe.ensures.serves

pub returns-in_err-turn_away-clause-serves : goal.returns-in_err-turn_away-clause-serves
returns-in_err-turn_away-clause-serves g c =
    over_kept g.S.Stable g.N.Network.tape g.N.Network.Tells g.D.Desk.tape g.D.Desk.Tells _ _ _ _ _ _ _
    (over_told g.S.Stable g.N.Network.tape g.N.Network.Tells g.D.Desk.tape g.D.Desk.Tells _ _ _ _ _ _ _ _
    (c.let_out.ensures.serves) c.tell_ripe.ensures.serves) c.turn_away.ensures.serves

pub returns-in_err-has_told-clause-serves : goal.returns-in_err-has_told-clause-serves
returns-in_err-has_told-clause-serves g c =
    over_told g.S.Stable g.N.Network.tape g.N.Network.Tells g.D.Desk.tape g.D.Desk.Tells _ _ _ _ _ _ _ _
    (over_kept g.S.Stable g.N.Network.tape g.N.Network.Tells g.D.Desk.tape g.D.Desk.Tells _ _ _ _ _ _ _
    (over_told g.S.Stable g.N.Network.tape g.N.Network.Tells g.D.Desk.tape g.D.Desk.Tells _ _ _ _ _ _ _ _
    (c.let_out.ensures.serves) c.tell_ripe.ensures.serves) c.turn_away.ensures.serves) c.tell_due.ensures.serves

pub returns-in_err-hand_on-clause-serves : goal.returns-in_err-hand_on-clause-serves
returns-in_err-hand_on-clause-serves g c =
    over_sent g.S.Stable g.N.Network.tape g.N.Network.Tells g.D.Desk.tape g.D.Desk.Tells _ _ _ _ _ _ _ _
    (over_told g.S.Stable g.N.Network.tape g.N.Network.Tells g.D.Desk.tape g.D.Desk.Tells _ _ _ _ _ _ _ _
    (over_kept g.S.Stable g.N.Network.tape g.N.Network.Tells g.D.Desk.tape g.D.Desk.Tells _ _ _ _ _ _ _
    (over_told g.S.Stable g.N.Network.tape g.N.Network.Tells g.D.Desk.tape g.D.Desk.Tells _ _ _ _ _ _ _ _
    (c.let_out.ensures.serves) c.tell_ripe.ensures.serves) c.turn_away.ensures.serves) c.tell_due.ensures.serves) c.hand_on.ensures.serves

pub returns-clause-serves : goal.returns-clause-serves
returns-clause-serves g c =
    over_sent g.S.Stable g.N.Network.tape g.N.Network.Tells g.D.Desk.tape g.D.Desk.Tells _ _ _ _ _ _ _ _
    (over_told g.S.Stable g.N.Network.tape g.N.Network.Tells g.D.Desk.tape g.D.Desk.Tells _ _ _ _ _ _ _ _
    (over_kept g.S.Stable g.N.Network.tape g.N.Network.Tells g.D.Desk.tape g.D.Desk.Tells _ _ _ _ _ _ _
    (over_told g.S.Stable g.N.Network.tape g.N.Network.Tells g.D.Desk.tape g.D.Desk.Tells _ _ _ _ _ _ _ _
    (c.let_out.ensures.serves) c.tell_ripe.ensures.serves) c.turn_away.ensures.serves) c.tell_due.ensures.serves) c.hand_on.ensures.serves

pub returns-clause-due : goal.returns-clause-due
returns-clause-due g c =
    ap (λ (w : WaitingState). w.due) c.hand_on.ensures.waits ∙ c.in_ok-has_told.ensures.told

pub returns-clause-rests : goal.returns-clause-rests
returns-clause-rests g c =
    λ checkpointed.
    let node = ap (λ l. (life_of l).node) c.hand_on.ensures.life ∙ c.in_ok-has_told.ensures.node ∙ ap (λ l. (life_of l).node) c.turn_away.ensures.life ∙ c.in_ok-has_answered.ensures.node ∙ c.in_ok-has_replied.ensures.node in
    let same = ap (λ l. (life_of l).node) c.hand_on.ensures.life ∙ c.in_ok-has_told.ensures.node in
    record {
      ripe = none_ripe_same _ _ _ _ (ap (λ l. (life_of l).node) c.hand_on.ensures.life) (ap (λ (w : WaitingState). w.questions) c.hand_on.ensures.waits)
          (c.in_ok-has_told.ensures.ripe
          (none_ripe_same _ _ _ _ (ap (λ l. (life_of l).node) c.turn_away.ensures.life) c.turn_away.ensures.questions c.in_ok-has_answered.ensures.ripe));
      checkpointed = subst (λ n. IsCheckpointed n) (sym node) checkpointed;
      full = λ full.
          let none = c.in_ok-turn_away.ensures.full (subst (λ n. IsFull n) same full) in (
            ap (λ (w : WaitingState). w.claims) c.hand_on.ensures.waits ∙ c.tell_due.ensures.requests.0 ∙ none.0,
            c.hand_on.ensures.none (c.tell_due.ensures.requests.1 ∙ none.1),
          );
    }

pub returns-clause-sends : goal.returns-clause-sends
returns-clause-sends g c =
    rightly_behind g.N.Network.tape g.N.Network.Tells _ _ _ _ _ _ _ _ c.hand_on.ensures.knows.0 c.hand_on.ensures.knows.1
    c.in_ok-has_replied.ensures.frames c.in_ok-hand_on.ensures.sends

pub returns-clause-moves : goal.returns-clause-moves
returns-clause-moves g c =
    let p = process_of c.args.self.now in
    let out = process_of c.let_out.new.self in
    let ripe = process_of c.tell_ripe.new.self in
    let away = process_of c.turn_away.new.self in
    let told = process_of c.tell_due.new.self in
    let on = process_of c.hand_on.new.self in
    let net = c.let_out.new.network in
    let desk = c.tell_due.new.desk in
    let held = c.in_ok-has_replied.ensures.held in
    let held_then = ap (λ l. (life_of l).held) c.turn_away.ensures.life ∙ c.in_ok-has_answered.ensures.held held in
    both_sent g.S.Stable c.args.now g.N.Network.tape g.N.Network.Tells g.D.Desk.tape g.D.Desk.Tells p told on _ net _ _ desk _
    (both_told g.S.Stable c.args.now g.N.Network.tape g.N.Network.Tells g.D.Desk.tape g.D.Desk.Tells p away told _ net _ _ desk _ _
    (both_quiet g.S.Stable c.args.now g.N.Network.tape g.N.Network.Tells g.D.Desk.tape g.D.Desk.Tells p ripe away _ net _ _ _
    (both_told g.S.Stable c.args.now g.N.Network.tape g.N.Network.Tells g.D.Desk.tape g.D.Desk.Tells p out ripe _ net _ _ _ _ _
    c.in_ok-has_replied.ensures.moves (c.in_ok-has_answered.ensures.moves c.args.now held))
    (c.in_ok-turn_away.ensures.moves c.args.now (c.in_ok-has_answered.ensures.held held)))
    (c.in_ok-has_told.ensures.moves c.args.now held_then
    (none_ripe_same _ _ _ _ (ap (λ l. (life_of l).node) c.turn_away.ensures.life) c.turn_away.ensures.questions
    c.in_ok-has_answered.ensures.ripe)))
    (c.in_ok-hand_on.ensures.moves (c.in_ok-has_told.ensures.held held_then)
    (λ full. c.tell_due.ensures.requests.1
    ∙ (c.in_ok-turn_away.ensures.full (subst (λ n. IsFull n) c.in_ok-has_told.ensures.node full)).1))

pub returns-clause-held : goal.returns-clause-held
returns-clause-held g c =
    ap (λ l. (life_of l).held) c.hand_on.ensures.life
    ∙ c.in_ok-has_told.ensures.held (ap (λ l. (life_of l).held) c.turn_away.ensures.life
    ∙ c.in_ok-has_answered.ensures.held c.in_ok-has_replied.ensures.held)

pub returns-clause-own : goal.returns-clause-own
returns-clause-own g c =
    ap (λ l. (life_of l).own) c.hand_on.ensures.life ∙ c.in_ok-has_told.ensures.own ∙ ap (λ l. (life_of l).own) c.turn_away.ensures.life
    ∙ c.in_ok-has_answered.ensures.own ∙ c.in_ok-has_replied.ensures.own

pub returns-in_err-has_answered-clause-breaks : goal.returns-in_err-has_answered-clause-breaks
returns-in_err-has_answered-clause-breaks g c =
    let p = process_of c.args.self.now in
    let out = process_of c.let_out.new.self in
    on_err _ (breaks_then g.D.Desk.tape g.D.Desk.Tells p.waiting out.waiting _ _ _
    (kept_of_both g.D.Desk.tape g.D.Desk.Tells g.S.Stable c.args.now g.N.Network.tape g.N.Network.Tells p out _ _ _ _ _ c.in_ok-has_replied.ensures.moves)
    (c.in_err-has_answered.ensures.breaks c.in_ok-has_replied.ensures.held))

pub returns-in_err-turn_away-clause-breaks : goal.returns-in_err-turn_away-clause-breaks
returns-in_err-turn_away-clause-breaks g c =
    let p = process_of c.args.self.now in
    let out = process_of c.let_out.new.self in
    let ripe = process_of c.tell_ripe.new.self in
    on_err _ (breaks_keeping g.D.Desk.tape g.D.Desk.Tells p.waiting ripe.waiting _ _
    (kept_answering g.D.Desk.tape g.D.Desk.Tells g.S.Stable c.args.now g.N.Network.tape g.N.Network.Tells p out ripe _ _ _ _ _ _ _
    c.in_ok-has_replied.ensures.moves (c.in_ok-has_answered.ensures.moves c.args.now c.in_ok-has_replied.ensures.held)))

pub returns-in_err-has_told-clause-breaks : goal.returns-in_err-has_told-clause-breaks
returns-in_err-has_told-clause-breaks g c =
    let p = process_of c.args.self.now in
    let out = process_of c.let_out.new.self in
    let ripe = process_of c.tell_ripe.new.self in
    let away = process_of c.turn_away.new.self in
    let held_then = ap (λ l. (life_of l).held) c.turn_away.ensures.life ∙ c.in_ok-has_answered.ensures.held c.in_ok-has_replied.ensures.held in
    let none_ripe = none_ripe_same _ _ _ _ (ap (λ l. (life_of l).node) c.turn_away.ensures.life) c.turn_away.ensures.questions
    c.in_ok-has_answered.ensures.ripe in
    on_err _ (breaks_then g.D.Desk.tape g.D.Desk.Tells p.waiting away.waiting _ _ _
    (kept_quietly g.D.Desk.tape g.D.Desk.Tells g.S.Stable c.args.now p.waiting ripe away _ _
    (kept_answering g.D.Desk.tape g.D.Desk.Tells g.S.Stable c.args.now g.N.Network.tape g.N.Network.Tells p out ripe _ _ _ _ _ _ _
    c.in_ok-has_replied.ensures.moves (c.in_ok-has_answered.ensures.moves c.args.now c.in_ok-has_replied.ensures.held))
    (c.in_ok-turn_away.ensures.moves c.args.now (c.in_ok-has_answered.ensures.held c.in_ok-has_replied.ensures.held)))
    (c.in_err-has_told.ensures.breaks held_then none_ripe))

pub returns-in_err-hand_on-clause-breaks : goal.returns-in_err-hand_on-clause-breaks
returns-in_err-hand_on-clause-breaks g c =
    let p = process_of c.args.self.now in
    let out = process_of c.let_out.new.self in
    let ripe = process_of c.tell_ripe.new.self in
    let away = process_of c.turn_away.new.self in
    let told = process_of c.tell_due.new.self in
    let held_then = ap (λ l. (life_of l).held) c.turn_away.ensures.life ∙ c.in_ok-has_answered.ensures.held c.in_ok-has_replied.ensures.held in
    let none_ripe = none_ripe_same _ _ _ _ (ap (λ l. (life_of l).node) c.turn_away.ensures.life) c.turn_away.ensures.questions
    c.in_ok-has_answered.ensures.ripe in
    on_err _ (breaks_keeping g.D.Desk.tape g.D.Desk.Tells p.waiting told.waiting _ _
    (kept_both g.D.Desk.tape g.D.Desk.Tells p.waiting away.waiting told.waiting _ _ _
    (kept_quietly g.D.Desk.tape g.D.Desk.Tells g.S.Stable c.args.now p.waiting ripe away _ _
    (kept_answering g.D.Desk.tape g.D.Desk.Tells g.S.Stable c.args.now g.N.Network.tape g.N.Network.Tells p out ripe _ _ _ _ _ _ _
    c.in_ok-has_replied.ensures.moves (c.in_ok-has_answered.ensures.moves c.args.now c.in_ok-has_replied.ensures.held))
    (c.in_ok-turn_away.ensures.moves c.args.now (c.in_ok-has_answered.ensures.held c.in_ok-has_replied.ensures.held)))
    (telling_kept g.D.Desk.tape g.D.Desk.Tells g.S.Stable c.args.now away told _ _ _ (c.in_ok-has_told.ensures.moves c.args.now held_then none_ripe))))

pub returns-in_err-has_replied-clause-stops : goal.returns-in_err-has_replied-clause-stops
returns-in_err-has_replied-clause-stops g c =
    let p = err_from_is_err_and c.from_residual.result c.from_residual.ensures.1 in
    rw (p.1, p.2, c.in_err-has_replied.ensures.memory) c.in_err-has_replied.ensures.stops

pub returns-in_err-has_answered-clause-stops : goal.returns-in_err-has_answered-clause-stops
returns-in_err-has_answered-clause-stops g c =
    let p = err_from_is_err_and c.from_residual-in_err-has_answered.result c.from_residual-in_err-has_answered.ensures.1 in
    rw (p.1, p.2) (both_break_told g.S.Stable c.args.now g.N.Network.tape g.N.Network.Tells g.D.Desk.tape g.D.Desk.Tells (process_of c.args.self.now) (process_of c.let_out.new.self) _ _ _ _ _ _ _ _
    c.in_ok-has_replied.ensures.moves (c.in_err-has_answered.ensures.stops c.args.now c.in_ok-has_replied.ensures.held))

pub returns-in_err-turn_away-clause-stops : goal.returns-in_err-turn_away-clause-stops
returns-in_err-turn_away-clause-stops g c =
    let p = err_from_is_err_and c.from_residual-in_err-turn_away.result c.from_residual-in_err-turn_away.ensures.1 in
    rw (p.1, p.2, c.in_err-turn_away.ensures.memory) (both_break_still g.S.Stable c.args.now g.N.Network.tape g.N.Network.Tells g.D.Desk.tape g.D.Desk.Tells (process_of c.args.self.now) (process_of c.tell_ripe.new.self) _ _ _ _ _ _ _
    (both_told g.S.Stable c.args.now g.N.Network.tape g.N.Network.Tells g.D.Desk.tape g.D.Desk.Tells (process_of c.args.self.now) (process_of c.let_out.new.self) (process_of c.tell_ripe.new.self)
    _ _ _ _ _ _ _ c.in_ok-has_replied.ensures.moves (c.in_ok-has_answered.ensures.moves c.args.now c.in_ok-has_replied.ensures.held))
    (c.in_err-turn_away.ensures.stops c.args.now (c.in_ok-has_answered.ensures.held c.in_ok-has_replied.ensures.held)))

pub returns-in_err-has_told-clause-stops : goal.returns-in_err-has_told-clause-stops
returns-in_err-has_told-clause-stops g c =
    let p = process_of c.args.self.now in
    let out = process_of c.let_out.new.self in
    let ripe = process_of c.tell_ripe.new.self in
    let away = process_of c.turn_away.new.self in
    let held = c.in_ok-has_replied.ensures.held in
    let held_then = ap (λ l. (life_of l).held) c.turn_away.ensures.life ∙ c.in_ok-has_answered.ensures.held held in
    let x = err_from_is_err_and c.from_residual-in_err-has_told.result c.from_residual-in_err-has_told.ensures.1 in
    rw (x.1, x.2) (both_break_told g.S.Stable c.args.now g.N.Network.tape g.N.Network.Tells g.D.Desk.tape g.D.Desk.Tells p away _ _ _ _ _ _ _ _
    (both_quiet g.S.Stable c.args.now g.N.Network.tape g.N.Network.Tells g.D.Desk.tape g.D.Desk.Tells p ripe away _ _ _ _ _
    (both_told g.S.Stable c.args.now g.N.Network.tape g.N.Network.Tells g.D.Desk.tape g.D.Desk.Tells p out ripe _ _ _ _ _ _ _
    c.in_ok-has_replied.ensures.moves (c.in_ok-has_answered.ensures.moves c.args.now held))
    (c.in_ok-turn_away.ensures.moves c.args.now (c.in_ok-has_answered.ensures.held held)))
    (c.in_err-has_told.ensures.stops c.args.now held_then
    (none_ripe_same _ _ _ _ (ap (λ l. (life_of l).node) c.turn_away.ensures.life) c.turn_away.ensures.questions
    c.in_ok-has_answered.ensures.ripe)))

pub returns-in_err-hand_on-clause-stops : goal.returns-in_err-hand_on-clause-stops
returns-in_err-hand_on-clause-stops g c =
    let p = process_of c.args.self.now in
    let out = process_of c.let_out.new.self in
    let ripe = process_of c.tell_ripe.new.self in
    let away = process_of c.turn_away.new.self in
    let told = process_of c.tell_due.new.self in
    let held = c.in_ok-has_replied.ensures.held in
    let held_then = ap (λ l. (life_of l).held) c.turn_away.ensures.life ∙ c.in_ok-has_answered.ensures.held held in
    let x = err_from_is_err_and c.from_residual-in_err-hand_on.result c.from_residual-in_err-hand_on.ensures.1 in
    rw (x.1, x.2, c.in_err-hand_on.ensures.memory) (both_break_sent g.S.Stable c.args.now g.N.Network.tape g.N.Network.Tells g.D.Desk.tape g.D.Desk.Tells p told _ _ _ _ _ _ _
    (both_told g.S.Stable c.args.now g.N.Network.tape g.N.Network.Tells g.D.Desk.tape g.D.Desk.Tells p away told _ _ _ _ _ _ _
    (both_quiet g.S.Stable c.args.now g.N.Network.tape g.N.Network.Tells g.D.Desk.tape g.D.Desk.Tells p ripe away _ _ _ _ _
    (both_told g.S.Stable c.args.now g.N.Network.tape g.N.Network.Tells g.D.Desk.tape g.D.Desk.Tells p out ripe _ _ _ _ _ _ _
    c.in_ok-has_replied.ensures.moves (c.in_ok-has_answered.ensures.moves c.args.now held))
    (c.in_ok-turn_away.ensures.moves c.args.now (c.in_ok-has_answered.ensures.held held)))
    (c.in_ok-has_told.ensures.moves c.args.now held_then
    (none_ripe_same _ _ _ _ (ap (λ l. (life_of l).node) c.turn_away.ensures.life) c.turn_away.ensures.questions
    c.in_ok-has_answered.ensures.ripe)))
    (c.in_err-hand_on.ensures.stops (c.in_ok-has_told.ensures.held held_then)
    (λ full. c.tell_due.ensures.requests.1
    ∙ (c.in_ok-turn_away.ensures.full (subst (λ n. IsFull n) c.in_ok-has_told.ensures.node full)).1)))
