use Rattle.std.proofs.Common.{refl, ◌∙◌, arith}
use Rattle.serving.specs.Seen.{process_of, server_of}
use Rattle.serving.proofs.Moving.{clients_none_told, clients_told_then}
use Rattle.serving.proofs.Passing.{clients_none, clients_then}
use Rattle.serving.proofs.Breaking.{breaks_then, breaks_untold, on_err, telling_kept}
use Rattle.serving.proofs.Stopping.{clients_break}
use Rattle.std.proofs.lemmas.Result.{err_from_is_err_and}
use Rattle.serving.proofs.server.Server.tell_due.Goals as goal

pub due-init : goal.due-init
due-init g c = (
  clients_none g.S.Stable g.D.Desk.tape g.D.Desk.Tells (server_of c.args.self.now) c.args.desk.now,
  refl,
  omega arith,
  λ ripe. ripe,
  (refl, refl),
  λ now held ripe. clients_none_told g.S.Stable now g.D.Desk.tape g.D.Desk.Tells (process_of c.args.self.now) c.args.desk.now,
  λ held. held,
  refl,
)

pub returns-in_err-was_told-clause-serves : goal.returns-in_err-was_told-clause-serves
returns-in_err-was_told-clause-serves g c = clients_then g.S.Stable g.D.Desk.tape g.D.Desk.Tells _ _ _ _ _ _ c.due.invariant.0 c.tell_next_due.ensures.serves

pub due-preserved : goal.due-preserved
due-preserved g c = (
  clients_then g.S.Stable g.D.Desk.tape g.D.Desk.Tells _ _ _ _ _ _ c.due.invariant.0 c.tell_next_due.ensures.serves,
  c.in_ok-was_told.ensures.node ∙ c.due.invariant.1,
  omega (arith, c.due.invariant.2, c.in_ok-was_told.ensures.less),
  λ ripe. c.in_ok-was_told.ensures.ripe (c.due.invariant.3 ripe),
  (
    c.tell_next_due.ensures.requests.0 ∙ c.due.invariant.4.0,
    c.tell_next_due.ensures.requests.1 ∙ c.due.invariant.4.1,
  ),
  λ now held ripe. clients_told_then g.S.Stable now g.D.Desk.tape g.D.Desk.Tells (process_of c.args.self.now) (process_of c.due.self)
      (process_of c.tell_next_due.new.self) c.args.desk.now c.due.desk c.tell_next_due.new.desk c.due.has_told c.in_ok-was_told.was_told
      (c.due.invariant.5 now held ripe) (c.in_ok-was_told.ensures.moves now (c.due.invariant.6 held) (c.due.invariant.3 ripe)),
  λ held. c.in_ok-was_told.ensures.held (c.due.invariant.6 held),
  c.in_ok-was_told.ensures.own ∙ c.due.invariant.7,
)

pub returns-in_err-was_told-clause-breaks : goal.returns-in_err-was_told-clause-breaks
returns-in_err-was_told-clause-breaks g c = λ held ripe.
    on_err _ (
    let p = process_of c.args.self.now in
    let q = process_of c.due.self in
    breaks_then g.D.Desk.tape g.D.Desk.Tells p.waiting q.waiting c.args.desk.now c.due.desk c.tell_next_due.new.desk
    (telling_kept g.D.Desk.tape g.D.Desk.Tells g.S.Stable 0 p q c.args.desk.now c.due.desk c.due.has_told (c.due.invariant.5 0 held ripe))
    (breaks_untold g.D.Desk.tape g.D.Desk.Tells q.waiting c.due.desk c.tell_next_due.new.desk c.in_err-was_told.ensures.breaks))

pub returns-in_err-was_told-clause-stops : goal.returns-in_err-was_told-clause-stops
returns-in_err-was_told-clause-stops g c = λ now held ripe.
    let p = err_from_is_err_and c.from_residual.result c.from_residual.ensures.1 in
    rw (p.1, p.2) (clients_break g.S.Stable now g.D.Desk.tape g.D.Desk.Tells (process_of c.args.self.now) (process_of c.due.self)
    _ _ _ c.due.has_told _ _ (c.due.invariant.5 now held ripe) c.in_err-was_told.ensures.breaks c.in_err-was_told.ensures.stops)
