use Rattle.std.proofs.Common.{◌≡◌, ◌+◌, length, refl, ◌∙◌, arith}
use Rattle.serving.specs.Seen.{process_of, server_of}
use Rattle.serving.proofs.Moving.{clients_none_told, clients_told_also, clients_told_before}
use Rattle.life.specs.Seen.{life_of}
use Rattle.serving.proofs.Passing.{clients_none, clients_then}
use Rattle.serving.proofs.Ripening.{none_ripe_left}
use Rattle.serving.proofs.Breaking.{breaks_then, breaks_untold, on_err, telling_kept}
use Rattle.serving.proofs.Stopping.{clients_break}
use Rattle.std.proofs.lemmas.Result.{err_from_is_err_and}
use Rattle.serving.proofs.server.Server.tell_ripe.Goals as goal

pub questions-init : goal.questions-init
questions-init g c = (
  clients_none g.S.Stable g.D.Desk.tape g.D.Desk.Tells (server_of c.args.self.now) c.args.desk.now,
  refl,
  omega arith,
  λ now held. clients_none_told g.S.Stable now g.D.Desk.tape g.D.Desk.Tells (process_of c.args.self.now) c.args.desk.now,
  λ held. held,
  refl,
)

pub returns-in_err-tell_next_ripe-clause-serves : goal.returns-in_err-tell_next_ripe-clause-serves
returns-in_err-tell_next_ripe-clause-serves g c = clients_then g.S.Stable g.D.Desk.tape g.D.Desk.Tells _ _ _ _ _ _ c.questions.invariant.0 c.tell_next_ripe.ensures.serves

pub returns-then-not-branch-clause-serves : goal.returns-then-not-branch-clause-serves
returns-then-not-branch-clause-serves g c = clients_then g.S.Stable g.D.Desk.tape g.D.Desk.Tells _ _ _ _ _ _ c.questions.invariant.0 c.tell_next_ripe.ensures.serves

pub returns-then-not-branch-clause-ripe : goal.returns-then-not-branch-clause-ripe
returns-then-not-branch-clause-ripe g c =
    rw c.if-not-branch.true at c.in_ok-tell_next_ripe.ensures.less

pub questions-preserved : goal.questions-preserved
questions-preserved g c =
    let less : length c.tell_next_ripe.new.self.waiting.questions + 1 ≡ length c.questions.self.waiting.questions =
    rw c.if-not-branch.false at c.in_ok-tell_next_ripe.ensures.less in (
      clients_then g.S.Stable g.D.Desk.tape g.D.Desk.Tells _ _ _ _ _ _ c.questions.invariant.0 c.tell_next_ripe.ensures.serves,
      c.in_ok-tell_next_ripe.ensures.node ∙ c.questions.invariant.1,
      omega (arith, c.questions.invariant.2, less),
      λ now held. clients_told_also g.S.Stable now g.D.Desk.tape g.D.Desk.Tells (process_of c.args.self.now) (process_of c.questions.self)
          (process_of c.tell_next_ripe.new.self) c.args.desk.now c.questions.desk c.tell_next_ripe.new.desk c.questions.has_told
          c.in_ok-tell_next_ripe.field-0 c.if-not-branch.false (c.questions.invariant.3 now held)
          (c.in_ok-tell_next_ripe.ensures.moves now (c.questions.invariant.4 held)),
      λ held. c.in_ok-tell_next_ripe.ensures.held (c.questions.invariant.4 held),
      c.in_ok-tell_next_ripe.ensures.own ∙ c.questions.invariant.5,
    )

pub returns-clause-ripe : goal.returns-clause-ripe
returns-clause-ripe g c =
    none_ripe_left (life_of c.questions.self.life).node c.questions.self.waiting.questions c.args.self.now.waiting.questions
    c.questions.counter c.questions.invariant.2 (omega arith)

pub returns-then-not-branch-clause-moves : goal.returns-then-not-branch-clause-moves
returns-then-not-branch-clause-moves g c = λ now held.
    clients_told_before g.S.Stable now g.D.Desk.tape g.D.Desk.Tells (process_of c.args.self.now) (process_of c.questions.self)
    (process_of c.tell_next_ripe.new.self) c.args.desk.now c.questions.desk c.tell_next_ripe.new.desk c.questions.has_told
    c.in_ok-tell_next_ripe.field-0 c.if-not-branch.true (c.questions.invariant.3 now held)
    (c.in_ok-tell_next_ripe.ensures.moves now (c.questions.invariant.4 held))

pub returns-then-not-branch-clause-held : goal.returns-then-not-branch-clause-held
returns-then-not-branch-clause-held g c = λ held. c.in_ok-tell_next_ripe.ensures.held (c.questions.invariant.4 held)

pub returns-then-not-branch-clause-own : goal.returns-then-not-branch-clause-own
returns-then-not-branch-clause-own g c = c.in_ok-tell_next_ripe.ensures.own ∙ c.questions.invariant.5

pub returns-in_err-tell_next_ripe-clause-breaks : goal.returns-in_err-tell_next_ripe-clause-breaks
returns-in_err-tell_next_ripe-clause-breaks g c = λ held.
    on_err _ (
    let p = process_of c.args.self.now in
    let q = process_of c.questions.self in
    breaks_then g.D.Desk.tape g.D.Desk.Tells p.waiting q.waiting c.args.desk.now c.questions.desk c.tell_next_ripe.new.desk
    (telling_kept g.D.Desk.tape g.D.Desk.Tells g.S.Stable 0 p q c.args.desk.now c.questions.desk c.questions.has_told (c.questions.invariant.3 0 held))
    (breaks_untold g.D.Desk.tape g.D.Desk.Tells q.waiting c.questions.desk c.tell_next_ripe.new.desk c.in_err-tell_next_ripe.ensures.breaks))

pub returns-in_err-tell_next_ripe-clause-stops : goal.returns-in_err-tell_next_ripe-clause-stops
returns-in_err-tell_next_ripe-clause-stops g c = λ now held.
    let p = err_from_is_err_and c.from_residual.result c.from_residual.ensures.1 in
    rw (p.1, p.2) (clients_break g.S.Stable now g.D.Desk.tape g.D.Desk.Tells (process_of c.args.self.now) (process_of c.questions.self)
    _ _ _ c.questions.has_told _ _ (c.questions.invariant.3 now held) c.in_err-tell_next_ripe.ensures.breaks
    c.in_err-tell_next_ripe.ensures.stops)
