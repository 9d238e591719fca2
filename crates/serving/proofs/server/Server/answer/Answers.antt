use Rattle.std.proofs.Common.{[], Option, Ok, ap, refl, subst, sym, ◌∙◌}
use Rattle.life.specs.Seen.{life_of}
use Rattle.serving.specs.Seen.{server_of}
use Rattle.life.specs.Telling.{ToldLists}
use Rattle.node_model.specs.declared.fault.NodeFault.{NodeFault}
use Rattle.serving.specs.Refusals.{IsRefusal}
use Rattle.serving.specs.Serving.{Serves, asking}
use Rattle.serving.specs.Waitings.{WaitingState}
use Rattle.serving.proofs.Answering.{clients_answering, serves_asked_only, serves_dropping, serves_silent}
use Rattle.serving.proofs.LettingOut.{serves_holding_back}
use Rattle.serving.proofs.Lists.{last_is_pushed}
use Rattle.serving.proofs.Passing.{clients_quiet}
use Rattle.serving.proofs.Submitted.{asked_is_last}
use Rattle.serving.proofs.Ripening.{node_asked, none_ripe_held, none_ripe_same}
use Rattle.serving.proofs.Ending.{asked_never_refused, ends_asked, ends_before}
use Rattle.serving.proofs.MovesOut.{never_before, passes_answer}
use Rattle.serving.proofs.Passing.{passes_none}
use Rattle.serving.proofs.Breaking.{on_err}
use Rattle.serving.specs.Ending.{IsAsked}
use Rattle.std.proofs.lemmas.Result.{err_from_is_err_and}
use Rattle.serving.proofs.server.Server.answer.Goals as goal

pub returns-in_err-hold-clause-serves : goal.returns-in_err-hold-clause-serves
returns-in_err-hold-clause-serves g c =
    clients_quiet g.S.Stable g.D.Desk.tape g.D.Desk.Tells _ _ c.args.desk.now
    (serves_dropping g.S.Stable (server_of c.args.self.now) (record (server_of c.args.self.now) { waiting = c.hold.new.self }) c.args.question refl c.in_err-hold.ensures.err refl)

pub returns-then-position-question-clause-serves : goal.returns-then-position-question-clause-serves
returns-then-position-question-clause-serves g c =
    clients_quiet g.S.Stable g.D.Desk.tape g.D.Desk.Tells _ _ c.args.desk.now
    (subst (λ (w : WaitingState). Serves g.S.Stable (asking (server_of c.args.self.now) c.args.question) [] [] (record (server_of c.args.self.now) { waiting = w })) (sym c.in_ok-hold.ensures.added)
    (serves_holding_back g.S.Stable (server_of c.args.self.now) c.args.question))

pub returns-in_err-fault-clause-serves : goal.returns-in_err-fault-clause-serves
returns-in_err-fault-clause-serves g c =
    clients_quiet g.S.Stable g.D.Desk.tape g.D.Desk.Tells _ _ c.args.desk.now (serves_asked_only g.S.Stable (server_of c.args.self.now) (life_of c.ask.new.self) c.args.question c.ask.result c.ask.ensures)

pub returns-in-Some-clause-serves : goal.returns-in-Some-clause-serves
returns-in-Some-clause-serves g c =
    clients_quiet g.S.Stable g.D.Desk.tape g.D.Desk.Tells _ _ c.args.desk.now (serves_asked_only g.S.Stable (server_of c.args.self.now) (life_of c.ask.new.self) c.args.question c.ask.result c.ask.ensures)

pub returns-in_err-tell_answer-in-Some-last-clause-serves : goal.returns-in_err-tell_answer-in-Some-last-clause-serves
returns-in_err-tell_answer-in-Some-last-clause-serves g c =
    clients_answering g.S.Stable g.D.Desk.tape g.D.Desk.Tells (server_of c.args.self.now) (life_of c.ask.new.self) (life_of c.hand_out-told.new.self) c.args.question c.ask.result
    c.position.result c.deref.result.now c.in-Some-last.answered.now c.args.desk.now c.tell_answer.new.desk c.ask.ensures
    (subst (λ (o : Option NodeFault). IsRefusal c.ask.result (Ok o)) c.in_default.is c.in_ok-fault.ensures) c.hand_out-told.ensures.left
    (c.deref.ensures.value ∙ ap (λ (t : ToldLists). t.answers) c.hand_out-told.ensures.told)
    (λ front x pushed. last_is_pushed c.deref.result.now front x c.in-Some-last.answered.now (sym c.in-Some-last.ensures.value) pushed)
    c.position.ensures c.if-position-question.false c.tell_answer.ensures.only

pub returns-in-Some-last-clause-serves : goal.returns-in-Some-last-clause-serves
returns-in-Some-last-clause-serves g c =
    clients_answering g.S.Stable g.D.Desk.tape g.D.Desk.Tells (server_of c.args.self.now) (life_of c.ask.new.self) (life_of c.hand_out-told.new.self) c.args.question c.ask.result
    c.position.result c.deref.result.now c.in-Some-last.answered.now c.args.desk.now c.tell_answer.new.desk c.ask.ensures
    (subst (λ (o : Option NodeFault). IsRefusal c.ask.result (Ok o)) c.in_default.is c.in_ok-fault.ensures) c.hand_out-told.ensures.left
    (c.deref.ensures.value ∙ ap (λ (t : ToldLists). t.answers) c.hand_out-told.ensures.told)
    (λ front x pushed. last_is_pushed c.deref.result.now front x c.in-Some-last.answered.now (sym c.in-Some-last.ensures.value) pushed)
    c.position.ensures c.if-position-question.false c.tell_answer.ensures.only

pub returns-clause-serves : goal.returns-clause-serves
returns-clause-serves g c =
    clients_quiet g.S.Stable g.D.Desk.tape g.D.Desk.Tells _ _ c.args.desk.now
    (serves_silent g.S.Stable (server_of c.args.self.now) (life_of c.ask.new.self) (life_of c.hand_out-told.new.self) c.args.question c.ask.result c.ask.ensures c.hand_out-told.ensures.left)

pub returns-in-Some-last-clause-node : goal.returns-in-Some-last-clause-node
returns-in-Some-last-clause-node g c =
    node_asked g.S.Stable (life_of c.args.self.now.life) (life_of c.ask.new.self) (life_of c.hand_out-told.new.self) c.args.question.query
    c.ask.result c.ask.ensures (subst (λ (o : Option NodeFault). IsRefusal c.ask.result (Ok o)) c.in_default.is c.in_ok-fault.ensures)
    c.hand_out-told.ensures.left

pub returns-clause-node : goal.returns-clause-node
returns-clause-node g c =
    node_asked g.S.Stable (life_of c.args.self.now.life) (life_of c.ask.new.self) (life_of c.hand_out-told.new.self) c.args.question.query
    c.ask.result c.ask.ensures (subst (λ (o : Option NodeFault). IsRefusal c.ask.result (Ok o)) c.in_default.is c.in_ok-fault.ensures)
    c.hand_out-told.ensures.left

pub returns-then-position-question-clause-ripe : goal.returns-then-position-question-clause-ripe
returns-then-position-question-clause-ripe g c =
    none_ripe_held (life_of c.args.self.now.life).node c.position.result c.args.question c.args.self.now.waiting.questions
    c.hold.new.self.questions c.position.ensures c.if-position-question.true (ap (λ (w : WaitingState). w.questions) c.in_ok-hold.ensures.added)

pub returns-in-Some-last-clause-ripe : goal.returns-in-Some-last-clause-ripe
returns-in-Some-last-clause-ripe g c =
    none_ripe_same (life_of c.args.self.now.life).node (life_of c.hand_out-told.new.self).node c.args.self.now.waiting.questions
    c.args.self.now.waiting.questions
    (node_asked g.S.Stable (life_of c.args.self.now.life) (life_of c.ask.new.self) (life_of c.hand_out-told.new.self) c.args.question.query
    c.ask.result c.ask.ensures (subst (λ (o : Option NodeFault). IsRefusal c.ask.result (Ok o)) c.in_default.is c.in_ok-fault.ensures)
    c.hand_out-told.ensures.left) refl

pub returns-clause-ripe : goal.returns-clause-ripe
returns-clause-ripe g c =
    none_ripe_same (life_of c.args.self.now.life).node (life_of c.hand_out-told.new.self).node c.args.self.now.waiting.questions
    c.args.self.now.waiting.questions
    (node_asked g.S.Stable (life_of c.args.self.now.life) (life_of c.ask.new.self) (life_of c.hand_out-told.new.self) c.args.question.query
    c.ask.result c.ask.ensures (subst (λ (o : Option NodeFault). IsRefusal c.ask.result (Ok o)) c.in_default.is c.in_ok-fault.ensures)
    c.hand_out-told.ensures.left) refl

pub returns-then-position-question-clause-answers : goal.returns-then-position-question-clause-answers
returns-then-position-question-clause-answers g c = λ position at behind.
    absurd (never_before (life_of c.args.self.now.life).node c.position.result position c.args.question.from c.position.ensures at
    c.if-position-question.true behind)

pub returns-in-Some-last-clause-answers : goal.returns-in-Some-last-clause-answers
returns-in-Some-last-clause-answers g c = λ position at behind. (
  refl,
  passes_answer g.S.Stable g.D.Desk.tape g.D.Desk.Tells (life_of c.args.self.now.life) (life_of c.ask.new.self)
      (life_of c.hand_out-told.new.self) c.args.question c.ask.result c.deref.result.now c.in-Some-last.answered.now c.args.desk.now
      c.tell_answer.new.desk c.ask.ensures
      (subst (λ (o : Option NodeFault). IsRefusal c.ask.result (Ok o)) c.in_default.is c.in_ok-fault.ensures) c.hand_out-told.ensures.left
      (c.deref.ensures.value ∙ ap (λ (t : ToldLists). t.answers) c.hand_out-told.ensures.told)
      (λ front x pushed. last_is_pushed c.deref.result.now front x c.in-Some-last.answered.now (sym c.in-Some-last.ensures.value) pushed)
      c.in_ok-tell_answer-in-Some-last.ensures.once,
)

pub returns-clause-answers : goal.returns-clause-answers
returns-clause-answers g c =
    absurd (asked_is_last g.S.Stable (life_of c.args.self.now.life) (life_of c.ask.new.self) c.args.question.query c.ask.result
    c.deref.result.now c.ask.ensures
    (subst (λ (o : Option NodeFault). IsRefusal c.ask.result (Ok o)) c.in_default.is c.in_ok-fault.ensures)
    (c.deref.ensures.value ∙ ap (λ (t : ToldLists). t.answers) c.hand_out-told.ensures.told) (sym c.in-None.ensures.value))

pub returns-then-position-question-clause-holds_back : goal.returns-then-position-question-clause-holds_back
returns-then-position-question-clause-holds_back g c = λ position at before. (refl, refl, (refl, c.in_ok-hold.ensures.added))

pub returns-in_err-fault-clause-holds_back : goal.returns-in_err-fault-clause-holds_back
returns-in_err-fault-clause-holds_back g c = λ position at before.
    absurd (never_before (life_of c.args.self.now.life).node position c.position.result c.args.question.from at
    c.position.ensures before c.if-position-question.false)

pub returns-in-Some-clause-holds_back : goal.returns-in-Some-clause-holds_back
returns-in-Some-clause-holds_back g c = λ position at before.
    absurd (never_before (life_of c.args.self.now.life).node position c.position.result c.args.question.from at
    c.position.ensures before c.if-position-question.false)

pub returns-in_err-tell_answer-in-Some-last-clause-holds_back : goal.returns-in_err-tell_answer-in-Some-last-clause-holds_back
returns-in_err-tell_answer-in-Some-last-clause-holds_back g c = λ position at before.
    absurd (never_before (life_of c.args.self.now.life).node position c.position.result c.args.question.from at
    c.position.ensures before c.if-position-question.false)

pub returns-in-Some-last-clause-holds_back : goal.returns-in-Some-last-clause-holds_back
returns-in-Some-last-clause-holds_back g c = λ position at before.
    absurd (never_before (life_of c.args.self.now.life).node position c.position.result c.args.question.from at
    c.position.ensures before c.if-position-question.false)

pub returns-clause-holds_back : goal.returns-clause-holds_back
returns-clause-holds_back g c = λ position at before.
    absurd (never_before (life_of c.args.self.now.life).node position c.position.result c.args.question.from at
    c.position.ensures before c.if-position-question.false)

pub returns-in-Some-clause-ends : goal.returns-in-Some-clause-ends
returns-in-Some-clause-ends g c =
    absurd (asked_never_refused g.S.Stable (life_of c.args.self.now.life) (life_of c.ask.new.self) c.args.question.query c.ask.result
    c.in-Some.fault c.ask.ensures (subst (λ (o : Option NodeFault). IsRefusal c.ask.result (Ok o)) c.in-Some.is c.in_ok-fault.ensures))

pub returns-in_err-hold-clause-breaks : goal.returns-in_err-hold-clause-breaks
returns-in_err-hold-clause-breaks g c =
    on_err _ (
    passes_none g.D.Desk.tape g.D.Desk.Tells c.args.desk.now)

pub returns-in_err-fault-clause-breaks : goal.returns-in_err-fault-clause-breaks
returns-in_err-fault-clause-breaks g c =
    on_err _ (
    passes_none g.D.Desk.tape g.D.Desk.Tells c.args.desk.now)

pub returns-in-Some-clause-breaks : goal.returns-in-Some-clause-breaks
returns-in-Some-clause-breaks g c = passes_none g.D.Desk.tape g.D.Desk.Tells c.args.desk.now

pub returns-in_err-tell_answer-in-Some-last-clause-breaks : goal.returns-in_err-tell_answer-in-Some-last-clause-breaks
returns-in_err-tell_answer-in-Some-last-clause-breaks g c =
    on_err _ (
    c.in_err-tell_answer-in-Some-last.ensures.breaks)

pub returns-in_err-hold-clause-stops : goal.returns-in_err-hold-clause-stops
returns-in_err-hold-clause-stops g c =
    let p = err_from_is_err_and c.from_residual.result c.from_residual.ensures.1 in
    rw p.1 (ends_before g.S.Stable IsAsked _ _ p.0 p.2 refl)

pub returns-in_err-fault-clause-stops : goal.returns-in_err-fault-clause-stops
returns-in_err-fault-clause-stops g c =
    let p = err_from_is_err_and c.from_residual-in_err-fault.result c.from_residual-in_err-fault.ensures.1 in
    rw (p.1, p.2) (ends_asked g.S.Stable (life_of c.args.self.now.life) (life_of c.ask.new.self) c.args.question.query c.ask.result _
    c.ask.ensures c.in_err-fault.ensures)

pub returns-in-Some-clause-stops : goal.returns-in-Some-clause-stops
returns-in-Some-clause-stops g c =
    absurd (asked_never_refused g.S.Stable (life_of c.args.self.now.life) (life_of c.ask.new.self) c.args.question.query c.ask.result
    c.in-Some.fault c.ask.ensures (subst (λ (o : Option NodeFault). IsRefusal c.ask.result (Ok o)) c.in-Some.is c.in_ok-fault.ensures))

pub returns-in_err-tell_answer-in-Some-last-clause-stops : goal.returns-in_err-tell_answer-in-Some-last-clause-stops
returns-in_err-tell_answer-in-Some-last-clause-stops g c =
    let p = err_from_is_err_and c.from_residual-in_err-tell_answer-in-Some-last.result c.from_residual-in_err-tell_answer-in-Some-last.ensures.1 in
    rw (p.1, p.2) (ends_before g.S.Stable IsAsked _ _ _ c.in_err-tell_answer-in-Some-last.ensures.memory
    (node_asked g.S.Stable (life_of c.args.self.now.life) (life_of c.ask.new.self) (life_of c.hand_out-told.new.self) c.args.question.query
    c.ask.result c.ask.ensures (subst (λ (o : Option NodeFault). IsRefusal c.ask.result (Ok o)) c.in_default.is c.in_ok-fault.ensures)
    c.hand_out-told.ensures.left))
