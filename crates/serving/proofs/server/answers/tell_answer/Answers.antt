use Rattle.std.proofs.Common.{ℕ, List, [], ◌∷◌, ap, refl, ◌∙◌}
use Rattle.clients.specs.AnswerLines.{text_line}
use Rattle.serving.specs.Outgoing.{IsTextTo}
use Rattle.serving.specs.Tapes.{Told, told_in}
use Rattle.serving.proofs.Passing.{only_none, only_none_by, only_one_as, passes_as}
use Rattle.serving.proofs.Passing.{passes_none}
use Rattle.serving.proofs.Breaking.{on_err}
use Rattle.serving.proofs.server.answers.tell_answer.Goals as goal

pub returns-in_err-line-clause-only : goal.returns-in_err-line-clause-only
returns-in_err-line-clause-only g c =
    only_none g.D.Desk.tape g.D.Desk.Tells (IsTextTo c.args.connection c.args.answered.now) c.args.desk.now

pub returns-in_err-tell-clause-only : goal.returns-in_err-tell-clause-only
returns-in_err-tell-clause-only g c =
    only_none_by g.D.Desk.tape g.D.Desk.Tells (IsTextTo c.args.connection c.args.answered.now) c.args.desk.now c.tell.new.self
    (told_in c.args.connection c.as_slice.result.now c.tell.result) (ap (told_in c.args.connection c.as_slice.result.now) c.in_err-tell.was)
    c.tell.ensures.tape c.tell.ensures.told

pub returns-clause-only : goal.returns-clause-only
returns-clause-only g c =
    only_one_as g.D.Desk.tape g.D.Desk.Tells (IsTextTo c.args.connection c.args.answered.now) c.args.desk.now c.tell.new.self
    (told_in c.args.connection c.as_slice.result.now c.tell.result) (Told c.args.connection c.as_slice.result.now)
    (ap (told_in c.args.connection c.as_slice.result.now) c.in_ok-tell.was) c.tell.ensures.tape
    c.tell.ensures.told (
      refl,
      c.as_slice.ensures.value ∙ c.in_ok-line.ensures
          ∙ ap (λ (b : List ℕ). text_line c.args.answered.now.position b) c.as_bytes.ensures,
    )

pub returns-clause-once : goal.returns-clause-once
returns-clause-once g c =
    passes_as g.D.Desk.tape g.D.Desk.Tells c.args.desk.now c.tell.new.self
    (told_in c.args.connection c.as_slice.result.now c.tell.result)
    (Told c.args.connection (text_line c.args.answered.now.position c.args.answered.now.text) ∷ []) c.tell.ensures.tape
    c.tell.ensures.told
    (ap (told_in c.args.connection c.as_slice.result.now) c.in_ok-tell.was
    ∙ ap (λ (b : List ℕ). Told c.args.connection b ∷ [])
    (c.as_slice.ensures.value ∙ c.in_ok-line.ensures
    ∙ ap (λ (b : List ℕ). text_line c.args.answered.now.position b) c.as_bytes.ensures))

pub returns-in_err-line-clause-breaks : goal.returns-in_err-line-clause-breaks
returns-in_err-line-clause-breaks g c =
    on_err _ (
    passes_none g.D.Desk.tape g.D.Desk.Tells c.args.desk.now)

pub returns-in_err-tell-clause-breaks : goal.returns-in_err-tell-clause-breaks
returns-in_err-tell-clause-breaks g c =
    on_err _ (
    passes_as g.D.Desk.tape g.D.Desk.Tells c.args.desk.now c.tell.new.self (told_in c.args.connection c.as_slice.result.now c.tell.result) [] c.tell.ensures.tape
    c.tell.ensures.told (ap (told_in c.args.connection c.as_slice.result.now) c.in_err-tell.was))
