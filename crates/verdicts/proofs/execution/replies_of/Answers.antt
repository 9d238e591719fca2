use Rattle.std.proofs.Common.{◌≡◌, ◌<◌, ◌+◌, ◌∷◌, ◌++◌, [], List, length, take, sym, ap, ◌∙◌, subst}
use Rattle.std.proofs.lemmas.List.{take_more}
use Rattle.sessions.specs.Standing.{StandsFor}
use Rattle.sessions.specs.declared.command.Command.{Command}
use Rattle.verdicts.specs.Execution.{AreReplies}
use Rattle.verdicts.proofs.ReplyLemmas.{request_replied, no_op_replied}
use Rattle.verdicts.proofs.execution.replies_of.Goals as goal
use Rattle.verdicts.proofs.execution.replies_of.Goals.{in-Request+in_ok-insert, in_default}

pub loop-command-preserved : goal.loop-command-preserved
loop-command-preserved c =
    let i = c.loop-command.command-index in
    let before : List Command = take i c.args.commands.now in
    let command : Command = c.command-item.result in
    let within : i < length c.args.commands.now = c.loop-command-test.true in
    let more : take (i + 1) c.args.commands.now ≡ before ++ command ∷ [] =
    take_more c.args.commands.now i command within ∙ ap (λ (d : Command). before ++ d ∷ []) (sym c.command-item.is) in
    let was = c.loop-command.invariant in
    let says = c.in_ok-told.ensures.replies.replies before was.stands in
    record {
      stands = subst (λ (l : List Command). StandsFor c.execute.new.self l) (sym more) (c.in_ok-told.ensures.stands.stands before was.stands);
      replied = elim c.match-command.branch [
        | in-Request+in_ok-insert w ↦
            subst (λ (l : List Command). AreReplies l c.match-command.replies) (sym more)
            (request_replied before command w.in-Request.request c.in_ok-told.told w.client.result w.value.result w.code.result
            c.loop-command.replies c.match-command.replies w.in-Request.is says w.client.ensures
            (w.value.ensures.value ∙ w.number.ensures) w.code.ensures was.replied
            (rw w.replies-is w.in_ok-insert.ensures.updates.0))
        | in_default w ↦
            subst (λ (l : List Command). AreReplies l c.match-command.replies) (sym more)
            (no_op_replied before command c.match-command.replies w.in_default.is (rw w.replies-is was.replied))
      ];
    }
