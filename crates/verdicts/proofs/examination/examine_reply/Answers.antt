use Rattle.std.proofs.Common.{◌≡◌, List, length, sym, ◌∙◌, subst}
use Rattle.sessions.specs.declared.command.Command.{Command}
use Rattle.verdicts.specs.Explaining.{HasReply}
use Rattle.verdicts.proofs.FindingLemmas.{reply_there, same_list}
use Rattle.verdicts.proofs.examination.examine_reply.Goals as goal

pub returns-then-contains : goal.returns-then-contains
returns-then-contains c = λ questions l begins.
    reply_there c.args.size c.args.commands.now l begins c.args.client c.args.number c.args.code
    ((c.requires.replies.each c.args.client c.args.number c.args.code).0 (sym c.contains.ensures ∙ c.if-contains.true))

pub returns-then-commands-size : goal.returns-then-commands-size
returns-then-commands-size c = λ questions l begins h.
    let full : length c.args.commands.now ≡ c.args.size = c.if-commands-size.true in
    let there : HasReply c.args.commands.now c.args.client c.args.number c.args.code =
    subst (λ (k : List Command). HasReply k c.args.client c.args.number c.args.code)
    (same_list c.args.size c.args.commands.now l begins full) h in
    let found = (c.requires.replies.each c.args.client c.args.number c.args.code).1 there in
    let none = sym c.contains.ensures ∙ c.if-contains.false in
    cc (found, none)
