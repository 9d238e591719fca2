use Rattle.std.proofs.Common.{ℕ, List, take, subst}
use Rattle.sessions.specs.Standing.{StandsFor}
use Rattle.sessions.specs.declared.command.Command.{Command}
use Rattle.verdicts.proofs.FindingLemmas.{answered, not_answered, beginning_valid}
use Rattle.verdicts.proofs.examination.examine_answer.Goals as goal

pub returns-then-branch-clause-found : goal.returns-then-branch-clause-found
returns-then-branch-clause-found c =
    let part : List Command = take c.args.position c.args.commands.now in
    let stands : StandsFor c.go_to.new.self.machine part =
    subst (λ (n : ℕ). StandsFor c.go_to.new.self.machine (take n c.args.commands.now)) c.in_ok-go_to.ensures.position
    c.in_ok-go_to.ensures.at.stands in
    let valid = beginning_valid c.args.position c.args.commands.now c.requires.valid in
    answered c.args.questions.now c.args.size c.args.commands.now c.args.node c.args.position c.args.text.now c.if-commands-position.false
    c.requires.within ((c.in_ok-answers_one.ensures part stands valid).0 c.if-branch.true)

pub returns-clause-found : goal.returns-clause-found
returns-clause-found c =
    let part : List Command = take c.args.position c.args.commands.now in
    let stands : StandsFor c.go_to.new.self.machine part =
    subst (λ (n : ℕ). StandsFor c.go_to.new.self.machine (take n c.args.commands.now)) c.in_ok-go_to.ensures.position
    c.in_ok-go_to.ensures.at.stands in
    let valid = beginning_valid c.args.position c.args.commands.now c.requires.valid in
    not_answered c.args.questions.now c.args.size c.args.commands.now c.args.node c.args.position c.args.text.now c.if-commands-position.false
    c.requires.within
    (λ answers. (let found = (c.in_ok-answers_one.ensures part stands valid).1 answers in let none = c.if-branch.false in cc))
