use Rattle.std.proofs.Common.{◌+◌, ℕ, List, count_by, take, refl, sym, ap, ◌∙◌, arith, rules}
use Rattle.std.proofs.lemmas.List.{length-take-le, take_all}
use Rattle.std.proofs.lemmas.List.Sums.{count_by-le-length, count_by_more_no, count_by_more_yes}
use Rattle.sessions.specs.declared.command.Command.{Command}
use Rattle.verdicts.specs.Search.{is_command_of}
use Rattle.verdicts.proofs.search.count_of.Goals as goal
use Rattle.verdicts.proofs.search.count_of.Goals.{then-is_command_of, else-is_command_of}

pub loop-command-init : goal.loop-command-init
loop-command-init c = refl

pub overflow_add-count : goal.overflow_add-count
overflow_add-count c =
    let at : ℕ = c.loop-command.command-index in
    let counted = c.loop-command.invariant in
    let few = count_by-le-length (is_command_of c.args.client c.args.number) (take at c.args.commands.now) in
    let within = c.loop-command-test.true in
    let size = length-take-le at c.args.commands.now (omega (arith, within)) in
    search rules

pub loop-command-preserved : goal.loop-command-preserved
loop-command-preserved c =
    let at : ℕ = c.loop-command.command-index in
    let is = c.is_command_of.ensures ∙ ap (is_command_of c.args.client c.args.number) c.command-item.is in
    let counted = c.loop-command.invariant in
    elim c.if-is_command_of.branch [
      | then-is_command_of w ↦
          let more = count_by_more_yes (is_command_of c.args.client c.args.number) c.args.commands.now at _ c.loop-command-test.true
          (sym is ∙ w.if-is_command_of.true) in
          w.count-is ∙ ap (λ (n : ℕ). n + 1) counted ∙ sym more
      | else-is_command_of w ↦
          let more = count_by_more_no (is_command_of c.args.client c.args.number) c.args.commands.now at _ c.loop-command-test.true
          (sym is ∙ w.if-is_command_of.false) in
          w.count-is ∙ counted ∙ sym more
    ]

pub returns : goal.returns
returns c =
    c.loop-command.invariant
    ∙ ap (λ (l : List Command). count_by (is_command_of c.args.client c.args.number) l)
    (take_all c.loop-command.command-index c.args.commands.now c.loop-command-test.false)
