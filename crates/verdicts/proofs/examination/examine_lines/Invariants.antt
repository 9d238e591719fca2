use Rattle.std.proofs.Common.{◌≡◌, List, All, take, true, false}
use Rattle.sessions.specs.declared.command.Command.{Command}
use Rattle.verdicts.specs.Execution.{IsAt}
use Rattle.verdicts.specs.Explaining.{HasTold}
use Rattle.verdicts.specs.Verdicts.{AreOpen, BeginsWith}
use Rattle.verdicts.specs.declared.lines.ToldLine.{ToldLine}
use Rattle.verdicts.proofs.examination.examine_lines.Given as goal

-- each list that begins with the commands explains the lines so far, or one of them rests on more commands
abbrev pub invariant-loop-at : goal.invariant-loop-at
invariant-loop-at l = record {
  at : IsAt l.commands l.cursor;
  explains : l.is_undecided ≡ false → (k : List Command) → BeginsWith l.size l.commands k
      → All (λ (line : ToldLine). HasTold l.questions k line.told) (take l.at l.told);
  rests : l.is_undecided ≡ true → AreOpen l.questions l.size l.told l.commands;
}
