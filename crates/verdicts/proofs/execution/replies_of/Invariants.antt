use Rattle.std.proofs.Common.{take}
use Rattle.sessions.specs.Standing.{StandsFor}
use Rattle.verdicts.specs.Execution.{AreReplies}
use Rattle.verdicts.proofs.execution.replies_of.Given as goal

abbrev pub invariant-loop-command : goal.invariant-loop-command
invariant-loop-command l = record {
  stands : StandsFor l.machine (take l.command-index l.commands);
  replied : AreReplies (take l.command-index l.commands) l.replies;
}
