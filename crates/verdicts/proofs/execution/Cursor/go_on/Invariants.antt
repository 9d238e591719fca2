use Rattle.std.proofs.Common.{◌≤◌, ◌-◌}
use Rattle.verdicts.specs.Execution.{IsAt}
use Rattle.verdicts.proofs.execution.Cursor.go_on.Given as goal

abbrev pub invariant-loop-self : goal.invariant-loop-self
invariant-loop-self l = record {
  at : IsAt l.commands l.self;
  order : l.self.position ≤ l.position;
}

abbrev pub decreases-loop-self : goal.decreases-loop-self
decreases-loop-self l = l.position - l.self.position
