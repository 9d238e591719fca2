use Rattle.verdicts.proofs.execution.Cursor.go_to.Goals as goal
use Rattle.verdicts.proofs.execution.Cursor.go_to.Goals.{then-position-self, else-position-self}

pub go_on-requires-clause-at : goal.go_on-requires-clause-at
go_on-requires-clause-at c = elim c.if-position-self.branch [
  | then-position-self w ↦ rw w.self-is (w.new.ensures.at c.args.commands.now)
  | else-position-self w ↦ rw w.self-is c.requires.at
]
