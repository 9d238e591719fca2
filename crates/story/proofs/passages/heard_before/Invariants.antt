use Rattle.std.proofs.Common.{IfSome}
use Rattle.story.specs.Passing.{HearsIn}
use Rattle.story.proofs.passages.heard_before.Given as goal

-- what was heard came before
abbrev pub invariant-loop-before : goal.invariant-loop-before
invariant-loop-before l = IfSome l.heard (HearsIn l.frames l.first l.passages l.number)
