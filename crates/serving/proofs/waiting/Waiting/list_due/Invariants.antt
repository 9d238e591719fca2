use Rattle.std.proofs.Common.{◌≡◌, ◌++◌, map, take}
use Rattle.serving.specs.Waitings.{receiver_of}
use Rattle.serving.proofs.waiting.Waiting.list_due.Given as goal

abbrev pub invariant-due : goal.invariant-due
invariant-due l = l.lines.items ≡ l.initial.lines.items ++ map receiver_of (take l.place l.self.due)
