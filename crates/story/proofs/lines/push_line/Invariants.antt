use Rattle.std.proofs.Common.{◌≡◌, ◌++◌, take}
use Rattle.story.specs.Lines.{in_one_line}
use Rattle.story.proofs.lines.push_line.Given as goal

-- the bytes so far are added
abbrev pub invariant-loop-byte : goal.invariant-loop-byte
invariant-loop-byte l = l.text.items ≡ l.initial.text.items ++ in_one_line (take l.byte-index l.line)
