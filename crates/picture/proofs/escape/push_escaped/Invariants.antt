use Rattle.std.proofs.Common.{◌≡◌, ◌++◌, take}
use Rattle.picture.specs.Escaped.{escaped}
use Rattle.picture.proofs.escape.push_escaped.Given as goal

-- the bytes so far are added
abbrev pub invariant-loop-byte : goal.invariant-loop-byte
invariant-loop-byte l = l.text.items ≡ l.initial.text.items ++ escaped (take l.byte-index l.bytes)
