use Rattle.std.proofs.Common.{◌≡◌, ◌++◌, drop}
use Rattle.wire.specs.Parts.{joined}
use Rattle.node.proofs.fetch.Fetching.text.Given as goal

-- what is still to be joined leads to what the whole leads to
abbrev pub invariant-loop-part : goal.invariant-loop-part
invariant-loop-part l = l.text.items ++ joined (drop l.part-index l.part-items) ≡ joined l.self.held.items
