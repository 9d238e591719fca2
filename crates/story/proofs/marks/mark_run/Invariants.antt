use Rattle.std.proofs.Common.{map, take}
use Rattle.story.specs.Marking.{AreMarked, marking}
use Rattle.story.proofs.marks.mark_run.Given as goal

-- the entries so far have their marks
abbrev pub invariant-loop-index : goal.invariant-loop-index
invariant-loop-index l = AreMarked l.ledger (take l.index l.entries.items) l.marker.step (map marking l.marker.marks.items)
