use Rattle.std.proofs.Common.{◌≡◌, List, length, take}
use Rattle.sessions.specs.declared.submission.Submission.{Submission}
use Rattle.verdicts.specs.Placement.{AreNames}
use Rattle.verdicts.specs.RequestIndex.{IsIndexed}
use Rattle.verdicts.proofs.placement.place_learns.Given as goal

-- the names that the lines so far give the slots
abbrev pub invariant-loop-learn : goal.invariant-loop-learn
invariant-loop-learn l = record {
  count : length l.names.items ≡ l.size;
  named : (requests : List Submission) → IsIndexed requests l.index → AreNames requests l.size (take l.learn-index l.learns) l.names.items;
}
