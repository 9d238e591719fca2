use Rattle.std.proofs.Common.{◌≡◌, ◌≤◌, length, All, Contains, take}
use Rattle.sessions.specs.declared.submission.Submission.{Submission}
use Rattle.verdicts.specs.RequestIndex.{IsOf}
use Rattle.verdicts.specs.Search.{AreUnlike, IsListed, IsOperation}
use Rattle.verdicts.proofs.search.add_operations.Given as goal

-- the places of those among the requests so far
abbrev pub invariant-loop-place : goal.invariant-loop-place
invariant-loop-place l = record {
  each : All (IsOperation l.requests l.client l.number) l.places.items;
  unlike : AreUnlike l.requests l.places.items;
  grows : length l.initial.places.items ≤ length l.places.items;
  keeps : take (length l.initial.places.items) l.places.items ≡ l.initial.places.items;
  whole : (r : Submission) → Contains (take l.place l.requests) r → IsOf l.client l.number r → IsListed l.requests l.places.items r;
}
