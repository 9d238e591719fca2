use Rattle.std.proofs.Common.{take}
use Rattle.verdicts.specs.Search.{IsUnlisted}
use Rattle.verdicts.proofs.search.is_listed.Given as goal

-- none of the places so far has the request
abbrev pub invariant-loop-place : goal.invariant-loop-place
invariant-loop-place l = IsUnlisted l.requests (take l.place-index l.places) l.request
