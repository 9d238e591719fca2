use Rattle.std.proofs.Common.{◌+◌}
use Rattle.verdicts.specs.Search.{HasTried, IsLeaving}
use Rattle.verdicts.proofs.search.try_choices.Given as goal

-- one choice was tried before the loop
abbrev pub invariant-loop-tried : goal.invariant-loop-tried
invariant-loop-tried l = record {
  leaving : IsLeaving l.requests l.names l.questions l.told l.search;
  has_tried : HasTried l.requests l.names l.questions l.told (l._tried + 1) l.search.commands.items l.search.untried.items;
}
