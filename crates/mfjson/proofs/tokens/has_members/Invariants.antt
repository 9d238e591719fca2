use Rattle.std.proofs.Common.{◌≡◌, ◌+◌, length}
use Rattle.json.specs.Json as json
use Rattle.json.specs.Find.{BeginsWith, InMembers}
use Rattle.json.specs.Strict.{keys}
use Rattle.mfjson.proofs.tokens.has_members.Given as goal

abbrev pub invariant-loop : goal.invariant-loop
invariant-loop l = (j : json.Json) → BeginsWith l.fn.value j → (all : json.Members) × (j ≡ json.object all)
    × (rest : json.Members) × InMembers l.members rest × (length (keys all) ≡ l.counter + length (keys rest))
