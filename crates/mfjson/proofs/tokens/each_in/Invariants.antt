use Rattle.std.proofs.Common.{◌≡◌, length, Some}
use Rattle.std.specs.Fn.{FnReturnsAt}
use Rattle.json.specs.Json as json
use Rattle.json.specs.Find.{BeginsWith, InItems}
use Rattle.mfjson.specs.Tokens.{ItemsAreRead}
use Rattle.mfjson.proofs.tokens.each_in.Given as goal

-- so many elements were read, and the others are to come
abbrev pub invariant-loop-item : goal.invariant-loop-item
invariant-loop-item g l = (j : json.Json) → BeginsWith l.fn.list j → (all : json.Items) × (j ≡ json.array all)
    × (rest : json.Items) × InItems l.items rest × ItemsAreRead (λ item x. FnReturnsAt g.F.Fn l.read item (Some x)) all l.values.items rest

abbrev pub decreases-loop-item : goal.decreases-loop-item
decreases-loop-item g l = length l.items
