use Rattle.std.proofs.Common.{◌≡◌, length}
use Rattle.json.specs.Json as json
use Rattle.json.specs.Find.{BeginsWith, InItems}
use Rattle.mfjson.specs.Datetime.{IsDateText}
use Rattle.mfjson.specs.Document.{SaysInstant}
use Rattle.mfjson.specs.Tokens.{ItemsAreRead, TokensSay}
use Rattle.mfjson.proofs.tokens.each_instant_in.Given as goal

-- so many elements were read, and the others are to come; the day is known
abbrev pub invariant-loop-item : goal.invariant-loop-item
invariant-loop-item l = IsDateText l.last.date l.last.day × ((j : json.Json) → BeginsWith l.fn.list j → (all : json.Items) × (j ≡ json.array all)
    × (rest : json.Items) × InItems l.items rest × ItemsAreRead (λ item t. TokensSay 0 SaysInstant item t) all l.instants.items rest)

abbrev pub decreases-loop-item : goal.decreases-loop-item
decreases-loop-item l = length l.items
