use Rattle.std.proofs.Common.{refl, arith}
use Rattle.std.proofs.lemmas.Grind.{common_steps}
use Rattle.serde_json.specs.View.{view}
use Rattle.mfjson.specs.Faults.{IsPlaceValue, SaysCoordinates}
use Rattle.mfjson.proofs.Lists.{fails_first, read_more}
use Rattle.mfjson.proofs.reader.places_of.Goals as goal

pub returns-in_default : goal.returns-in_default
returns-in_default c = λ memory. (
  c.loop-i.i,
  refl,
  fails_first SaysCoordinates IsPlaceValue view c.args.coordinates.now c.loop-i.places.items c.loop-i.i _
      (λ e p says. record { p = p; says = says }) (omega arith) c.loop-i.invariant c.index-coordinates-i.is c.in_default.ensures,
)

pub loop-i-preserved : goal.loop-i-preserved
loop-i-preserved c =
    rw c.in_ok-push.ensures.items (read_more SaysCoordinates view c.args.coordinates.now c.loop-i.places.items c.loop-i.i _ _ (omega arith)
    c.loop-i.invariant c.index-coordinates-i.is c.in-Some.ensures)

pub returns : goal.returns
returns c = grind (arith, common_steps)
