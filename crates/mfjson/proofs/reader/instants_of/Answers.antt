use Rattle.std.proofs.Common.{refl, arith}
use Rattle.std.proofs.lemmas.Grind.{common_steps}
use Rattle.serde_json.specs.View.{view}
use Rattle.mfjson.specs.Document.{SaysInstant}
use Rattle.mfjson.specs.Faults.{IsInstantText}
use Rattle.mfjson.proofs.Lists.{fails_first, read_more}
use Rattle.mfjson.proofs.reader.instants_of.Goals as goal

pub returns-in_default : goal.returns-in_default
returns-in_default c =
    let none : ¬ IsInstantText (view c.index-datetimes-i.result) = λ is. let gone = (c.in_default.ensures is.t).0 is.says in absurd (cc) in
    λ memory. (
      c.loop-i.i,
      refl,
      fails_first SaysInstant IsInstantText view c.args.datetimes.now c.loop-i.instants.items c.loop-i.i _
          (λ e t says. record { t = t; says = says }) (omega arith) c.loop-i.invariant c.index-datetimes-i.is none,
    )

pub loop-i-preserved : goal.loop-i-preserved
loop-i-preserved c =
    let says = (c.in-Some.ensures c.in-Some.instant).1 refl in
    rw c.in_ok-push.ensures.items (read_more SaysInstant view c.args.datetimes.now c.loop-i.instants.items c.loop-i.i _ _ (omega arith)
    c.loop-i.invariant c.index-datetimes-i.is says)

pub returns : goal.returns
returns c = grind (arith, common_steps)
