use Rattle.std.proofs.Common.{subst, sym}
use Rattle.std.specs.Option.{option_copied}
use Rattle.std.proofs.lemmas.Result.{IfOk-weaker}
use Rattle.store.specs.Answers.{OfKnown, SaysCut}
use Rattle.store.proofs.CutLemmas.{cut_told}
use Rattle.store.proofs.answers.cut_text.Goals as goal

-- the feature is known and has a cut
pub returns-in-Some-2 : goal.returns-in-Some-2
returns-in-Some-2 c =
    IfOk-weaker c.part_text.result _ _ (λ text spelled.
    let told : SaysCut c.in-Some.feature.now.seq c.args.period.now text.items =
    cut_told c.in-Some.feature.now.seq c.args.period.now _ c.in-Some-2.part c.in_ok-part.ensures.cut
    c.in-Some-2.is text.items spelled in
    subst (λ found. OfKnown (option_copied found) (λ f. SaysCut f.seq c.args.period.now text.items) text.items) (sym c.in-Some.is) told)
    c.part_text.ensures
