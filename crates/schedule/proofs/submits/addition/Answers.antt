use Rattle.std.proofs.Common.{rules, ◌≡◌, ◌∷◌, [], refl, subst, sym}
use Rattle.schedule.specs.Rows.{IsFaultAt}
use Rattle.schedule.specs.Table.{operation_places}
use Rattle.schedule.specs.declared.fault.ScheduleFault.TheVariants.{WordForm}
use Rattle.schedule.specs.declared.keyword.Operation.TheVariants.{Append}
use Rattle.schedule.proofs.submits.addition.Goals as goal

-- there are as many words as there have to be, and one of them is of another form
pub returns-in-None : goal.returns-in-None
returns-in-None c = λ n.
    let words_are : c.args.words ≡ c.in_ok-name.name.now ∷ c.in_ok-datetime.datetime.now ∷ c.in_ok-across.across.now
    ∷ c.in_ok-across.along.now ∷ [] = search rules in
    subst (λ words. IsFaultAt n (operation_places Append) words WordForm) (sym words_are) (refl, c.in-None.ensures n)

pub returns-in-Some : goal.returns-in-Some
returns-in-Some c = rw (c.in_ok-name.ensures, c.in_ok-datetime.ensures, c.in_ok-across.ensures) c.in-Some.ensures
