use Rattle.std.proofs.Common.{rules, tests, ◌≡◌, ◌∙◌, sym, Option, Some, None, is_some, true, false, refl}
use Rattle.std.proofs.lemmas.Iterator.{YieldsList-from_slice}
use Rattle.std.proofs.lemmas.Iterator.Search.{any_from_yields_List}
use Rattle.learner.specs.Tallies.{told_in, has_voter}
use Rattle.learner.proofs.TallyLemmas.{told_any}
use Rattle.learner.proofs.tallies.Tallies.has_heard.Goals as goal

-- the test is that of a tally, so it says whether the node has told something
is_told : (c : goal.After-any) → is_some (told_in c.args.self.now.tallies.items c.args.ballot c.args.from) ≡ c.any.result
is_told c =
    let some = any_from_yields_List (has_voter c.args.ballot c.args.from) _ _ _ c.any.ensures.ran
    (YieldsList-from_slice c.args.self.now.tallies.items cc) (λ x b q k. search (rules, tests)) in
    sym (told_any c.args.self.now.tallies.items c.args.ballot c.args.from) ∙ sym some

is_none : {X : Type 0} (o : Option X) → is_some o ≡ false → o ≡ None
is_none None e = refl
is_none (Some x) e = absurd (let bad : true ≡ false = e in cc)

pub returns-clause-yes : goal.returns-clause-yes
returns-clause-yes c = λ e. is_told c ∙ e

pub returns-clause-no : goal.returns-clause-no
returns-clause-no c = λ e. is_none _ (is_told c ∙ e)
