-- The question at the place of the first that is held back no more is taken out.
use Rattle.std.proofs.Common.{rules, tests, arith, ◌≡◌, sym, subst, ℕ, ◌<◌, ◌≤◌, List, ◌∷◌, ◌++◌, length, get_or, take, drop, suc}
use Rattle.std.specs.List.{AllWithin, HoldsAt, remove}
use Rattle.std.proofs.Math.Seq.{split_at}
use Rattle.std.proofs.lemmas.Iterator.{IsFirst-from_position, YieldsList-from_slice}
use Rattle.serving.specs.declared.waiting.Question.{Question}
use Rattle.serving.specs.Waitings.{IsFirstRipe, IsHeldBack}
use Rattle.serving.proofs.Places.{All-take_within}
use Rattle.serving.proofs.waiting.Waiting.ripe.Goals as goal

ripe_first : (position place : ℕ) (xs ys : List Question) (question : Question) → place < length xs
    → question ≡ get_or xs place question → HoldsAt (λ q. q.from ≤ position) xs place → AllWithin (IsHeldBack position) xs 0 place
    → ys ≡ remove xs place → IsFirstRipe position xs ys question
ripe_first position place xs ys question within stands ripe held_back rest = record {
  before = take place xs;
  after = drop (suc place) xs;
  split = subst (λ q. xs ≡ take place xs ++ q ∷ drop (suc place) xs) (sym stands) (split_at xs place question within);
  held_back = All-take_within (IsHeldBack position) xs place (omega arith) held_back;
  ripe = subst (λ q. q.from ≤ position) (sym stands) (ripe question);
  rest = rest;
}

pub returns-clause-first : goal.returns-clause-first
returns-clause-first c =
    let position = c.args.position in
    let items = c.self.inside.questions.items in
    let found = IsFirst-from_position _ _ _ (λ q. q.from ≤ position) (IsHeldBack position) c.position.ensures.ran
    (YieldsList-from_slice items cc) (λ x q k. search (rules, tests)) (λ x q k. search (rules, tests)) in
    let first = rw c.in_ok-place.was at found in
    rw (← c.self.view_is) (ripe_first position c.in_ok-place.place items c.remove.new.self.items c.remove.result
    first.0 c.remove.ensures.value first.1 first.2 c.remove.ensures.items)
