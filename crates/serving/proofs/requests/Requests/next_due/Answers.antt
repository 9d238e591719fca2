-- The request at the place of the first that is due is handed on.
use Rattle.std.proofs.Common.{rules, tests, arith, ◌≡◌, sym, subst, ap, ◌∙◌, ℕ, ◌<◌, List, Some, ◌∷◌, ◌++◌, length, get_or, slice_set, take, drop, suc}
use Rattle.std.specs.List.{AllWithin, HoldsAt}
use Rattle.std.proofs.Math.Seq.{split_at}
use Rattle.std.proofs.lemmas.List.{length-take-le, set_split}
use Rattle.std.proofs.lemmas.Iterator.{IsFirst-from_position, YieldsList-from_slice}
use Rattle.serving.specs.Requesting.{RequestState, HandsOnFirst, IsDue}
use Rattle.serving.proofs.Places.{All-take_within}
use Rattle.serving.proofs.requests.Requests.next_due.Goals as goal

handed_on_first : (now place : ℕ) (xs : List RequestState) (request noted : RequestState) → place < length xs
    → request ≡ get_or xs place request → HoldsAt (IsDue now) xs place → AllWithin (λ r. ¬ IsDue now r) xs 0 place
    → noted ≡ record request { handed_on = Some now } → HandsOnFirst now place xs (slice_set xs place noted)
handed_on_first now place xs request noted within stands due waits is_noted = record {
  before = take place xs;
  request = request;
  after = drop (suc place) xs;
  was = subst (λ r. xs ≡ take place xs ++ r ∷ drop (suc place) xs) (sym stands) (split_at xs place request within);
  at_place = length-take-le place xs (omega arith);
  waits = All-take_within (λ r. ¬ IsDue now r) xs place (omega arith) waits;
  due = subst (IsDue now) (sym stands) (due request);
  is = set_split xs place noted within ∙ ap (λ r. take place xs ++ r ∷ drop (suc place) xs) is_noted;
}

pub returns-clause-handed_on : goal.returns-clause-handed_on
returns-clause-handed_on c =
    let now = c.args.now in
    let items = c.self.inside.requests.items in
    let found = IsFirst-from_position _ _ _ (IsDue now) (λ r. ¬ IsDue now r) c.position.ensures.ran
    (YieldsList-from_slice items cc) (λ x q k. search (rules, tests)) (λ x q k. search (rules, tests)) in
    let first = rw c.in_ok-place.was at found in
    rw (← c.self.view_is) (handed_on_first now c.in_ok-place.place items c.index_mut.result.now c.note_handed_on.new.self
    first.0 c.index_mut.ensures.value first.1 first.2 c.note_handed_on.ensures)
