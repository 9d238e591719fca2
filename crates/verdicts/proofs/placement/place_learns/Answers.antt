use Rattle.std.proofs.Common.{◌≡◌, [], List, Option, None, length, take, vec_len, sym, ap, subst, ◌∙◌, rules}
use Rattle.std.proofs.lemmas.List.{take_all}
use Rattle.std.proofs.lemmas.Option.{slice_get-get_or}
use Rattle.verdicts.specs.Placement.{AreNames}
use Rattle.verdicts.specs.declared.lines.Name.{Name}
use Rattle.verdicts.proofs.PossibleLemmas.{length_of, none_named, some_possible, possible_list, possible_learnt}
use Rattle.verdicts.proofs.PlaceLemmas.{names_more}
use Rattle.verdicts.proofs.placement.place_learns.Goals as goal

pub loop-learn-init : goal.loop-learn-init
loop-learn-init c = record {
  count = ap (λ (l : List (Option Name)). length l) c.in_ok-names.ensures ∙ length_of c.args.size None;
  named = λ requests indexed. subst (AreNames requests c.args.size []) (sym c.in_ok-names.ensures) (none_named requests c.args.size);
}

pub returns-in-Some : goal.returns-in-Some
returns-in-Some c = λ requests indexed.
    let was = c.loop-learn.invariant.named requests indexed in
    let size : vec_len c.loop-learn.names ≡ c.args.size = search rules in
    let some = some_possible requests c.loop-learn.names.items was.submitted in
    let ends = rw c.in-Some.is at (c.place.ensures.placed requests (take c.loop-learn.learn-index c.args.learns.now) indexed (rw size was)) in
    record {
      before = c.loop-learn.learn-index;
      line = _;
      there = slice_get-get_or c.args.learns.now c.loop-learn.learn-index _ c.loop-learn-test.true;
      list = some.0;
      is_list = possible_list requests c.args.size (take c.loop-learn.learn-index c.args.learns.now) c.loop-learn.names.items was some.0 some.1;
      learnt = possible_learnt requests c.args.size (take c.loop-learn.learn-index c.args.learns.now) c.loop-learn.names.items was some.0 some.1;
      ends = rw size at ends;
    }

pub loop-learn-preserved : goal.loop-learn-preserved
loop-learn-preserved c = record {
  count = c.place.ensures.count ∙ c.loop-learn.invariant.count;
  named = λ requests indexed.
      let was = c.loop-learn.invariant.named requests indexed in
      let size : vec_len c.loop-learn.names ≡ c.args.size = search rules in
      let placed = rw c.in_default.is at
      (c.place.ensures.placed requests (take c.loop-learn.learn-index c.args.learns.now) indexed (rw size was)) in
      names_more requests c.args.size c.args.learns.now c.loop-learn.learn-index _ c.place.new.names.items c.loop-learn-test.true
      (rw size at placed);
}

pub returns : goal.returns
returns c = λ requests indexed.
    let all = take_all c.loop-learn.learn-index c.args.learns.now c.loop-learn-test.false in
    rw all at (c.loop-learn.invariant.named requests indexed)
