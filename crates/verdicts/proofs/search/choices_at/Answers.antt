use Rattle.std.proofs.Common.{ℕ, List, subst}
use Rattle.verdicts.specs.Search.{IsOperation, StandsBehind}
use Rattle.verdicts.proofs.PairLemmas.{all_reverse, contains_reverse, kept_last}
use Rattle.verdicts.proofs.search.choices_at.Goals as goal

pub returns-clause-operations : goal.returns-clause-operations
returns-clause-operations c =
    let was = c.in_ok-add_operations.ensures.operations in
    let places : List ℕ = c.add_operations.new.places.items in
    rw c.reverse.ensures.items (record {
      each = all_reverse (IsOperation c.args.requests.now c.args.client c.args.number) places was.each;
      whole = λ r there is.
          let h = was.whole r there is in
          record { place = h.place; listed = contains_reverse places h.place h.listed; there = h.there };
    })

pub returns-clause-likeliest : goal.returns-clause-likeliest
returns-clause-likeliest c = λ fewer.
    let (place, stands, is) = c.in_ok-places.ensures.likeliest (rw c.count_of-before.ensures fewer) in (
      place,
      subst (λ (n : ℕ). StandsBehind c.args.requests.now c.args.client c.args.number n place) c.count_of-before.ensures stands,
      rw c.reverse.ensures.items
          (kept_last c.in_ok-places.places.items c.add_operations.new.places.items place is c.in_ok-add_operations.ensures.keeps),
    )
