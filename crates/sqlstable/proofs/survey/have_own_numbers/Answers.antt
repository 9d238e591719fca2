use Rattle.std.proofs.Common.{arith, ◌≡◌, ℤ, List, map, subst, sym}
use Rattle.std.specs.List.Sorted.{IsPermutation}
use Rattle.std.proofs.lemmas.Grind.{common_steps}
use Rattle.sqlite_value.specs.declared.value.Value.TheVariants.{Int}
use Rattle.sqlite_value.specs.Order.{Row, column}
use Rattle.sqlstable.proofs.FoundLemmas.{own_told}
use Rattle.sqlstable.proofs.survey.have_own_numbers.Goals as goal

pub returns : goal.returns
returns c rising =
    let told : map (λ (r : Row). column r 1) c.args.rows.now ≡ map Int c.loop-row.numbers.items = grind (arith, common_steps) in
    let sorted : IsPermutation c.loop-row.numbers.items c.as_slice.result.now =
    subst (λ (ns : List ℤ). IsPermutation c.loop-row.numbers.items ns) (sym c.as_slice.ensures.value) c.sort_unstable.ensures.permutation in
    own_told c.args.rows.now c.loop-row.numbers.items c.as_slice.result.now told sorted (c.rise.ensures rising)
