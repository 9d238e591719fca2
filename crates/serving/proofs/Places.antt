-- The first element of a list that has a property, by its place.
use Rattle.std.proofs.Common.{arith, sym, subst, ℕ, ◌<◌, ◌≤◌, List, length, take, All}
use Rattle.std.specs.List.{AllWithin}
use Rattle.std.proofs.lemmas.List.{get_or-take, length-take-le}

-- what no element before the place has, none of those elements has
pub All-take_within : {X : Type 0} (P : X → Type 0) (xs : List X) (place : ℕ) → place ≤ length xs
    → AllWithin P xs 0 place → All P (take place xs)
All-take_within P xs place in_range within k d below =
    let nearer : k < place = omega (arith, length-take-le place xs in_range, below) in
    subst P (sym (get_or-take place xs k d nearer)) (within k d (omega arith) nearer)
