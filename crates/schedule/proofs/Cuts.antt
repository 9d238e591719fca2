-- A list cut at the first element that passes a test.
use Rattle.std.proofs.Common.{◌≡◌, ℕ, ◌+◌, ◌-◌, ◌<◌, ◌≤◌, Bool, false, List, [], ◌∷◌, length, take, drop, Some, None, arith, cond, nat_lt}
use Rattle.std.specs.List.{slice_split, position, position_or_len}
use Rattle.std.specs.Option.{unwrap_or}
use Rattle.std.proofs.lemmas.List.Splits.{slice_split_first, slice_split_none}
use Rattle.std.proofs.lemmas.List.Elements.{All-from_get_or}
use Rattle.std.proofs.lemmas.List.Sums.{fails_before_first, prefix_len-le-length}
use Rattle.std.proofs.lemmas.Grind.{common_steps}
use Rattle.std.proofs.lemmas.Bool.Decides.{nat_tests}

-- the first piece ends where the first element passes
pub slice_split-at : {X : Type 0} (p : X → Bool) (xs : List X) (d : X) (i : ℕ) → i ≡ position_or_len p xs → i < length xs
    → slice_split p xs ≡ take i xs ∷ slice_split p (take (length xs - (i + 1)) (drop (i + 1) xs))
slice_split-at p xs d i first within =
    let rest : take (length xs - (i + 1)) (drop (i + 1) xs) ≡ drop (i + 1) xs = grind (arith, common_steps) in
    rw rest (rw first (slice_split_first p xs d (rw first at within)))

-- where none passes, all is one piece
pub slice_split-whole : {X : Type 0} (p : X → Bool) (xs : List X) (d : X) (i : ℕ) → i ≡ position_or_len p xs → length xs ≤ i
    → slice_split p xs ≡ xs ∷ []
slice_split-whole p xs d i end past =
    slice_split_none p xs (All-from_get_or (λ x. p x ≡ false) xs d (λ k h. fails_before_first p xs k d (omega arith)))

-- the place of the first element that passes, as one number
pub position_or_end : {X : Type 0} (p : X → Bool) (xs : List X) → unwrap_or (position p xs) (length xs) ≡ position_or_len p xs
position_or_end p xs = at_or_end (position_or_len p xs) (length xs) (prefix_len-le-length _ xs)
  where
    at_or_end : (i n : ℕ) → i ≤ n → unwrap_or (cond (nat_lt i n) (Some i) None) n ≡ i
    at_or_end i n le = grind (arith, nat_tests)
