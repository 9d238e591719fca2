-- The horizon of keys, one key after another.
use Rattle.std.proofs.Common.{◌≡◌, ◌∙◌, ℕ, ◌<◌, ◌≤◌, ◌+◌, List, [], ◌∷◌, max, drop, get_or, length, ap, sym, arith}
use Rattle.std.proofs.lemmas.Bool.Decides.{nat_tests}
use Rattle.std.proofs.lemmas.Grind.{common_steps}
use Rattle.std.proofs.lemmas.List.{drop_more}
use Rattle.stable.specs.declared.key.Key.{Key}
use Rattle.mfpxd.specs.Records.{end_of, horizon_of}

max_assoc : (a b c : ℕ) → max (max a b) c ≡ max a (max b c)
max_assoc a b c = grind (arith, nat_tests)

-- what is left has its first key less, once that was seen
pub one_seen : (keys : List Key) (i seen sees whole : ℕ) (key : Key) → i < length keys → key ≡ get_or keys i key
    → sees ≡ max seen (end_of key) → max seen (horizon_of (drop i keys)) ≡ whole → max sees (horizon_of (drop (i + 1) keys)) ≡ whole
one_seen keys i seen sees whole key within is more before =
    let first : drop i keys ≡ key ∷ drop (i + 1) keys = drop_more keys i key within ∙ ap (λ k. k ∷ drop (i + 1) keys) (sym is) in
    rw more (max_assoc seen (end_of key) (horizon_of (drop (i + 1) keys)) ∙ (rw first at before))

-- nothing is left
pub all_seen : (keys : List Key) (i seen whole : ℕ) → length keys ≤ i → max seen (horizon_of (drop i keys)) ≡ whole → seen ≡ whole
all_seen keys i seen whole past before =
    let nothing : drop i keys ≡ [] = grind (arith, common_steps) in
    let end : max seen 0 ≡ whole = rw nothing at before in
    let same : seen ≡ max seen 0 = grind (arith, nat_tests) in
    same ∙ end
