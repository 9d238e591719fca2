-- Keys that compare equal are the same.
use Rattle.std.proofs.Common.{◌≡◌, ℕ, true, refl, sym, ap, ◌∙◌}
use Rattle.std.specs.BTreeMap.{is_at}
use Rattle.std.specs.Cmp.{Equal-is, nat_cmp_is}
use Rattle.std.specs.Ordering.{nat_cmp, ordering_then}
use Rattle.std.specs.declared.cmp.Ordering.{Ordering}
use Rattle.std.specs.declared.cmp.Ordering.TheVariants.{Equal}
use Rattle.std.proofs.lemmas.Map.Lookups.{exact_pairs, exact_unsigned}
use Rattle.verdicts.specs.RequestIndex.{key_cmp, reply_cmp}

number_self : (n : ℕ) → nat_cmp n n ≡ Equal
number_self n = sym (nat_cmp_is n n Equal refl)

key_equal : (k : ℕ × ℕ) → key_cmp k k ≡ Equal
key_equal k = ap (λ (o : Ordering). ordering_then o (nat_cmp k.1 k.1)) (number_self k.0) ∙ number_self k.1

pub key_self : (k : ℕ × ℕ) → is_at (key_cmp k) k ≡ true
key_self k = (Equal-is (key_cmp k k)).1 (key_equal k)

pub key_same : (k q : ℕ × ℕ) → is_at (key_cmp k) q ≡ true → k ≡ q
key_same k q e = exact_pairs nat_cmp nat_cmp exact_unsigned exact_unsigned k q ((Equal-is (key_cmp k q)).0 e)

pub reply_self : (k : (ℕ × ℕ) × ℕ) → is_at (reply_cmp k) k ≡ true
reply_self k =
    let e : reply_cmp k k ≡ Equal = ap (λ (o : Ordering). ordering_then o (nat_cmp k.1 k.1)) (key_equal k.0) ∙ number_self k.1 in
    (Equal-is (reply_cmp k k)).1 e

pub reply_same : (k q : (ℕ × ℕ) × ℕ) → is_at (reply_cmp k) q ≡ true → k ≡ q
reply_same k q e =
    exact_pairs key_cmp nat_cmp (exact_pairs nat_cmp nat_cmp exact_unsigned exact_unsigned) exact_unsigned k q
    ((Equal-is (reply_cmp k q)).0 e)
