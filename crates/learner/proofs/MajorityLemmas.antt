-- When so many nodes are a majority of those of whom something holds.
use Rattle.std.proofs.Common.{◌≡◌, ℕ, zero, suc, ◌+◌, ◌<◌, ◌≤◌, Bool, true, false, cond, arith, le_refl, refl}
use Rattle.synod.specs.Majorities.{counted, IsMajority, Majority}

-- one more node, by what the two tests say of it
counted_step : (m n : ℕ) (x y : Bool) → m ≤ n → (x ≡ true → y ≡ true) → cond x 1 0 + m ≤ cond y 1 0 + n
counted_step m n true true l f = omega (arith, l)
counted_step m n true false l f = absurd (let h : false ≡ true = f refl in cc)
counted_step m n false true l f = omega (arith, l)
counted_step m n false false l f = omega (arith, l)

-- a test that passes wherever another does passes as often
counted_le : (n : ℕ) (p q : ℕ → Bool) → ((a : ℕ) → a < n → p a ≡ true → q a ≡ true) → counted p n ≤ counted q n
counted_le zero p q f = le_refl _
counted_le (suc n) p q f =
    counted_step (counted p n) (counted q n) (p n) (q n) (counted_le n p q (λ a l e. f a (omega (arith, l)) e))
    (λ e. f n (omega arith) e)

-- the nodes of a test are a majority, and it holds of each
pub is_majority : {n : ℕ} {P : ℕ → Type 0} (p : ℕ → Bool) → ((a : ℕ) → a < n → p a ≡ true → P a)
    → IsMajority n (counted p n) → Majority n P
is_majority p f m = record { members = p; most = m; each = f }

-- the nodes of which it holds all pass the test, and are none
pub is_no_majority : {n : ℕ} {P : ℕ → Type 0} (p : ℕ → Bool) → ((a : ℕ) → a < n → P a → p a ≡ true)
    → (IsMajority n (counted p n) → ⊥) → Majority n P → ⊥
is_no_majority {n} p f few m =
    let more : counted m.members n ≤ counted p n = counted_le n m.members p (λ a l e. f a l (m.each a l e)) in
    few (omega (arith, m.most, more))
