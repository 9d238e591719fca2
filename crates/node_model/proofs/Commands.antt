-- What is learnt at slots, as a list.
use Rattle.std.proofs.Common.{◌≡◌, true, false, ℕ, zero, suc, ◌+◌, ◌-◌, ◌<◌, ◌≤◌, List, [], ◌++◌, length, Option, Some, None, IsSome}
use Rattle.std.proofs.Common.{refl, ap, ◌∙◌, arith}
use Rattle.sessions.specs.declared.command.Command.{Command}
use Rattle.node_model.specs.Executing.{commands, with_command}

with_more : (o : Option Command) (xs ys : List Command) → with_command o (xs ++ ys) ≡ with_command o xs ++ ys
with_more None xs ys = refl
with_more (Some c) xs ys = refl

with_length : (o : Option Command) (xs : List Command) → IsSome o → length (with_command o xs) ≡ suc (length xs)
with_length None xs h = absurd (let f : false ≡ true = h in cc)
with_length (Some c) xs h = refl

-- what is learnt at some slots, and then at those behind them
pub commands_append : (learnt : ℕ → Option Command) (slot n m : ℕ)
    → commands learnt slot (n + m) ≡ commands learnt slot n ++ commands learnt (slot + n) m
unfolding commands
commands_append learnt slot zero m =
    let e : slot + 0 ≡ slot = omega arith in
    let f : 0 + m ≡ m = omega arith in
    rw e (rw f refl)
commands_append learnt slot (suc n) m =
    let e : suc slot + n ≡ slot + suc n = omega arith in
    let f : suc n + m ≡ suc (n + m) = omega arith in
    rw f (ap (λ (xs : List Command). with_command (learnt slot) xs) (commands_append learnt (suc slot) n m)
    ∙ with_more (learnt slot) (commands learnt (suc slot) n) (commands learnt (suc slot + n) m)
    ∙ ap (λ (s : ℕ). with_command (learnt slot) (commands learnt (suc slot) n) ++ commands learnt s m) e)

-- one slot
pub commands_one : (learnt : ℕ → Option Command) (slot : ℕ) → commands learnt slot 1 ≡ with_command (learnt slot) []
unfolding commands
commands_one learnt slot = refl

-- up to a slot, and at it
pub commands_push : (learnt : ℕ → Option Command) (from slot : ℕ) → from ≤ slot
    → commands learnt from (slot + 1 - from) ≡ commands learnt from (slot - from) ++ with_command (learnt slot) []
commands_push learnt from slot h =
    let n : slot + 1 - from ≡ (slot - from) + 1 = omega (arith, h) in
    let s : from + (slot - from) ≡ slot = omega (arith, h) in
    rw n (commands_append learnt from (slot - from) 1
    ∙ ap (λ (i : ℕ). commands learnt from (slot - from) ++ commands learnt i 1) s
    ∙ ap (λ (xs : List Command). commands learnt from (slot - from) ++ xs) (commands_one learnt slot))

-- where the same is learnt, the list is the same
pub commands_same : (a b : ℕ → Option Command) (slot n : ℕ) → ((s : ℕ) → slot ≤ s → s < slot + n → a s ≡ b s)
    → commands a slot n ≡ commands b slot n
unfolding commands
commands_same a b slot zero h = refl
commands_same a b slot (suc n) h =
    ap (λ (o : Option Command). with_command o (commands a (suc slot) n)) (h slot (omega arith) (omega arith))
    ∙ ap (λ (xs : List Command). with_command (b slot) xs)
    (commands_same a b (suc slot) n (λ s from to. h s (omega (arith, from)) (omega (arith, to))))

-- where each slot is learnt, there are as many commands as slots
pub commands_length : (learnt : ℕ → Option Command) (slot n : ℕ)
    → ((s : ℕ) → slot ≤ s → s < slot + n → IsSome (learnt s)) → length (commands learnt slot n) ≡ n
unfolding commands
commands_length learnt slot zero h = refl
commands_length learnt slot (suc n) h =
    with_length (learnt slot) (commands learnt (suc slot) n) (h slot (omega arith) (omega arith))
    ∙ ap suc (commands_length learnt (suc slot) n (λ s from to. h s (omega (arith, from)) (omega (arith, to))))

-- where nothing is learnt there is none
pub commands_none : (slot n : ℕ) → commands (λ _. None) slot n ≡ []
unfolding commands
commands_none slot zero = refl
commands_none slot (suc n) = commands_none (suc slot) n
