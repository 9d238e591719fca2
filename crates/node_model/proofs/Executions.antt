-- What is learnt is executed, slot by slot.
use Rattle.std.proofs.Common.{◌≡◌, true, false, ℕ, suc, ◌+◌, ◌-◌, ◌<◌, ◌≤◌, List, [], length, Option, Some, None, IsSome, refl, sym, ap}
use Rattle.std.proofs.Common.{◌∙◌, subst, arith, rules}
use Rattle.sessions.specs.Machines.{MachineState}
use Rattle.sessions.specs.declared.command.Command.{Command}
use Rattle.learner.specs.Prefixes.{IsPrefix}
use Rattle.node_model.specs.declared.outputs.ReplyOut.{ReplyOut}
use Rattle.node_model.specs.Composition.{StandsForMore, RepliesToMore, AddsReplies}
use Rattle.node_model.specs.Executing.{Executing, executed, commands, with_command}
use Rattle.node_model.specs.Replicas.{ReplicaState, position}
use Rattle.node_model.specs.Taking.{executing_of, with_executing, learnt_from}
use Rattle.node_model.proofs.Commands.{commands_push, commands_length}
use Rattle.node_model.proofs.Replying.{stands_for_none, stands_for_both, replies_to_both}

-- a slot that is learnt, and those behind it
step_one : (e : Executing) (slot : ℕ) (o : Option Command) (rest : List Command) → IsSome o
    → executed e slot (with_command o rest) ≡ executed (executed e slot (with_command o [])) (suc slot) rest
step_one e slot None rest h = absurd (let f : false ≡ true = h in cc)
step_one e slot (Some c) rest h = refl

-- what is to be executed from a slot on is its command, and what comes behind
commands_from : (learnt : ℕ → Option Command) (slot p : ℕ) → slot < p
    → commands learnt slot (p - slot) ≡ with_command (learnt slot) (commands learnt (suc slot) (p - suc slot))
unfolding commands
commands_from learnt slot p h =
    ap (λ (n : ℕ). commands learnt slot n) (let e : p - slot ≡ suc (p - suc slot) = omega (arith, h) in e)

-- nothing is done yet
pub stands_begun : (m : ReplicaState) (from : ℕ) → StandsForMore m.machine m.machine (commands m.learner.learnt from (from - from))
unfolding commands
stands_begun m from =
    let none : from - from ≡ 0 = omega arith in
    subst (λ (n : ℕ). StandsForMore m.machine m.machine (commands m.learner.learnt from n)) (sym none) (stands_for_none m.machine)

pub replies_begun : (m : ReplicaState) (from : ℕ) → RepliesToMore m.machine from (commands m.learner.learnt from (from - from)) []
replies_begun m from = record { replies_ = λ l s at e there. absurd (search (rules, there)) }

module _ (m : ReplicaState) (from : ℕ) (is : IsPrefix m.learner.learnt m.learner.first (position m)) (kept : m.learner.first ≤ from) where
  abbrev learnt : ℕ → Option Command
  learnt = m.learner.learnt

  -- what is to be done from a slot on, once the slot is done
  pub rest_done : (number : ℕ) (e f : Executing) → from ≤ number → number < position m
      → f ≡ executed e number (with_command (learnt number) [])
      → executed f (number + 1) (learnt_from m (number + 1)) ≡ executed e number (learnt_from m number)
  rest_done number e f above below done =
      let here : IsSome (learnt number) = is.learnt_to.below number (omega (arith, kept, above)) below in
      let next : number + 1 ≡ suc number = omega arith in
      ap (λ (g : Executing). executed g (number + 1) (learnt_from m (number + 1))) done
      ∙ ap (λ (n : ℕ). executed (executed e number (with_command (learnt number) [])) n (learnt_from m n)) next
      ∙ sym (step_one e number (learnt number) (commands learnt (suc number) (position m - suc number)) here)
      ∙ ap (λ (cs : List Command). executed e number cs) (sym (commands_from learnt number (position m) below))

  pub stands_done : (number : ℕ) (old mid new : MachineState) → from ≤ number
      → StandsForMore old mid (commands learnt from (number - from)) → StandsForMore mid new (with_command (learnt number) [])
      → StandsForMore old new (commands learnt from (number + 1 - from))
  stands_done number old mid new above h k =
      rw (commands_push learnt from number above) (stands_for_both old mid new _ _ h k)

  pub replies_done : (number : ℕ) (old mid : MachineState) (before after : List ReplyOut) → from ≤ number → number < position m
      → StandsForMore old mid (commands learnt from (number - from))
      → RepliesToMore old from (commands learnt from (number - from)) before
      → AddsReplies mid number (with_command (learnt number) []) before after
      → RepliesToMore old from (commands learnt from (number + 1 - from)) after
  replies_done number old mid before after above below h earlier later =
      let as_many : length (commands learnt from (number - from)) ≡ number - from =
      commands_length learnt from (number - from)
      (λ s a b. is.learnt_to.below s (omega (arith, kept, a)) (omega (arith, b, below, above))) in
      let at : from + length (commands learnt from (number - from)) ≡ number = omega (arith, as_many, above) in
      rw (commands_push learnt from number above) (replies_to_both old mid from _ _ before after h earlier (rw at later))

  -- the end
  pub all_done : (number : ℕ) → from ≤ number → (number < position m → ⊥) → number - from ≤ position m - from
      → commands learnt from (number - from) ≡ learnt_from m from
  all_done number above past within =
      ap (λ (n : ℕ). commands learnt from n) (let e : number - from ≡ position m - from = omega (arith, past, within, above) in e)

  pub none_left : (number : ℕ) (e : Executing) → (number < position m → ⊥) → executed e number (learnt_from m number) ≡ e
  unfolding commands
  none_left number e past =
      ap (λ (n : ℕ). executed e number (commands learnt number n)) (let x : position m - number ≡ 0 = omega (arith, past) in x)

  -- a slot is done
  pub only_done : (cur next : ReplicaState) → cur ≡ with_executing m (executing_of cur []) → next ≡ with_executing cur (executing_of next [])
      → next ≡ with_executing m (executing_of next [])
  only_done cur next only then = then ∙ ap (λ (x : ReplicaState). with_executing x (executing_of next [])) only

  pub learnt_there : (cur : ReplicaState) (slot number : ℕ) → slot ≡ number → cur ≡ with_executing m (executing_of cur [])
      → cur.learner.learnt slot ≡ learnt number
  learnt_there cur slot number at only = ap (λ (x : ReplicaState). x.learner.learnt slot) only ∙ ap learnt at
