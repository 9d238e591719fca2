-- What a step tells of the node or the frame that it names: that it is missing, exactly where it is.
use Rattle.std.proofs.Common.{◌≡◌, ◌≤◌, ◌<◌, ◌↔◌, ◌∙◌, ◌⊎◌, inl, inr, ℕ, List, Result, Ok, Err, IfErr, length, map, refl, sym, ap, arith}
use Rattle.std.proofs.lemmas.List.{length-map}
use Rattle.stable.specs.Script.{Script}
use Rattle.node.specs.declared.node.Node.{Node}
use Rattle.node.specs.Seen.{state_of}
use Rattle.events.specs.declared.fault.WorldFault.{WorldFault}
use Rattle.events.specs.declared.fault.WorldFault.TheVariants.{Memory, NoSuchFrame, NoSuchNode}

abbrev failed : {T : Type 0} → WorldFault → Result T WorldFault
failed f = Err f

-- as many nodes show as there are
pub counted : {S : Type 0} (nodes : List (Node (Script S))) (len : ℕ) → len ≡ length nodes → len ≡ length (map state_of nodes)
counted nodes len same = same ∙ sym (length-map nodes state_of)

module _ {T : Type 0} where
  -- it is missing
  pub missing : (count len n : ℕ) (f : WorldFault) → len ≡ count → len ≤ n → (failed {T = T} f ≡ failed f) ↔ (count ≤ n)
  missing count len n f same past = (λ _. omega (arith, same, past), λ _. refl)

  -- it is there, and memory is wanting
  pub node_there : (count len n : ℕ) → len ≡ count → n < len → (failed {T = T} Memory ≡ failed NoSuchNode) ↔ (count ≤ n)
  node_there count len n same there = (λ e. absurd (cc), λ past. absurd (omega (arith, same, there, past)))

  pub frame_there : (count len n : ℕ) → len ≡ count → n < len → (failed {T = T} Memory ≡ failed NoSuchFrame) ↔ (count ≤ n)
  frame_there count len n same there = (λ e. absurd (cc), λ past. absurd (omega (arith, same, there, past)))

  -- it is there, and the step was made
  pub not_missing : (count len n : ℕ) (x : T) (f : WorldFault) → len ≡ count → n < len → (Ok x ≡ failed f) ↔ (count ≤ n)
  not_missing count len n x f same there = (λ e. absurd (cc), λ past. absurd (omega (arith, same, there, past)))

-- a step that names a node, or a frame, tells of nothing else that is not there
abbrev OneOf : WorldFault → WorldFault → Type 0
OneOf named f = (f ≡ named) ⊎ (f ≡ Memory)

pub no_frame_named : {T : Type 0} (r : Result T WorldFault) → IfErr r (OneOf NoSuchNode) → (r ≡ Err NoSuchFrame) ↔ ⊥
no_frame_named (Ok x) faults = (λ e. absurd (cc), λ never. absurd never)
no_frame_named (Err f) (inl e) = (λ is. absurd (cc), λ never. absurd never)
no_frame_named (Err f) (inr e) = (λ is. absurd (cc), λ never. absurd never)

pub no_node_named : {T : Type 0} (r : Result T WorldFault) → IfErr r (OneOf NoSuchFrame) → (r ≡ Err NoSuchNode) ↔ ⊥
no_node_named (Ok x) faults = (λ e. absurd (cc), λ never. absurd never)
no_node_named (Err f) (inl e) = (λ is. absurd (cc), λ never. absurd never)
no_node_named (Err f) (inr e) = (λ is. absurd (cc), λ never. absurd never)

abbrev OneOfThree : WorldFault → Type 0
OneOfThree f = (f ≡ NoSuchFrame) ⊎ (f ≡ NoSuchNode) ⊎ (f ≡ Memory)

pub node_faults : {T : Type 0} (r : Result T WorldFault) → IfErr r (OneOf NoSuchNode) → IfErr r OneOfThree
node_faults (Ok x) faults = tt
node_faults (Err f) e = inr e

pub frame_faults : {T : Type 0} (r : Result T WorldFault) → IfErr r (OneOf NoSuchFrame) → IfErr r OneOfThree
frame_faults (Ok x) faults = tt
frame_faults (Err f) (inl e) = inl e
frame_faults (Err f) (inr e) = inr (inr e)

-- what was sent is there, so that memory alone can be wanting
pub only_memory : {T : Type 0} (f : WorldFault) (count n : ℕ) → ((failed {T = T} f ≡ failed NoSuchFrame) ↔ (count ≤ n)) → n < count
    → OneOf NoSuchFrame f → f ≡ Memory
only_memory f count n names sent (inl e) = absurd (omega (arith, names.0 (ap (λ x. failed x) e), sent))
only_memory f count n names sent (inr e) = e
