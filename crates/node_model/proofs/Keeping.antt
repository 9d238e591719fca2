-- What a learner keeps, whatever it hears.
use Rattle.std.proofs.Common.{◌≡◌, ℕ, ◌<◌, ◌≤◌, nat_lt, true, false, List, Option, Some, None, IsSome, inl, inr, refl, sym, ap, ◌∙◌, subst}
use Rattle.std.proofs.Common.{arith}
use Rattle.std.proofs.lemmas.Bool.{cond_both, ltb-false}
use Rattle.std.proofs.lemmas.Bool.Decides.{eqb_tells}
use Rattle.synod.specs.Records.{put}
use Rattle.synod.specs.declared.vote.Vote.{Vote}
use Rattle.sessions.specs.declared.command.Command.{Command}
use Rattle.sessions.specs.Machines.{MachineState}
use Rattle.learner.specs.Learning.{Learning, prefix, skipped, HearsVote, HearsDecided}
use Rattle.learner.specs.Learning.HearsVote.{ignores, hears, learns}
use Rattle.learner.specs.Learning.HearsDecided.{ignores_decided, learns_decided}
use Rattle.learner.specs.declared.learned.Learned.{Learned}
use Rattle.learner.proofs.PrefixLemmas.{vote_grows, decided_grows, skipped_grows}
use Rattle.wire.specs.declared.frames.envelope.Envelope.{Envelope}
use Rattle.node_model.specs.declared.input.Input.{Input}
use Rattle.node_model.specs.Replicas.{ReplicaState}
use Rattle.node_model.specs.Outputs.{Response}
use Rattle.node_model.specs.Taking.{Takes, Hears, Restores}
use Rattle.node_model.proofs.Hearings.{Hearing, heard_of}
use Rattle.node_model.proofs.Hearings.Hearing.{of_vote, of_decision, of_text, of_nothing}

-- it is of as many nodes, and keeps what it has learnt
pub record KeepsLearnt (old new : Learning) : Type 0 where
  pub nodes_ : new.nodes ≡ old.nodes
  pub still : (s : ℕ) → IsSome (old.learnt s) → new.learnt s ≡ old.learnt s
  pub grows : prefix old ≤ prefix new

put_elsewhere : (learnt : ℕ → Option Command) (slot : ℕ) (c : Command) → learnt slot ≡ None → (s : ℕ) → IsSome (learnt s)
    → put learnt slot (Some c) s ≡ learnt s
put_elsewhere learnt slot c vacant s was = elim (eqb_tells s slot) [
  | inl same ↦
      let here : IsSome {T = Command} None = subst IsSome vacant (subst (λ (i : ℕ). IsSome (learnt i)) same.1 was) in
      absurd (let f : false ≡ true = here in cc)
  | inr other ↦ rw other.0 refl
]

-- it comes to one that keeps it
kept_as : (old new then : Learning) → new ≡ then → then.nodes ≡ old.nodes
    → ((s : ℕ) → IsSome (old.learnt s) → then.learnt s ≡ old.learnt s) → prefix old ≤ prefix new → KeepsLearnt old new
kept_as old new then e nodes still grows = record {
  nodes_ = ap (λ (l : Learning). l.nodes) e ∙ nodes;
  still = λ s was. ap (λ (l : Learning). l.learnt s) e ∙ still s was;
  grows = grows;
}

vote_kept : (old new : Learning) (from : ℕ) (v : Vote Command) (learned : Option Learned) → HearsVote old from v learned new
    → prefix old ≤ prefix new → KeepsLearnt old new
vote_kept old new from v learned (ignores never none same) = kept_as old new _ same refl (λ _ _. refl)
vote_kept old new from v learned (hears counts undecided none same) = kept_as old new _ same refl (λ _ _. refl)
vote_kept old new from v learned (learns counts decided some same) =
    kept_as old new _ same refl (put_elsewhere old.learnt v.slot v.command counts.in_time.unlearnt)

pub vote_keeps : (old new : Learning) (from : ℕ) (v : Vote Command) (learned : Option Learned) → HearsVote old from v learned new
    → KeepsLearnt old new
vote_keeps old new from v learned h = vote_kept old new from v learned h (vote_grows old new from v learned h)

decided_kept : (old new : Learning) (slot : ℕ) (c : Command) (learned : Option Learned) → HearsDecided old slot c learned new
    → prefix old ≤ prefix new → KeepsLearnt old new
decided_kept old new slot c learned (ignores_decided never none same) = kept_as old new _ same refl (λ _ _. refl)
decided_kept old new slot c learned (learns_decided opened some same) =
    kept_as old new _ same refl (put_elsewhere old.learnt slot c opened.unlearnt)

pub decided_keeps : (old new : Learning) (slot : ℕ) (c : Command) (learned : Option Learned) → HearsDecided old slot c learned new
    → KeepsLearnt old new
decided_keeps old new slot c learned h = decided_kept old new slot c learned h (decided_grows old new slot c learned h)

-- what it hears doesn't change from which slot it goes on
pub vote_first : (old new : Learning) (from : ℕ) (v : Vote Command) (learned : Option Learned) → HearsVote old from v learned new
    → new.first ≡ old.first
vote_first old new from v learned (ignores never none same) = ap (λ (l : Learning). l.first) same
vote_first old new from v learned (hears counts undecided none same) = ap (λ (l : Learning). l.first) same
vote_first old new from v learned (learns counts decided some same) = ap (λ (l : Learning). l.first) same

pub decided_first : (old new : Learning) (slot : ℕ) (c : Command) (learned : Option Learned) → HearsDecided old slot c learned new
    → new.first ≡ old.first
decided_first old new slot c learned (ignores_decided never none same) = ap (λ (l : Learning). l.first) same
decided_first old new slot c learned (learns_decided opened some same) = ap (λ (l : Learning). l.first) same

-- ---- slots are passed over
pub skipped_is : (l : Learning) (target : ℕ) → prefix l < target → skipped l target ≡ record l { first = target }
skipped_is l target above =
    cond_both (nat_lt (prefix l) target) (record l { first = target }) l (λ (x : Learning). x ≡ record l { first = target })
    (λ _. refl) (λ no. absurd (omega (arith, above, ltb-false (prefix l) target no)))

-- ---- a node
-- one that has restored the machine of a text
pub restored_learner : (old new : ReplicaState) (said : Response) (from target : ℕ) (machine : MachineState)
    → Restores old from target machine new said → new.learner ≡ skipped old.learner target
restored_learner old new said from target machine k =
    ap (λ (m : ReplicaState). m.learner) k.leaves ∙ ap (λ (m : ReplicaState). m.learner) k.begins

module _ (old new : ReplicaState) (said : Response) where
  -- its learner is the one that has heard the news
  pub heard_learner : (c : Command) (learned : Option Learned) (l : Learning) (asks : List Envelope)
      → Hears old c learned l asks new said → new.learner ≡ l
  heard_learner c None l asks h = ap (λ (m : ReplicaState). m.learner) h.0
  heard_learner c (Some learned) l asks h = ap (λ (m : ReplicaState). m.learner) h.leaves

  hearing_keeps : (i : Input) → Hearing old i new said → KeepsLearnt old.learner new.learner
  hearing_keeps i (of_vote from to v is (learned, l, heard, k)) =
      subst (KeepsLearnt old.learner) (sym (heard_learner v.command learned l _ k)) (vote_keeps old.learner l from v learned heard)
  hearing_keeps i (of_decision from to slot c is (learned, l, heard, k)) =
      subst (KeepsLearnt old.learner) (sym (heard_learner c learned l _ k)) (decided_keeps old.learner l slot c learned heard)
  hearing_keeps i (of_text h) =
      let target : ℕ = h.part.position in
      let same : new.learner ≡ skipped old.learner target = restored_learner old new said h.from target h.machine h.whole in
      kept_as old.learner new.learner (record old.learner { first = target }) (same ∙ skipped_is old.learner target h.ahead) refl
      (λ _ _. refl)
      (subst (λ (l : Learning). prefix old.learner ≤ prefix l) (sym same) (skipped_grows old.learner target))
  hearing_keeps i (of_nothing none) =
      kept_as old.learner new.learner old.learner none.learner refl (λ _ _. refl)
      (subst (λ (l : Learning). prefix old.learner ≤ prefix l) (sym none.learner) (omega arith))

  pub takes_keeps : (i : Input) → Takes old i new said → KeepsLearnt old.learner new.learner
  takes_keeps i k = hearing_keeps i (heard_of old new said i k)
