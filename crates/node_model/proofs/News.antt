-- What a learner makes of news by which a slot is learnt.
use Rattle.std.proofs.Common.{◌≡◌, ℕ, ◌++◌, [], List, Option, Some, None, inl, inr, refl, sym, ap, ◌∙◌, subst, append-nil}
use Rattle.std.proofs.lemmas.Bool.Decides.{eqb_tells}
use Rattle.synod.specs.Records.{put}
use Rattle.synod.specs.declared.vote.Vote.{Vote}
use Rattle.sessions.specs.declared.command.Command.{Command}
use Rattle.learner.specs.Learning.{Learning, with_learnt, HearsVote, HearsDecided}
use Rattle.learner.specs.Learning.HearsVote.{ignores, hears, learns}
use Rattle.learner.specs.Learning.HearsDecided.{ignores_decided, learns_decided}
use Rattle.learner.specs.declared.learned.Learned.{Learned}
use Rattle.wire.specs.declared.frames.envelope.Envelope.{Envelope}
use Rattle.node_model.specs.Composition.{RepliesToMore}
use Rattle.node_model.specs.Replicas.{ReplicaState, position}
use Rattle.node_model.specs.Outputs.{Response}
use Rattle.node_model.specs.Taking.{Learns, execution, news, after_news, proposer_sends}

-- the slot is newly learnt with the command, and the learner goes on from the same slot
pub record IsNews (old new : Learning) (slot : ℕ) (c : Command) (learned : Learned) : Type 0 where
  pub at : learned.slot ≡ slot
  pub there : new.learnt learned.slot ≡ Some c
  pub first : new.first ≡ old.first

put_there : (learnt : ℕ → Option Command) (slot : ℕ) (c : Command) → put learnt slot (Some c) slot ≡ Some c
put_there learnt slot c = elim (eqb_tells slot slot) [
  | inl same ↦ rw same.0 refl
  | inr other ↦ absurd (other.1 refl)
]

is_news : (old new : Learning) (slot : ℕ) (c : Command) (learned : Learned) → record { slot = slot } ≡ learned
    → new ≡ with_learnt old slot c → IsNews old new slot c learned
is_news old new slot c learned e same =
    let at : slot ≡ learned.slot = ap (λ (x : Learned). x.slot) e in
    record {
      at = sym at;
      there = subst (λ (s : ℕ). new.learnt s ≡ Some c) at (ap (λ (l : Learning). l.learnt slot) same ∙ put_there old.learnt slot c);
      first = ap (λ (l : Learning). l.first) same;
    }

same_learned : (a b : Learned) → Some a ≡ Some b → a ≡ b
same_learned a b e = cc

pub vote_news : (old new : Learning) (from : ℕ) (v : Vote Command) (o : Option Learned) (learned : Learned)
    → HearsVote old from v o new → o ≡ Some learned → IsNews old new v.slot v.command learned
vote_news old new from v o learned (ignores never none same) e = absurd (cc)
vote_news old new from v o learned (hears counts undecided none same) e = absurd (cc)
vote_news old new from v o learned (learns counts decided some same) e =
    is_news old new v.slot v.command learned (same_learned _ learned (sym some ∙ e)) same

pub decided_news : (old new : Learning) (slot : ℕ) (c : Command) (o : Option Learned) (learned : Learned)
    → HearsDecided old slot c o new → o ≡ Some learned → IsNews old new slot c learned
decided_news old new slot c o learned (ignores_decided never none same) e = absurd (cc)
decided_news old new slot c o learned (learns_decided opened some same) e =
    is_news old new slot c learned (same_learned _ learned (sym some ∙ e)) same

-- what a node says
abbrev response : ReplicaState → ℕ → Command → Learning → List Envelope → Response
response old slot c l sends = record {
  restored = None;
  learnt = Some (record { slot = slot; command = c });
  replies = (execution old l).replies;
  sends = sends;
}

-- what is sent last joins what a node sends
pub asks_last : (old : ReplicaState) (slot : ℕ) (c : Command) (l : Learning) (asks : List Envelope) (new : ReplicaState) (said : Response)
    (more : Response) → Learns old slot c l [] new said
    → more ≡ record said { sends = said.sends ++ asks } → Learns old slot c l asks new more
asks_last old slot c l asks new said more k e = record {
  leaves = k.leaves;
  says = e ∙ ap (λ (r : Response). record r { sends = r.sends ++ asks }) k.says
      ∙ ap (λ (es : List Envelope). response old slot c l (es ++ asks)) (append-nil (proposer_sends old (after_news old slot l)));
  stands = k.stands;
  replies = subst (λ (r : Response). RepliesToMore old.machine (position old) (news old l) r.replies) (sym e) k.replies;
}
