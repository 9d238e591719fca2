-- A vote for a slot below the position changes nothing.
use Rattle.std.proofs.Common.{rules, ◌≡◌, ℕ, ◌<◌, Bool, true, false, Option, Some, None, Ok, IsSome, refl, sym, ◌∙◌}
use Rattle.std.proofs.lemmas.Bool.{ltb-true}
use Rattle.stable.specs.declared.stable.Stable.{Ghosts}
use Rattle.synod.specs.declared.vote.Vote.{Vote}
use Rattle.sessions.specs.declared.command.Command.{Command}
use Rattle.learner.specs.Learning.{Learning, NewsCounts}
use Rattle.learner.specs.Learning.HearsVote.{ignores}
use Rattle.learner.specs.Prefixes.{IsPrefix}
use Rattle.wire.specs.declared.frames.envelope.Envelope.{Envelope}
use Rattle.wire.specs.declared.frames.message.Message.{Message}
use Rattle.wire.specs.declared.frames.message.Message.TheVariants.{Accepted}
use Rattle.node_model.specs.declared.input.Input.TheVariants as input
use Rattle.node_model.specs.Inputs.{is_for_this_run}
use Rattle.node_model.specs.Replicas.{ReplicaState, position, is_stale_vote}
use Rattle.node_model.specs.Nodes.{NodeSteps, StaysMeaning}
use Rattle.node_model.specs.Outputs.{silence}
use Rattle.node_model.specs.States.{NodeState}
use Rattle.node_model.specs.Taking.{Takes, TakesEnvelope, TakesMessage, WritesOnEnvelope, WritesOnMessage}
use Rattle.node_model.proofs.Meanings.{meaning_stays}

none_is_not_some : {A : Type 0} (o : Option A) → o ≡ None → IsSome o → ⊥
none_is_not_some (Some x) e s = absurd (cc)
none_is_not_some None e s = search rules

-- its slot is learnt, or isn't kept, so it doesn't count
counts_no_more : (l : Learning) (p from : ℕ) (v : Vote Command) → IsPrefix l.learnt l.first p → v.slot < p → NewsCounts l from v → ⊥
counts_no_more l p from v is below counts =
    none_is_not_some (l.learnt v.slot) counts.in_time.unlearnt (is.learnt_to.below v.slot counts.in_time.kept below)

module _ (m : ReplicaState) (counted : IsPrefix m.learner.learnt m.learner.first (position m)) where
  message_passes : (from : ℕ) (message : Message) → is_stale_vote m message ≡ true → TakesMessage m from message m silence
  message_passes from (Accepted v) past = (
    None,
    m.learner,
    ignores (counts_no_more m.learner (position m) from v counted (ltb-true v.slot (position m) past)) refl refl,
    (refl, refl),
  )
  message_passes from other past = absurd (cc)

  message_writes : (message : Message) → is_stale_vote m message ≡ true → WritesOnMessage m message None
  message_writes (Accepted v) past = refl
  message_writes other past = absurd (cc)

  envelope_passes : (e : Envelope) (b : Bool) → is_stale_vote m e.message ≡ true → TakesEnvelope m e b m silence
  envelope_passes e false past = (refl, refl)
  envelope_passes e true past = message_passes e.from e.message past

  envelope_writes : (e : Envelope) (b : Bool) → is_stale_vote m e.message ≡ true → WritesOnEnvelope m e b None
  envelope_writes e false past = refl
  envelope_writes e true past = message_writes e.message past

  pub takes_past : (e : Envelope) → is_stale_vote m e.message ≡ true → Takes m (input.Message e) m silence
  takes_past e past = envelope_passes e (is_for_this_run m.id m.nodes e) past

-- a node that is up steps so, and is as it was
pub steps_past : {S : Type 0} (storages : Ghosts S) (reads_none : (a : S) → storages.reads a a) (n : NodeState S) (m : ReplicaState) (e : Envelope)
    → n.up ≡ Some m → IsPrefix m.learner.learnt m.learner.first (position m) → is_stale_vote m e.message ≡ true
    → NodeSteps storages n (input.Message e) (Ok silence) n
steps_past storages reads_none n m e up counted past = record {
  down = λ down. absurd (let bad : Some m ≡ None = sym up ∙ down in cc);
  taken = rw up (record {
    replica = m;
    takes = takes_past m counted e past;
    made = record {
      write = None;
      made = envelope_writes m counted e (is_for_this_run m.id m.nodes e) past;
      leaves = reads_none n.storage;
    };
    leaves = refl;
  });
  refused = rw up tt;
  ignored = rw up (λ _. (refl, refl));
  refuses_ = rw up tt;
}

pub stays_past : {S : Type 0} (n : NodeState S) (m : ReplicaState) (e : Envelope)
    → n.up ≡ Some m → IsPrefix m.learner.learnt m.learner.first (position m) → is_stale_vote m e.message ≡ true
    → StaysMeaning n (input.Message e) (Ok silence) n
stays_past n m e up counted past = record {
  goes_on = λ base. meaning_stays base (input.Message e) n.up n.up m m (Ok silence) (n.up ≡ Some m) up up (λ still. still)
      (takes_past m counted e past);
  restores = λ base. rw up tt;
}
