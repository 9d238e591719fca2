-- What a node newly learns is at a slot of the log.
use Rattle.std.proofs.Common.{◌≡◌, ◌<◌, Option, Some, None, refl, sym, ap, ◌∙◌, subst}
use Rattle.std.proofs.lemmas.Option.{same_Some}
use Rattle.synod.specs.declared.slot.TheConstants.{SLOTS}
use Rattle.sessions.specs.declared.command.Command.{Command}
use Rattle.learner.specs.Learning.{Learning}
use Rattle.learner.specs.declared.learned.Learned.{Learned}
use Rattle.wire.specs.FrameSpelling.{MessageFits}
use Rattle.wire.specs.declared.frames.message.Message.TheVariants.{Accepted, Decided}
use Rattle.node_model.specs.declared.input.Input.{Input}
use Rattle.node_model.specs.declared.outputs.LearntCommand.{LearntCommand}
use Rattle.node_model.specs.Replicas.{ReplicaState}
use Rattle.node_model.specs.Outputs.{Response}
use Rattle.node_model.specs.Protocol.{InputFits}
use Rattle.node_model.specs.Taking.{Takes, Hears}
use Rattle.node_model.proofs.Hearings.{Hearing, heard_of}
use Rattle.node_model.proofs.Hearings.Hearing.{of_vote, of_decision, of_text, of_nothing}
use Rattle.node_model.proofs.News.{vote_news, decided_news}

module _ (old new : ReplicaState) (said : Response) where
  -- what the node says that it newly learnt is at a slot of the log
  abbrev IsInLog : Type 0
  IsInLog = (e : LearntCommand) → said.learnt ≡ Some e → e.slot < SLOTS

  says_none : said.learnt ≡ None → IsInLog
  says_none none = λ e says. absurd (let clash : None ≡ Some e = sym none ∙ says in cc)

  heard : (c : Command) (o : Option Learned) (l : Learning) (asks : _) → ((learned : Learned) → o ≡ Some learned → learned.slot < SLOTS)
      → Hears old c o l asks new said → IsInLog
  heard c None l asks within k = says_none (ap (λ (x : Response). x.learnt) k.1)
  heard c (Some learned) l asks within k = λ e says.
      let told : LearntCommand = record { slot = learned.slot; command = c } in
      let is : told ≡ e = same_Some told e (sym (ap (λ (x : Response). x.learnt) k.says) ∙ says) in
      subst (λ (x : LearntCommand). x.slot < SLOTS) is (within learned refl)

  hearing_in_log : (i : Input) → InputFits i → Hearing old i new said → IsInLog
  hearing_in_log i fits (of_vote from to v is (o, l, news, k)) =
      let message : MessageFits 7 (Accepted v) = subst InputFits is fits in
      heard v.command o l _
      (λ learned e. subst (λ s. s < SLOTS) (sym (vote_news old.learner l from v o learned news e).at) message.slot) k
  hearing_in_log i fits (of_decision from to slot c is (o, l, news, k)) =
      let message : MessageFits 7 (Decided slot c) = subst InputFits is fits in
      heard c o l _ (λ learned e. subst (λ s. s < SLOTS) (sym (decided_news old.learner l slot c o learned news e).at) message.0) k
  hearing_in_log i fits (of_text h) = says_none (ap (λ (x : Response). x.learnt) h.whole.says)
  hearing_in_log i fits (of_nothing none) = says_none none.learnt

  pub taken_in_log : (i : Input) → InputFits i → Takes old i new said → IsInLog
  taken_in_log i fits k = hearing_in_log i fits (heard_of old new said i k)
