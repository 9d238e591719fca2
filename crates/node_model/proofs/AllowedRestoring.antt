-- What a node makes of a whole snapshot text is allowed.
use Rattle.std.proofs.Common.{◌≡◌, ℕ, ◌<◌, ◌≤◌, ◌-◌, ◌⊎◌, inl, inr, List, [], ◌++◌, map, Some, None, refl, sym, ap, ◌∙◌, subst}
use Rattle.std.proofs.Common.{append-nil, arith}
use Rattle.std.proofs.lemmas.List.{map-append}
use Rattle.synod.specs.Messages.{Frame}
use Rattle.synod.specs.Acts as act
use Rattle.synod.specs.Acts.{Local}
use Rattle.synod.specs.declared.slot.TheConstants.{SLOTS}
use Rattle.sessions.specs.Machines.{MachineState}
use Rattle.sessions.specs.declared.command.Command.{Command}
use Rattle.learner.specs.Learning.{Learning, prefix, first_unlearnt, skipped}
use Rattle.learner.specs.Protocol.{LearnerStands}
use Rattle.learner.proofs.PrefixLemmas.{prefix_is, skipped_grows}
use Rattle.proposer.specs.Protocol.{frames_of_all}
use Rattle.proposer.proofs.AllowedClosing.{skipped_lem}
use Rattle.proposer.proofs.AllowedMoves.{advance_lem}
use Rattle.node_model.specs.declared.input.Input.{Input}
use Rattle.node_model.specs.Replicas.{ReplicaState, position}
use Rattle.node_model.specs.Outputs.{Response}
use Rattle.node_model.specs.Protocol.{membership, frame_of, ReplicaStands, MayComeTo}
use Rattle.node_model.specs.Sending.{ask_sends}
use Rattle.node_model.specs.Taking.{Restores, restored, executing_of, execution_from, executed_to_the_end, learnt_from}
use Rattle.node_model.specs.Taking.{proposed, proposer_sends, with_proposer}
use Rattle.node_model.proofs.AllowedSends.{proposer_frames, are_plain, says_sends}
use Rattle.node_model.proofs.AllowedGoing.{MayGo, goes_then, goes_saying, goes_holding}
use Rattle.node_model.proofs.AllowedCases.{goes_proposing}
use Rattle.node_model.proofs.AllowedLearning.{execution_holds}
use Rattle.node_model.proofs.Hearings.{of_the_target}
use Rattle.node_model.proofs.Keeping.{skipped_is}
use Rattle.node_model.proofs.Saying.{MakesText, asks_one}

-- ---- the learner
-- one that keeps no slot of the log has its prefix there
past_the_log : (l : Learning) → SLOTS ≤ l.first → prefix l ≡ l.first
unfolding prefix first_unlearnt
past_the_log l h = ap (λ (n : ℕ). first_unlearnt l.learnt l.first n) (let none : SLOTS - l.first ≡ 0 = omega (arith, h) in none)

from_the_first : (l : Learning) → l.first ≤ prefix l
from_the_first l = elim (within l.first SLOTS) [
  | inl in_log ↦ (prefix_is l in_log).learnt_to.from
  | inr past ↦ (let at = past_the_log l past in omega (arith, at))
]
  where
    within : (a b : ℕ) → (a ≤ b) ⊎ (b ≤ a)
    within a b = grind (arith)

-- slots below the target aren't waited for any more
skipped_from : (l : Learning) (target : ℕ) → prefix l < target → target ≤ prefix (skipped l target)
skipped_from l target above =
    subst (λ (k : Learning). target ≤ prefix k) (sym (skipped_is l target above)) (from_the_first (record l { first = target }))

-- ---- the machine of a text takes the place of the node's
module _ (old : ReplicaState) (some_node : 1 ≤ old.nodes) (in' : act.Input Command) (x : Local Command) (stands : ReplicaStands old x)
    (from target : ℕ) (machine : MachineState) (ahead : position old < target) (sender : from < old.nodes) where
  abbrev l : Learning
  l = skipped old.learner target

  abbrev m : ReplicaState
  m = restored old target machine

  abbrev then : ReplicaState
  then = executed_to_the_end m target

  abbrev left : ReplicaState
  left = with_proposer then (proposed then.proposer l)

  -- the position rises
  skips : MayGo old.nodes old.id in' x (record old { learner = l }) []
  skips =
      let grows : position old ≤ prefix l = skipped_grows old.learner target in
      let up : x.replica.position ≤ prefix l = omega (arith, grows, stands.position_) in
      let next = advance_lem (membership old.nodes) old.id in' x old.proposer (prefix l) up stands.proposer in
      record {
        after = record x { replica = record x.replica { position = prefix l } };
        does = next.does;
        stands = record {
          records = stands.records;
          learner = subst (λ (k : Learning). LearnerStands k (record x.replica { position = prefix l }))
              (sym (skipped_is old.learner target ahead)) (record { learnt = stands.learner.learnt; heard = stands.learner.heard });
          proposer = next.stands;
          position_ = refl;
          level = omega (arith, stands.level, grows);
        };
        sent_ = sym (append-nil x.sent);
        learnt = refl;
        submitted = refl;
      }

  -- proposals below the target are closed, what is executed waits no more, the proposer proposes, and the next slot is asked for
  goes_on : MayGo old.nodes old.id in' x left
      (frames_of_all old.id old.nodes (proposed then.proposer l).1 ++ map frame_of (ask_sends old.id from (prefix l)))
  goes_on =
      let skipping : ReplicaState = record old { learner = l } in
      let reached : target ≤ skips.after.replica.position =
      subst (λ (n : ℕ). target ≤ n) (sym skips.stands.position_) (skipped_from old.learner target ahead) in
      let closed : MayGo old.nodes old.id in' skips.after (record skipping { proposer = m.proposer }) [] =
      goes_holding old.nodes old.id in' skips.after skipping m.proposer skips.stands
      (skipped_lem (membership old.nodes) old.id in' skips.after old.proposer target reached skips.stands.proposer) in
      let ended : MayGo old.nodes old.id in' closed.after (record skipping { proposer = then.proposer }) [] =
      goes_holding old.nodes old.id in' closed.after (record skipping { proposer = m.proposer }) then.proposer closed.stands
      (execution_holds (membership old.nodes) old.id in' m.proposer (learnt_from m target) (executing_of m []) target closed.after
      closed.stands.proposer) in
      let here : ReplicaStands then ended.after = record {
        records = ended.stands.records;
        learner = ended.stands.learner;
        proposer = ended.stands.proposer;
        position_ = ended.stands.position_;
        level = ended.stands.level;
      } in
      let proposer : MayGo old.nodes old.id in' ended.after left (frames_of_all old.id old.nodes (proposed then.proposer l).1) =
      goes_proposing old.nodes old.id in' ended.after then some_node here in
      let asks = ask_sends old.id from (prefix l) in
      let asking : MayGo old.nodes old.id in' proposer.after left (map frame_of asks) =
      goes_saying old.nodes old.id in' proposer.after left (map frame_of asks) proposer.stands
      (says_sends (membership old.nodes) old.id in' proposer.after asks (are_plain old asks (asks_one old from (prefix l) sender))) in
      goes_then old.nodes old.id in' x _ _ [] _ skips
      (goes_then old.nodes old.id in' skips.after _ _ [] _ closed
      (goes_then old.nodes old.id in' closed.after _ _ [] _ ended
      (goes_then old.nodes old.id in' ended.after _ _ _ _ proposer asking)))

  -- what it says of it
  abbrev says_of : ReplicaState → Response
  says_of n = record {
    restored = Some target;
    learnt = None;
    replies = (execution_from n target).replies;
    sends = proposer_sends old (proposed (executed_to_the_end n target).proposer n.learner) ++ ask_sends old.id from (position n);
  }

  comes_to : MayComeTo old.nodes old.id in' [] x left (says_of m)
  comes_to =
      let p = proposed then.proposer l in
      let asks = ask_sends old.id from (prefix l) in
      let same : map frame_of (proposer_sends old p ++ asks) ≡ frames_of_all old.id old.nodes p.1 ++ map frame_of asks =
      map-append frame_of (proposer_sends old p) asks ∙ ap (λ fs. fs ++ map frame_of asks) (proposer_frames old.id old.nodes p.1) in
      record {
        after = goes_on.after;
        does = goes_on.does;
        stands = goes_on.stands;
        sent = goes_on.sent_ ∙ ap (λ (fs : List (Frame Command)). x.sent ++ fs) (sym same);
        learnt = goes_on.learnt ∙ sym (append-nil x.learnt);
        submitted = goes_on.submitted ∙ sym (append-nil x.submitted);
      }

  restores_lem : (new : ReplicaState) (said : Response) → Restores old from target machine new said → MayComeTo old.nodes old.id in' [] x new said
  restores_lem new said k =
      let leaves : new ≡ left = k.leaves
      ∙ ap (λ (n : ReplicaState). with_proposer (executed_to_the_end n target) (proposed (executed_to_the_end n target).proposer n.learner)) k.begins in
      let says : said ≡ says_of m = k.says ∙ ap says_of k.begins in
      subst (λ (n : ReplicaState). MayComeTo old.nodes old.id in' [] x n said) (sym leaves)
      (subst (MayComeTo old.nodes old.id in' [] x left) (sym says) comes_to)

-- ---- a text is whole
module _ (old new : ReplicaState) (said : Response) (x : Local Command) (stands : ReplicaStands old x) (some_node : 1 ≤ old.nodes)
    (in' : act.Input Command) (i : Input) where
  pub text_case : MakesText old i new said → MayComeTo old.nodes old.id in' [] x new said
  text_case h =
      let at = of_the_target old new said h.p h.fetched h.counts_ in
      restores_lem old some_node in' x stands h.from h.fetched.target h.machine (subst (λ (n : ℕ). position old < n) (sym at.1) at.0)
      h.sender new said h.restored
