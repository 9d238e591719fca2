-- Each step keeps what the lists of a world tell of one another.
use Rattle.std.proofs.Common.{◌≡◌, ℕ, zero, suc, ◌-◌, ◌<◌, ◌⊎◌, length, inl, inr, List, [], ◌∷◌, ◌++◌, map, Bool, true, false, Option}
use Rattle.std.proofs.Common.{Some, None, Result, Ok, Err, IfSome, IfOk, IfErr, MatchBool, MatchOption, Contains, slice_get, option_map}
use Rattle.std.proofs.Common.{slice_set, refl, sym, ap, ◌∙◌, subst, append-nil, arith}
use Rattle.std.proofs.lemmas.List.Elements.{Contains-append_left, Contains-append_right, Contains-append_cases, Contains-push}
use Rattle.std.proofs.lemmas.List.Elements.{All-contains, Contains-push_cases}
use Rattle.std.proofs.lemmas.Bool.{cases_lt}
use Rattle.std.proofs.lemmas.Option.{same_Some, none-some, slice_get_within, get_or_from_slice_get}
use Rattle.stable.specs.Records.{Records, no_records}
use Rattle.stable.specs.Script.{Script, Write}
use Rattle.stable.specs.Storages.{IsLawful}
use Rattle.stable.specs.declared.key.Key.{Key}
use Rattle.stable.specs.declared.key.Key.TheVariants as key
use Rattle.stable.specs.declared.scripted.Failing.{Failing}
use Rattle.stable.specs.declared.stable.Stable.{Ghosts}
use Rattle.synod.proofs.Thinking.{none_in}
use Rattle.sessions.specs.declared.submission.Submission.{Submission}
use Rattle.sessions.proofs.Snapshots.{tells_each}
use Rattle.sessions.specs.Meaning.{Answers}
use Rattle.sessions.specs.Snapshots.{IsSnapshot}
use Rattle.sessions.specs.declared.command.Command.{Command}
use Rattle.store.specs.declared.query.Query.{Query}
use Rattle.wire.specs.FrameSpelling.{Fits, MessageFits}
use Rattle.wire.specs.Parts.{Piece, has_part}
use Rattle.wire.specs.RecordForms.{Checkpointed, checkpoint_bytes}
use Rattle.wire.specs.declared.frames.envelope.Envelope.{Envelope}
use Rattle.wire.specs.declared.frames.message.Message.{Message}
use Rattle.wire.specs.declared.frames.message.Message.TheVariants.{SnapPart}
use Rattle.acceptor.specs.Accepting.{Accepting, floor_of, text_of}
use Rattle.acceptor.specs.Forms.{CheckpointFits}
use Rattle.acceptor.specs.Loading.{IsCheckpointOf}
use Rattle.learner.specs.Learning.{Learning}
use Rattle.node_model.specs.declared.fault.NodeFault.{NodeFault}
use Rattle.node_model.specs.declared.fault.NodeFault.TheVariants as fault
use Rattle.node_model.specs.declared.input.Input.{Input}
use Rattle.node_model.specs.declared.input.Input.TheVariants as input
use Rattle.node_model.specs.declared.outputs.ReplyOut.{ReplyOut}
use Rattle.node_model.specs.declared.outputs.LearntCommand.{LearntCommand}
use Rattle.node_model.specs.Composition.{IsMeaningOf, IsReplyOf, GoesOnFrom, RestoresFrom, executed_from}
use Rattle.node_model.specs.Executing.{commands}
use Rattle.node_model.specs.Faults.{is_stop_fault}
use Rattle.node_model.specs.Fetching.{Fetching}
use Rattle.node_model.specs.Loading.{IsBaseOf, IsLoaded}
use Rattle.node_model.specs.Replicas.{ReplicaState, learnt_in, position}
use Rattle.node_model.specs.Nodes.{fetched_text}
use Rattle.node_model.specs.Nodes.{TakesInput, RefusesInput, StopsOnInput, NodeAnswers, AnswersMeaning}
use Rattle.node_model.specs.Outputs.{Response, silence}
use Rattle.node_model.specs.States.{NodeState}
use Rattle.node_model.specs.Taking.{Takes}
use Rattle.node_model.proofs.Learnt.{takes_tells, learnt_behind, loaded_means}
use Rattle.node_model.proofs.Meanings.{as_many}
use Rattle.events.specs.declared.event.Event.{Event}
use Rattle.world_model.specs.declared.lists.LearntEntry.{LearntEntry}
use Rattle.world_model.specs.declared.lists.Replied.{Replied}
use Rattle.world_model.specs.declared.lists.Answered.{Answered}
use Rattle.world_model.specs.Explaining.{LearntAgree}
use Rattle.world_model.specs.Flushing.{IsStart, IsStarted}
use Rattle.world_model.specs.Reaching.{HoldsPut, IsAllowed, AreHonest}
use Rattle.world_model.specs.Outputs.{replied_at, replied_by}
use Rattle.world_model.specs.Telling.{WasLearnt, WereLearnt, TellsReply, TellsAnswer, TellsText, TextsTold, TellsPiece, HoldsToldParts}
use Rattle.world_model.specs.Telling.{ReplicaIsBacked, ListsAreBacked, WorldIsBacked}
use Rattle.world_model.specs.Worlds.{WorldState, TakesAt, SubmitsAt, AsksAt, ArmsAt, RestartsAt, Steps, recorded, with_node}
use Rattle.world_model.specs.Worlds.{with_submission, without_wait, learnt_by, answered, replica_in, replica_at}
use Rattle.world_model.proofs.Parts.CheckpointPuts.{IsCheckpointOfNode, checkpoint_put}
use Rattle.world_model.proofs.Parts.HeldParts.{PartsCome, set_cases, was_still, text_still, piece_still, fetches_still, fetches_of, still_told}
use Rattle.world_model.proofs.Parts.HeldParts.{restored_text}
use Rattle.world_model.proofs.OneNode.ListedPuts.{GoesOn, KeepsPuts, put_by, same_goes, same_lists}
use Rattle.world_model.proofs.OneNode.NodeComes.{NodeGoesOn, node_goes, restart_goes}
use Rattle.world_model.proofs.Refinement.OfTheRun.{up_at}
use Rattle.world_model.proofs.Steps.Preserved.{HoldsOf, step_holds, recorded_nodes, submission_nodes}
use Rattle.world_model.proofs.OneNode.RestartLemmas.{loads_or_down}
use Rattle.world_model.proofs.Refinement.SafetyLemmas.{none_put}
use Rattle.node_model.proofs.Saying.{IsPartOf}
use Rattle.world_model.proofs.Parts.SentParts.{Brings, part_in, takes_sends}
use Rattle.world_model.proofs.OneNode.VotesStand.{held_shown}
use Rattle.world_model.proofs.Refinement.WorldMoves.{set_there}

-- ---- lists
-- what stands in a list to which a function is applied is its value at an element
pub out_of_map : {A B : Type 0} (f : A → B) (xs : List A) (y : B) → Contains (map f xs) y → (x : A) × Contains xs x × (f x ≡ y)
out_of_map f [] y c = absurd (none_in y c)
out_of_map f (x ∷ xs) y c = elim (Contains-append_cases (f x ∷ []) (map f xs) y c) [
  | inl first ↦ elim (Contains-push_cases [] (f x) y first) [
    | inl nothing ↦ absurd (none_in y nothing)
    | inr same ↦ (x, Contains-append_left (x ∷ []) xs x (Contains-push [] x), same)
  ]
  | inr later ↦
      let rest = out_of_map f xs y later in (rest.0, Contains-append_right (x ∷ []) xs rest.0 rest.1, rest.2)
]

-- ---- what was learnt stays so
module _ (learnt more : List LearntEntry) where
  reply_still : (p : Replied) → TellsReply learnt p → TellsReply (learnt ++ more) p
  reply_still p t = record {
    log = t.log;
    known = λ slot c e. was_still learnt more slot c (t.known slot c e);
    replies = t.replies;
  }

  answer_still : (a : Answered) → TellsAnswer learnt a → TellsAnswer (learnt ++ more) a
  answer_still a t = record {
    log = t.log;
    known = λ slot c e. was_still learnt more slot c (t.known slot c e);
    position = t.position;
    answers = t.answers;
  }

  knows_still : (m : ReplicaState) → ReplicaIsBacked learnt m → ReplicaIsBacked (learnt ++ more) m
  knows_still m k = record {
    base = k.base;
    begins = λ slot c e. was_still learnt more slot c (k.begins slot c e);
    listed = λ slot c e. was_still learnt more slot c (k.listed slot c e);
    meaning = k.meaning;
    fetches = fetches_still learnt more m.fetching k.fetches;
  }

-- what is told now is in the longer list
now_learnt : (learnt : List LearntEntry) (i : ℕ) (o : Option LearntCommand) (slot : ℕ) (c : Command)
    → o ≡ Some (record { slot = slot; command = c }) → WasLearnt (learnt ++ learnt_by i o) slot c
now_learnt learnt i None slot c e = absurd (cc)
now_learnt learnt i (Some d) slot c e =
    let is : d ≡ record { slot = slot; command = c } = same_Some d (record { slot = slot; command = c }) e in
    record {
      entry = record { node = i; slot = d.slot; command = d.command };
      there = Contains-push learnt (record { node = i; slot = d.slot; command = d.command });
      at = ap (λ (x : LearntCommand). x.slot) is;
      holds = ap (λ (x : LearntCommand). x.command) is;
    }

-- what stands in front in two lists that are joined
get_before : {A : Type 0} (xs ys : List A) (k : ℕ) (x : A) → k < length xs → slice_get (xs ++ ys) k ≡ Some x → slice_get xs k ≡ Some x
get_before [] ys k x less e = absurd (omega (arith, less))
get_before (z ∷ xs) ys zero x less e = e
get_before (z ∷ xs) ys (suc k) x less e = get_before xs ys k x (omega (arith, less)) e

-- of what a node is the meaning was learnt, by it or by some node before it began
pub known_of : (learnt : List LearntEntry) (m : ReplicaState) (k : ReplicaIsBacked learnt m) → WereLearnt learnt (executed_from k.base m)
known_of learnt m k slot c e = elim (cases_lt slot (length k.base)) [
  | inl below ↦ k.begins slot c
      (get_before k.base (commands m.learner.learnt m.learner.first (position m - m.learner.first)) slot c below e)
  | inr from ↦ k.listed slot c (learnt_behind k.base m k.meaning slot c from e)
]

-- ---- what a node tells
-- what it knows then, of what its replies are, and which parts it sends
record Says (learnt : List LearntEntry) (after : Option ReplicaState) (said : Response) : Type 0 where
  knows : (m : ReplicaState) → after ≡ Some m → ReplicaIsBacked learnt m
  replied : (e : ReplyOut) → Contains said.replies e → (log : List Command) × WereLearnt learnt log × IsReplyOf log e
  parts : (e : Envelope) (p : Piece) → Contains said.sends e → e.message ≡ SnapPart p → TellsPiece learnt p

-- one that is down, and one that knows what it knew
says_down : (learnt : List LearntEntry) (after : Option ReplicaState) → after ≡ None → Says learnt after silence
says_down learnt after gone = record {
  knows = λ m e. absurd (let h : None ≡ Some m = sym gone ∙ e in cc);
  replied = λ e c. absurd (none_in e c);
  parts = λ e p c brings. absurd (none_in e c);
}

says_still : (learnt : List LearntEntry) (before after : Option ReplicaState) → after ≡ before
    → ((m : ReplicaState) → before ≡ Some m → ReplicaIsBacked learnt m) → Says learnt after silence
says_still learnt before after same knew = record {
  knows = λ m e. knew m (sym same ∙ e);
  replied = λ e c. absurd (none_in e c);
  parts = λ e p c brings. absurd (none_in e c);
}

-- ---- one that takes an input
-- whatever the input, it has learnt no more than it tells, and what it fetches is told
module _ (learnt : List LearntEntry) (i : ℕ) (old new : ReplicaState) (input : Input) (said : Response) (takes : Takes old input new said)
    (knew : ReplicaIsBacked learnt old) (comes : PartsCome learnt input) where
  listed_then : (slot : ℕ) (c : Command) → learnt_in new slot ≡ Some c → WasLearnt (learnt ++ learnt_by i said.learnt) slot c
  listed_then slot c there = elim ((takes_tells old new said input takes).told slot c there) [
    | inl before ↦ was_still learnt (learnt_by i said.learnt) slot c (knew.listed slot c before)
    | inr now ↦ now_learnt learnt i said.learnt slot c now
  ]

  fetched_then : IfSome new.fetching (HoldsToldParts (learnt ++ learnt_by i said.learnt))
  fetched_then =
      fetches_still learnt (learnt_by i said.learnt) new.fetching
      (still_told learnt old input knew.fetches comes new said (fetches_of old new said input takes))

  -- it knows this where it is the meaning of a list of what was learnt and of what it has learnt behind it
  knows_then : (base : List Command) → WereLearnt learnt base → IsMeaningOf base new → ReplicaIsBacked (learnt ++ learnt_by i said.learnt) new
  knows_then base begins means = record {
    base = base;
    begins = λ slot c e. was_still learnt (learnt_by i said.learnt) slot c (begins slot c e);
    listed = listed_then;
    meaning = means;
    fetches = fetched_then;
  }

  -- it sends parts of its own text alone
  sent_then : ((p : Piece) → IsPartOf old.acceptor p → TellsPiece learnt p) → (e : Envelope) (p : Piece) → Contains said.sends e
      → e.message ≡ SnapPart p → TellsPiece (learnt ++ learnt_by i said.learnt) p
  sent_then own e p sent brings =
      let part : Brings (IsPartOf old.acceptor) e =
      All-contains (Brings (IsPartOf old.acceptor)) said.sends e (takes_sends old new said input takes) sent in
      piece_still learnt (learnt_by i said.learnt) p
      (own p (subst (λ (m : Message). IfSome (part_in m) (IsPartOf old.acceptor)) brings part))

  says_then : (base : List Command) → WereLearnt learnt base → IsMeaningOf base new
      → ((e : ReplyOut) → Contains said.replies e → IsReplyOf (executed_from base new) e)
      → ((p : Piece) → IsPartOf old.acceptor p → TellsPiece learnt p) → Says (learnt ++ learnt_by i said.learnt) (Some new) said
  unfolding knows_then
  says_then base begins means replies own =
      let known : ReplicaIsBacked (learnt ++ learnt_by i said.learnt) new = knows_then base begins means in
      record {
        knows = λ m e. subst (ReplicaIsBacked (learnt ++ learnt_by i said.learnt)) (same_Some new m e) known;
        replied = λ e c. (executed_from base new, known_of (learnt ++ learnt_by i said.learnt) new known, replies e c);
        parts = sent_then own;
      }

  -- one that restores a text begins anew, with the commands whose text it is; any other goes on from what it was
  says_taken : LearntAgree learnt → ((p : Piece) → IsPartOf old.acceptor p → TellsPiece learnt p) → (o : Option ℕ)
      → said.restored ≡ o → (o ≡ None → GoesOnFrom knew.base old new said)
      → ((base : List Command) → IfSome o (λ target. length base ≡ target → IsSnapshot base (fetched_text old input)
      → RestoresFrom base old new said)) → Says (learnt ++ learnt_by i said.learnt) (Some new) said
  says_taken agree own None is goes restores =
      let on : GoesOnFrom knew.base old new said = goes refl in
      says_then knew.base knew.begins on.meaning on.replies_ own
  says_taken agree own (Some target) is goes restores =
      let text : TellsText learnt target (fetched_text old input) =
      restored_text learnt old input knew.fetches comes agree new said (fetches_of old new said input takes) target is in
      let anew : RestoresFrom text.log old new said = restores text.log text.length_ text.is in
      says_then text.log text.known anew.meaning anew.replies_ own

-- ---- what a node tells on an input
abbrev said_of : Result Response NodeFault → Response
said_of (Ok said) = said
said_of (Err f) = silence

stops_or_refuses : (b : Bool) {P Q : Type 0} → MatchBool b P Q → P ⊎ Q
stops_or_refuses true h = inl h
stops_or_refuses false h = inr h

-- what is told of a text that is restored, of a node that is up then
abbrev RestoresTo : ReplicaState → Input → List Command → Option ReplicaState → Response → ℕ → Type 0
RestoresTo m input base after said target =
    length base ≡ target → IsSnapshot base (fetched_text m input) → IfSome after (λ n. RestoresFrom base m n said)

module _ {S : Type 0} (storages : Ghosts S) (learnt : List LearntEntry) (agree : LearntAgree learnt) (i : ℕ) (before after : NodeState S)
    (input : Input) (comes : PartsCome learnt input) where
  -- by whether it was up, and whether it took the input
  node_says : (up : Option ReplicaState) (result : Result Response NodeFault) → before.up ≡ up → ((m : ReplicaState) → up ≡ Some m → ReplicaIsBacked learnt m)
      → ((m : ReplicaState) → up ≡ Some m → (p : Piece) → IsPartOf m.acceptor p → TellsPiece learnt p)
      → (up ≡ None → (result ≡ Err fault.Down) × (after ≡ before))
      → IfSome up (λ m. IfOk result (λ said. TakesInput storages before m input said after))
      → IfSome up (λ m. IfErr result (λ f. MatchBool (is_stop_fault f)
      (StopsOnInput storages before m input f after) (RefusesInput before m input f after)))
      → ((base : List Command) → IfSome up (λ m. IsMeaningOf base m → IfOk result (λ said.
      said.restored ≡ None → IfSome after.up (λ n. GoesOnFrom base m n said))))
      → ((base : List Command) → IfSome up (λ m. IfOk result (λ said. IfSome said.restored (λ target.
      length base ≡ target → IsSnapshot base (fetched_text m input) → IfSome after.up (λ n. RestoresFrom base m n said)))))
      → Says (learnt ++ learnt_by i (said_of result).learnt) after.up (said_of result)
  node_says None (Ok said) here knew own down taken refused goes restores =
      absurd (let h : ◌≡◌ {A = Result Response NodeFault} (Ok said) (Err fault.Down) = (down refl).0 in cc)
  node_says None (Err f) here knew own down taken refused goes restores =
      says_down (learnt ++ []) after.up (ap (λ (n : NodeState S). n.up) (down refl).1 ∙ here)
  node_says (Some m) (Ok said) here knew own down taken refused goes restores =
      let is : after.up ≡ Some taken.replica = ap (λ (n : NodeState S). n.up) taken.leaves in
      let base : List Command = (knew m refl).base in
      subst (λ (o : Option ReplicaState). Says (learnt ++ learnt_by i said.learnt) o said) (sym is)
      (says_taken learnt i m taken.replica input said taken.takes (knew m refl) comes agree (own m refl) said.restored refl
      (λ none. subst (λ (o : Option ReplicaState). IfSome o (λ n. GoesOnFrom base m n said)) is (goes base (knew m refl).meaning none))
      (λ anew. subst (λ (o : Option ReplicaState). IfSome said.restored (RestoresTo m input anew o said)) is (restores anew)))
  node_says (Some m) (Err f) here knew own down taken refused goes restores = elim (stops_or_refuses (is_stop_fault f) refused) [
    | inl stops ↦ says_down (learnt ++ []) after.up (ap (λ (n : NodeState S). n.up) stops.leaves)
    | inr refuses ↦
        says_still (learnt ++ []) (Some m) after.up (ap (λ (n : NodeState S). n.up) refuses.leaves ∙ here)
        (λ k e. knows_still learnt [] k (knew k e))
  ]

-- ---- and the lists
new_reply : (learnt : List LearntEntry) (i : ℕ) (after : Option ReplicaState) (said : Response) → Says learnt after said
    → (p : Replied) → Contains (replied_by i said.replies) p → TellsReply learnt p
new_reply learnt i after said says p c =
    let of = out_of_map (replied_at i) said.replies p c in
    let reply = says.replied of.0 of.1 in
    subst (TellsReply learnt) of.2 (record { log = reply.0; known = reply.1; replies = reply.2 })

-- ---- the texts of a storage
module _ {S : Type 0} (contents : Script S → Records) where
  texts_still : (learnt more : List LearntEntry) (s : Script S) → TextsTold contents learnt s → TextsTold contents (learnt ++ more) s
  texts_still learnt more s told c fits took = text_still learnt more c.position c.text (told c fits took)

  -- a storage goes on: what is new is the one checkpoint that was put, if one was
  texts_go_on : (learnt : List LearntEntry) (made : Option Write) (a b : Script S) → GoesOn contents made a b
      → ((c : Checkpointed) → CheckpointFits c → made ≡ Some (key.Checkpoint, checkpoint_bytes c) → TellsText learnt c.position c.text)
      → TextsTold contents learnt a → TextsTold contents learnt b
  texts_go_on learnt made a b goes put told c fits took = elim (goes.new (key.Checkpoint, checkpoint_bytes c) took) [
    | inl before ↦ told c fits before
    | inr now ↦ put c fits now.0
  ]

  -- nothing is put
  texts_stay : (learnt : List LearntEntry) (a b : Script S) → GoesOn contents None a b → TextsTold contents learnt a → TextsTold contents learnt b
  texts_stay learnt a b goes =
      texts_go_on learnt None a b goes (λ c fits e. absurd (none-some (key.Checkpoint, checkpoint_bytes c) e))

-- a checkpoint of a node is the text of what it knows
node_text : (learnt : List LearntEntry) (m : ReplicaState) (c : Checkpointed) → ReplicaIsBacked learnt m → IsCheckpointOfNode m c
    → TellsText learnt c.position c.text
node_text learnt m c knows of =
    let log : List Command = executed_from knows.base m in
    subst (λ (x : Checkpointed). TellsText learnt x.position x.text) (sym of.is) (record {
      log = log;
      known = known_of learnt m knows;
      length_ = as_many knows.base m knows.meaning;
      is = tells_each m.machine of.machine log knows.meaning.stands;
    })

-- the part of a node's own text is one of what was learnt, as its record took effect
own_part : {S : Type 0} (contents : Script S → Records) (learnt : List LearntEntry) (s : Script S) (a : Accepting) (p : Piece)
    (o : Option Checkpointed) → contents s key.Checkpoint ≡ option_map checkpoint_bytes o → IfSome o CheckpointFits
    → a.floor ≡ floor_of o → a.text ≡ text_of o → ((k : Key) → HoldsPut contents s k) → TextsTold contents learnt s → IsPartOf a p
    → TellsPiece learnt p
own_part contents learnt s a p None e fits floor text held told part =
    absurd (let short : false ≡ true = subst (λ (t : List ℕ). has_part t p.number ≡ true) text part.has in cc)
own_part contents learnt s a p (Some c) e fits floor text held told part =
    let is : TellsText learnt c.position c.text =
    told c fits (held_shown contents s held (key.Checkpoint, checkpoint_bytes c) e) in
    record {
      text = a.text;
      told = subst (λ (n : ℕ). TellsText learnt n a.text) (sym floor ∙ part.at)
          (subst (λ (t : List ℕ). TellsText learnt c.position t) (sym text) is);
      is = part.is;
    }

said_tells : {S : Type 0} (contents : Script S → Records) (nodes : List (NodeState (Script S))) (frames : List Envelope)
    (learnt : List LearntEntry) (replies : List Replied) (answers : List Answered)
    (i : ℕ) (after : NodeState (Script S)) (said : Response) → ListsAreBacked contents nodes frames learnt replies answers
    → Says (learnt ++ learnt_by i said.learnt) after.up said → TextsTold contents learnt after.storage
    → ListsAreBacked contents (slice_set nodes i after) (frames ++ said.sends) (learnt ++ learnt_by i said.learnt)
    (replies ++ replied_by i said.replies) answers
said_tells {S} contents nodes frames learnt replies answers i after said t says texts = record {
  replied = λ p c. elim (Contains-append_cases replies (replied_by i said.replies) p c) [
    | inl old ↦ reply_still learnt (learnt_by i said.learnt) p (t.replied p old)
    | inr new ↦ new_reply (learnt ++ learnt_by i said.learnt) i after.up said says p new
  ];
  answered = λ a c. answer_still learnt (learnt_by i said.learnt) a (t.answered a c);
  knows = λ j n m there up. elim (set_cases nodes i j after n there) [
    | inl at ↦ says.knows m (ap (λ (x : NodeState (Script S)). x.up) at.1 ∙ up)
    | inr elsewhere ↦ knows_still learnt (learnt_by i said.learnt) m (t.knows j n m elsewhere up)
  ];
  texts = λ j n there. texts_still contents learnt (learnt_by i said.learnt) n.storage (elim (set_cases nodes i j after n there) [
    | inl at ↦ subst (λ (x : NodeState (Script S)). TextsTold contents learnt x.storage) at.1 texts
    | inr elsewhere ↦ t.texts j n elsewhere
  ]);
  parts = λ e p c brings. elim (Contains-append_cases frames said.sends e c) [
    | inl sent ↦ piece_still learnt (learnt_by i said.learnt) p (t.parts e p sent brings)
    | inr now ↦ says.parts e p now brings
  ];
}

-- nothing is told
quiet_tells : {S : Type 0} (contents : Script S → Records) (nodes : List (NodeState (Script S))) (frames : List Envelope)
    (learnt : List LearntEntry) (replies : List Replied) (answers : List Answered)
    → ListsAreBacked contents nodes (frames ++ []) (learnt ++ []) (replies ++ []) answers
    → ListsAreBacked contents nodes frames learnt replies answers
quiet_tells contents nodes frames learnt replies answers t =
    subst (λ (fs : List Envelope). ListsAreBacked contents nodes fs learnt replies answers) (append-nil frames)
    (subst (λ (ls : List LearntEntry). ListsAreBacked contents nodes (frames ++ []) ls replies answers) (append-nil learnt)
    (subst (λ (rs : List Replied). ListsAreBacked contents nodes (frames ++ []) (learnt ++ []) rs answers) (append-nil replies) t))

changed_tells : {S : Type 0} (contents : Script S → Records) (old : WorldState S) (node : ℕ) (after : NodeState (Script S))
    → WorldIsBacked contents old → Says old.learnt after.up silence → TextsTold contents old.learnt after.storage
    → ListsAreBacked contents (slice_set old.nodes node after) old.frames old.learnt old.replies old.answers
changed_tells contents old node after tells says texts =
    quiet_tells contents (slice_set old.nodes node after) old.frames old.learnt old.replies old.answers
    (said_tells contents old.nodes old.frames old.learnt old.replies old.answers node after silence tells
    (subst (λ (ls : List LearntEntry). Says ls after.up silence) (sym (append-nil old.learnt)) says) texts)

-- ---- a node that has loaded its records
-- it has learnt nothing, and is the meaning of the list with which it began
loaded_knows : (learnt : List LearntEntry) (records : Records) (id nodes : ℕ) (m : ReplicaState) (base : List Command) → WereLearnt learnt base
    → IsBaseOf records base → IsLoaded records id nodes m → ReplicaIsBacked learnt m
loaded_knows learnt records id nodes m base begins is loaded = record {
  base = base;
  begins = begins;
  listed = λ slot c e. absurd (let h : None ≡ Some c = sym (ap (λ (l : Learning). l.learnt slot) loaded.learner) ∙ e in cc);
  meaning = loaded_means records id nodes m base loaded is;
  fetches = subst (λ (o : Option Fetching). IfSome o (HoldsToldParts learnt)) (sym loaded.fetching) tt;
}

-- without a checkpoint it begins with nothing
begins_with_nothing : (learnt : List LearntEntry) (records : Records) (id nodes : ℕ) (m : ReplicaState) → records key.Checkpoint ≡ None
    → IsLoaded records id nodes m → ReplicaIsBacked learnt m
begins_with_nothing learnt records id nodes m none loaded =
    let base : List Command = [] in
    loaded_knows learnt records id nodes m base (λ slot c e. absurd (let h : None ≡ Some c = e in cc))
    (subst (λ (o : Option (List ℕ)). MatchOption o (base ≡ []) (IsCheckpointOf base)) (sym none) refl) loaded

-- the checkpoint in its record was put, so it is the text of what was learnt: it begins with that
begins_with_text : {S : Type 0} (contents : Script S → Records) (learnt : List LearntEntry) (s : Script S) (id nodes : ℕ) (m : ReplicaState)
    (c : Checkpointed) → contents s key.Checkpoint ≡ Some (checkpoint_bytes c) → CheckpointFits c
    → ((k : Key) → HoldsPut contents s k) → TextsTold contents learnt s → IsLoaded (contents s) id nodes m → ReplicaIsBacked learnt m
begins_with_text contents learnt s id nodes m c there fits held told loaded =
    let t : TellsText learnt c.position c.text =
    told c fits (held_shown contents s held (key.Checkpoint, checkpoint_bytes c) there) in
    let base : IsCheckpointOf t.log (checkpoint_bytes c) =
    record { checkpoint = c; fits = fits; spelled = refl; length_ = t.length_; text = t.is } in
    loaded_knows learnt (contents s) id nodes m t.log t.known
    (subst (λ (o : Option (List ℕ)). MatchOption o (t.log ≡ []) (IsCheckpointOf t.log)) (sym there) base) loaded

begins_with : {S : Type 0} (contents : Script S → Records) (learnt : List LearntEntry) (s : Script S) (id nodes : ℕ) (m : ReplicaState)
    (o : Option Checkpointed) → contents s key.Checkpoint ≡ option_map checkpoint_bytes o → IfSome o CheckpointFits
    → ((k : Key) → HoldsPut contents s k) → TextsTold contents learnt s → IsLoaded (contents s) id nodes m → ReplicaIsBacked learnt m
begins_with contents learnt s id nodes m None e fits held told loaded = begins_with_nothing learnt (contents s) id nodes m e loaded
begins_with contents learnt s id nodes m (Some c) e fits held told loaded =
    begins_with_text contents learnt s id nodes m c e fits held told loaded

-- ---- the kinds of step
module _ {S : Type 0} {storages : Ghosts (Script S)} (laws : IsLawful storages) (lists : KeepsPuts storages)
    (armed_contents : (s : Script S) (f : Failing) → storages.contents (record s { armed = Some f }) ≡ storages.contents s) where
  abbrev Told : WorldState S → Type 0
  Told w = WorldIsBacked storages.contents w

  abbrev Allowed : WorldState S → Type 0
  Allowed w = IsAllowed storages.contents w.nodes w.frames w.learnt w.submitted

  abbrev Honest : WorldState S → Type 0
  Honest w = AreHonest storages.IsHonest w.nodes

  recorded_result : (old : WorldState S) (i : ℕ) (after : NodeState (Script S)) (result : Result Response NodeFault)
      → ListsAreBacked storages.contents (slice_set old.nodes i after) (old.frames ++ (said_of result).sends)
      (old.learnt ++ learnt_by i (said_of result).learnt) (old.replies ++ replied_by i (said_of result).replies) old.answers
      → Told (recorded (with_node old i after) i result)
  recorded_result old i after (Ok said) t = t
  recorded_result old i after (Err f) t =
      quiet_tells storages.contents (slice_set old.nodes i after) old.frames old.learnt old.replies old.answers t

  -- the storage of the node that takes an input
  taken_texts : (old : WorldState S) (node : ℕ) (i : Input) (before after : NodeState (Script S)) → slice_get old.nodes node ≡ Some before
      → NodeGoesOn storages.contents i before after → Allowed old → Told old → TextsTold storages.contents old.learnt after.storage
  taken_texts old node i before after here on allowed tells =
      texts_go_on storages.contents old.learnt (put_by on.made) before.storage after.storage on.goes
      (λ c fits e. elim on.writes [
        | inl none ↦ absurd (none-some (key.Checkpoint, checkpoint_bytes c) (ap put_by (sym none) ∙ e))
        | inr writer ↦
            let m : ReplicaState = writer.0 in
            let there : replica_at old node ≡ Some m = ap (λ (o : Option (NodeState (Script S))). replica_in o) here ∙ writer.1 in
            let says = (up_at storages.contents old allowed node m there).records.acceptor in
            node_text old.learnt m c (tells.knows node before m here writer.1) (checkpoint_put _ m i on.made says writer.2 c fits e)
      ]) (tells.texts node before here)

  -- the parts of its own text
  own_parts : (old : WorldState S) (node : ℕ) (before : NodeState (Script S)) → slice_get old.nodes node ≡ Some before → Allowed old
      → Told old → (m : ReplicaState) → before.up ≡ Some m → (p : Piece) → IsPartOf m.acceptor p → TellsPiece old.learnt p
  own_parts old node before here allowed tells m up p part =
      let there : replica_at old node ≡ Some m = ap (λ (o : Option (NodeState (Script S))). replica_in o) here ∙ up in
      let at = up_at storages.contents old allowed node m there in
      let says = at.records.acceptor in
      own_part storages.contents old.learnt at.node.storage m.acceptor p says.checkpointed says.checkpoint_record says.checkpoint_fits
      says.floor says.text (allowed.stands.node node at.node at.here).puts.held (tells.texts node at.node at.here) part

  own_honest : (old new : WorldState S) (node : ℕ) (before after : NodeState (Script S)) → slice_get old.nodes node ≡ Some before
      → new.nodes ≡ slice_set old.nodes node after → Honest new → storages.IsHonest after.storage
  own_honest old new node before after here nodes honest =
      honest node after (ap (λ (ns : List (NodeState (Script S))). slice_get ns node) nodes ∙ set_there old.nodes node after before here)

  takes_at : (old : WorldState S) (node : ℕ) (i : Input) (taken : Bool) (new : WorldState S)
      → TakesAt storages old node i taken new → PartsCome old.learnt i → Honest new → Allowed old → LearntAgree old.learnt → Told old
      → Told new
  takes_at old node i taken new t comes honest allowed agree tells =
      let own : storages.IsHonest t.after.storage =
      own_honest old new node t.before t.after t.here
      (ap (λ (w : WorldState S). w.nodes) t.leaves ∙ recorded_nodes (with_node old node t.after) node t.result) honest in
      subst (λ (w : WorldState S). Told w) (sym t.leaves)
      (recorded_result old node t.after t.result
      (said_tells storages.contents old.nodes old.frames old.learnt old.replies old.answers node t.after (said_of t.result) tells
      (node_says storages old.learnt agree node t.before t.after i comes t.before.up t.result refl
      (λ m up. tells.knows node t.before m t.here up) (own_parts old node t.before t.here allowed tells)
      t.steps.down t.steps.taken t.steps.refused t.meaning.goes_on t.meaning.restores)
      (taken_texts old node i t.before t.after t.here (node_goes laws lists t.before t.after i t.result t.steps own) allowed tells)))

  submission_tells : (w : WorldState S) (taken : Bool) (node : ℕ) (r : Submission) → Told w → Told (with_submission w taken node r)
  submission_tells w true node r t = t
  submission_tells w false node r t = t

  submits_at : (old : WorldState S) (node : ℕ) (r : Submission) (new : WorldState S)
      → SubmitsAt storages old node r new → Honest new → Allowed old → LearntAgree old.learnt → Told old → Told new
  submits_at old node r new s honest allowed agree tells =
      let then : Honest s.between = subst (λ (x : List (NodeState (Script S))). AreHonest storages.IsHonest x)
      (ap (λ (w : WorldState S). w.nodes) s.leaves ∙ submission_nodes s.between s.taken node r) honest in
      subst (λ (w : WorldState S). Told w) (sym s.leaves)
      (submission_tells s.between s.taken node r
      (takes_at old node (input.Submit r.client r.number r.op) s.taken s.between s.takes (λ e p is brings. absurd cc) then allowed agree
      tells))

  restarts_at : (old : WorldState S) (node : ℕ) (new : WorldState S) → RestartsAt storages old node new
      → Honest new → Allowed old → Told old → Told new
  restarts_at old node new r honest allowed tells =
      let own : storages.IsHonest r.after.storage =
      own_honest old new node r.before r.after r.here (ap (λ (w : WorldState S). w.nodes) r.leaves) honest in
      let loads = loads_or_down r.before r.after r.result r.restarts own in
      let held = (allowed.stands.node node r.before r.here).puts.held in
      let texts : TextsTold storages.contents old.learnt r.before.storage = tells.texts node r.before r.here in
      subst (λ (w : WorldState S). Told w) (sym r.leaves)
      (changed_tells storages.contents old node r.after tells (record {
        knows = λ m up.
            let loaded : IsLoaded (storages.contents r.before.storage) r.before.id r.before.nodes m =
            subst (λ (o : Option ReplicaState). IfSome o (IsLoaded (storages.contents r.before.storage) r.before.id r.before.nodes)) up loads in
            begins_with storages.contents old.learnt r.before.storage r.before.id r.before.nodes m loaded.acceptor.checkpointed
            loaded.acceptor.checkpoint_record loaded.acceptor.checkpoint_fits held texts loaded;
        replied = λ e c. absurd (none_in e c);
        parts = λ e p c brings. absurd (none_in e c);
      })
      (texts_stay storages.contents old.learnt r.before.storage r.after.storage
      (restart_goes laws lists r.before r.after r.result r.restarts own) texts))

  arms_at : (old : WorldState S) (node : ℕ) (failing : Failing) (new : WorldState S) → ArmsAt old node failing new → Told old → Told new
  arms_at old node failing new a tells =
      let after : NodeState (Script S) = record a.before { storage = record a.before.storage { armed = Some failing } } in
      subst (λ (w : WorldState S). Told w) (sym a.leaves)
      (changed_tells storages.contents old node after tells
      (says_still old.learnt a.before.up a.before.up refl (λ m up. tells.knows node a.before m a.here up))
      (texts_stay storages.contents old.learnt a.before.storage after.storage
      (same_goes storages.contents None a.before.storage after.storage
      (same_lists storages.contents a.before.storage after.storage (armed_contents a.before.storage failing) refl refl))
      (tells.texts node a.before a.here)))

  -- ---- queries
  abbrev answer_at : ℕ → Query → ℕ → List ℕ → Answered
  answer_at node query position text = record { node = node; position = position; query = query; text = text }

  answer_tells : (learnt : List LearntEntry) (node : ℕ) (query : Query) (at : ℕ) (text : List ℕ) (up : Option ReplicaState)
      → ((m : ReplicaState) → up ≡ Some m → ReplicaIsBacked learnt m) → (up ≡ None → ⊥) → IfSome up (λ m. at ≡ position m)
      → ((base : List Command) → IfSome up (λ m. IsMeaningOf base m → Answers (executed_from base m) query text))
      → TellsAnswer learnt (answer_at node query at text)
  answer_tells learnt node query at text None knew some says_at says = absurd (some refl)
  answer_tells learnt node query at text (Some m) knew some says_at says =
      let knows : ReplicaIsBacked learnt m = knew m refl in
      record {
        log = executed_from knows.base m;
        known = known_of learnt m knows;
        position = says_at ∙ sym (as_many knows.base m knows.meaning);
        answers = says knows.base knows.meaning;
      }

  answered_tells : (old : WorldState S) (node : ℕ) (n : NodeState (Script S)) (query : Query)
      (result : Result (ℕ × List ℕ) NodeFault) → slice_get old.nodes node ≡ Some n → NodeAnswers n query result
      → AnswersMeaning n query result → Told old → Told (answered old node query result)
  answered_tells old node n query (Ok answer) here says means t =
      let new : TellsAnswer old.learnt (answer_at node query answer.0 answer.1) =
      answer_tells old.learnt node query answer.0 answer.1 n.up (λ m up. t.knows node n m here up)
      (λ gone. let h : ◌≡◌ {A = Result (ℕ × List ℕ) NodeFault} (Ok answer) (Err fault.Down) = says.down gone in cc)
      says.position_ means.answers in
      record {
        replied = t.replied;
        answered = λ a c. elim (Contains-push_cases old.answers (answer_at node query answer.0 answer.1) a c) [
          | inl before ↦ t.answered a before
          | inr same ↦ subst (TellsAnswer old.learnt) same new
        ];
        knows = t.knows;
        texts = t.texts;
        parts = t.parts;
      }
  answered_tells old node n query (Err f) here says means t = t

  asks_at : (old : WorldState S) (node : ℕ) (query : Query) (new : WorldState S) → AsksAt old node query new → Told old → Told new
  asks_at old node query new a tells =
      subst (λ (w : WorldState S). Told w) (sym a.leaves)
      (answered_tells old node a.asked query a.result a.here a.answers a.meaning tells)

  -- ---- each step
  -- a frame that comes was sent, so its part is told, and it fits
  frame_comes : (old : WorldState S) (k : ℕ) (frame : Envelope) → slice_get old.frames k ≡ Some frame → Fits 7 frame → Told old
      → PartsCome old.learnt (input.Message frame)
  frame_comes old k frame sent fits tells e p is brings =
      let same : frame ≡ e = cc in
      let message : frame.message ≡ SnapPart p = ap (λ (x : Envelope). x.message) same ∙ brings in (
        subst (λ (m : Message). MessageFits 7 m) message fits.message,
        tells.parts frame p
            (k, slice_get_within old.frames k frame sent, get_or_from_slice_get old.frames k frame frame sent) message,
      )

  tell : HoldsOf storages (λ old e new. Honest new → Allowed old → LearntAgree old.learnt → Told old → Told new)
  tell = record {
    takes = λ old e node i taken new h own honest allowed agree tells.
        takes_at old node i taken new h (λ frame p is. absurd (own.unsent frame is)) honest allowed agree tells;
    submits = λ old e node r new h honest allowed agree tells. submits_at old node r new h honest allowed agree tells;
    hears = λ old e k frame taken new sent fits h honest allowed agree tells.
        takes_at (without_wait old k) frame.to (input.Message frame) taken new h (frame_comes old k frame sent fits tells) honest allowed
        agree tells;
    loses = λ old e k o new brings h honest allowed agree tells. subst (λ (w : WorldState S). Told w) (sym h) tells;
    restarts = λ old node new h honest allowed agree tells. restarts_at old node new h honest allowed tells;
    arms = λ old e node failing new h honest allowed agree tells. arms_at old node failing new h tells;
    answers = λ old e node query new h honest allowed agree tells. asks_at old node query new h tells;
  }

  pub steps_keep_lists : (old new : WorldState S) (e : Event) → Steps storages old e new → Honest new → Allowed old → LearntAgree old.learnt
      → Told old → Told new
  steps_keep_lists old new e h honest allowed agree tells = step_holds tell old e new h honest allowed agree tells

-- ---- the start
-- nothing is told, and no node has learnt or executed anything
pub start_tells : {S : Type 0} (storages : Ghosts (Script S)) (count : ℕ) (w : WorldState S) → IsStart storages count w
    → AreHonest storages.IsHonest w.nodes → WorldIsBacked storages.contents w
start_tells {S} storages count w s honest =
    subst (λ (x : WorldState S). WorldIsBacked storages.contents x) (sym s.nothing) (record {
      replied = λ p c. absurd (none_in p c);
      answered = λ a c. absurd (none_in a c);
      knows = λ i n m here up.
          let started : IsStarted storages i count n = s.nodes.each i n here in
          begins_with_nothing [] no_records i count m refl
          (subst (λ (o : Option ReplicaState). IfSome o (IsLoaded no_records i count)) up (started.up (honest i n here)));
      texts = λ i n here c fits took.
          absurd (none_put n.storage (key.Checkpoint, checkpoint_bytes c) (s.nodes.each i n here).unused took);
      parts = λ e p c brings. absurd (none_in e c);
    })
