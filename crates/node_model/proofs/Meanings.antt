-- A node goes on being the meaning of what it has learnt.
use Rattle.std.proofs.Common.{◌≡◌, ℕ, ◌+◌, ◌-◌, ◌<◌, ◌≤◌, List, [], ◌++◌, length, Option, Some, None, IsSome, IfSome}
use Rattle.std.proofs.Common.{IfOk, OnOk, Result, Ok, Err, Contains, refl, sym, ap, ◌∙◌, subst, append_assoc, append-nil, arith}
use Rattle.std.proofs.Common.{rules}
use Rattle.std.proofs.lemmas.List.{length-append}
use Rattle.synod.specs.declared.slot.TheConstants.{SLOTS}
use Rattle.synod.specs.declared.vote.Vote.{Vote}
use Rattle.sessions.specs.Meaning.{Answers}
use Rattle.sessions.specs.Standing.{StandsFor, AnswersAll}
use Rattle.sessions.specs.declared.command.Command.{Command}
use Rattle.learner.specs.Learning.{Learning, prefix, unlearnt_from, HearsVote, HearsDecided}
use Rattle.learner.specs.Learning.HearsVote.{ignores, hears, learns}
use Rattle.learner.specs.Learning.HearsDecided.{ignores_decided, learns_decided}
use Rattle.learner.specs.Prefixes.{IsPrefix}
use Rattle.learner.specs.declared.learned.Learned.{Learned}
use Rattle.learner.proofs.PrefixLemmas.{prefix_is}
use Rattle.wire.specs.declared.frames.envelope.Envelope.{Envelope}
use Rattle.store.specs.declared.query.Query.{Query}
use Rattle.node_model.specs.declared.fault.NodeFault.{NodeFault}
use Rattle.node_model.specs.declared.input.Input.{Input}
use Rattle.node_model.specs.Composition.{IsMeaningOf, executed_from, GoesOnFrom}
use Rattle.node_model.specs.Executing.{commands}
use Rattle.node_model.specs.Replicas.{ReplicaState, position}
use Rattle.node_model.specs.Outputs.{Response}
use Rattle.node_model.specs.Taking.{Takes, HearsOfVote, HearsOfDecided, Hears, Learns, news}
use Rattle.node_model.proofs.Commands.{commands_append, commands_same, commands_length, commands_none}
use Rattle.node_model.proofs.Hearings.{Hearing, heard_of}
use Rattle.node_model.proofs.Hearings.Hearing.{of_vote, of_decision, of_text, of_nothing}
use Rattle.node_model.proofs.Keeping.{KeepsLearnt, vote_keeps, decided_keeps, vote_first, decided_first}

-- ---- nothing is learnt
-- where neither what is learnt nor the machine changes, and there is no reply
pub goes_on_same : (base : List Command) (old new : ReplicaState) (said : Response) → IsMeaningOf base old
    → new.learner ≡ old.learner → new.machine ≡ old.machine → said.replies ≡ [] → GoesOnFrom base old new said
goes_on_same base old new said h learner machine none = record {
  meaning = record {
    begun = h.begun ∙ ap (λ (l : Learning). l.first) (sym learner);
    in_log = subst (λ (l : Learning). l.first ≤ SLOTS) (sym learner) h.in_log;
    stands = subst (λ (l : Learning). StandsFor new.machine (base ++ commands l.learnt l.first (prefix l - l.first))) (sym learner)
        (subst (λ m. StandsFor m (executed_from base old)) (sym machine) h.stands);
  };
  position_ = subst (λ (l : Learning). prefix old.learner ≤ prefix l) (sym learner) (omega arith);
  more = (
    [],
    ap (λ (l : Learning). base ++ commands l.learnt l.first (prefix l - l.first)) learner ∙ sym (append-nil (executed_from base old)),
  );
  replies_ = λ e there. absurd (let none_there : Contains [] e = subst (λ es. Contains es e) none there in search (rules, none_there));
}

-- ---- a learner has heard some news
same_prefix : (a b : Learning) → a.learnt ≡ b.learnt → a.first ≡ b.first → prefix a ≡ prefix b
unfolding prefix
same_prefix a b learnt first = rw learnt (rw first refl)

-- ---- as many commands as the position
module _ (base : List Command) (m : ReplicaState) (h : IsMeaningOf base m) where
  pub meaning_prefix : IsPrefix m.learner.learnt m.learner.first (position m)
  meaning_prefix = prefix_is m.learner h.in_log

  pub learnt_below : (s : ℕ) → m.learner.first ≤ s → s < m.learner.first + (position m - m.learner.first) → IsSome (m.learner.learnt s)
  learnt_below s from to = meaning_prefix.learnt_to.below s from (omega (arith, to, meaning_prefix.learnt_to.from))

  pub as_many : length (executed_from base m) ≡ position m
  as_many =
      let there : length (commands m.learner.learnt m.learner.first (position m - m.learner.first)) ≡ position m - m.learner.first =
      commands_length m.learner.learnt m.learner.first (position m - m.learner.first) learnt_below in
      let both : length (executed_from base m)
      ≡ length base + length (commands m.learner.learnt m.learner.first (position m - m.learner.first)) =
      length-append base _ in
      omega (arith, there, both, h.begun, meaning_prefix.learnt_to.from)

-- ---- what is learnt by now is what was learnt, and the news
module _ (base : List Command) (old : ReplicaState) (l : Learning) (h : IsMeaningOf base old) (keeps : KeepsLearnt old.learner l)
    (first : l.first ≡ old.learner.first) where
  abbrev before : ℕ
  before = position old

  is_prefix : IsPrefix old.learner.learnt old.learner.first before
  is_prefix = meaning_prefix base old h

  abbrev old_commands : List Command
  old_commands = commands old.learner.learnt old.learner.first (before - old.learner.first)

  grown : base ++ commands l.learnt l.first (prefix l - l.first) ≡ executed_from base old ++ news old l
  grown =
      let n : prefix l - old.learner.first ≡ (before - old.learner.first) + (prefix l - before) =
      omega (arith, keeps.grows, is_prefix.learnt_to.from) in
      let at : old.learner.first + (before - old.learner.first) ≡ before = omega (arith, is_prefix.learnt_to.from) in
      let same : commands l.learnt old.learner.first (before - old.learner.first) ≡ old_commands =
      commands_same l.learnt old.learner.learnt old.learner.first (before - old.learner.first)
      (λ s from to. keeps.still s (learnt_below base old h s from to)) in
      let all : commands l.learnt l.first (prefix l - l.first) ≡ old_commands ++ news old l =
      ap (λ (i : ℕ). commands l.learnt i (prefix l - i)) first
      ∙ ap (λ (k : ℕ). commands l.learnt old.learner.first k) n
      ∙ commands_append l.learnt old.learner.first (before - old.learner.first) (prefix l - before)
      ∙ ap (λ (cs : List Command). cs ++ commands l.learnt (old.learner.first + (before - old.learner.first)) (prefix l - before)) same
      ∙ ap (λ (i : ℕ). old_commands ++ commands l.learnt i (prefix l - before)) at in
      ap (λ (cs : List Command). base ++ cs) all ∙ sym (append_assoc base old_commands (news old l))

  pub goes_on_learning : (slot : ℕ) (c : Command) (asks : List Envelope) (new : ReplicaState) (said : Response)
      → Learns old slot c l asks new said → GoesOnFrom base old new said
  goes_on_learning slot c asks new said k =
      let learner : new.learner ≡ l = ap (λ (m : ReplicaState). m.learner) k.leaves in
      let whole : executed_from base new ≡ executed_from base old ++ news old l =
      ap (λ (x : Learning). base ++ commands x.learnt x.first (prefix x - x.first)) learner ∙ grown in
      record {
        meaning = record {
          begun = h.begun ∙ sym first ∙ ap (λ (x : Learning). x.first) (sym learner);
          in_log = subst (λ (x : Learning). x.first ≤ SLOTS) (sym learner) (subst (λ (n : ℕ). n ≤ SLOTS) (sym first) h.in_log);
          stands = rw whole (k.stands.stands (executed_from base old) h.stands);
        };
        position_ = subst (λ (x : Learning). before ≤ prefix x) (sym learner) keeps.grows;
        more = (news old l, whole);
        replies_ = λ e there. rw whole (k.replies.replies_ (executed_from base old) h.stands (as_many base old h) e there);
      }

  -- nothing is newly learnt, so the position stays
  pub goes_on_hearing : (learned : Option Learned) (c : Command) (asks : List Envelope) (new : ReplicaState) (said : Response)
      → (learned ≡ None → l.learnt ≡ old.learner.learnt) → Hears old c learned l asks new said → GoesOnFrom base old new said
  goes_on_hearing (Some learned) c asks new said same k = goes_on_learning learned.slot c asks new said k
  goes_on_hearing None c asks new said same k =
      let learner : new.learner ≡ l = ap (λ (m : ReplicaState). m.learner) k.0 in
      let machine : new.machine ≡ old.machine = ap (λ (m : ReplicaState). m.machine) k.0 in
      let learnt : l.learnt ≡ old.learner.learnt = same refl in
      let at : prefix l ≡ prefix old.learner = same_prefix l old.learner learnt first in
      let whole : executed_from base new ≡ executed_from base old =
      ap (λ (x : Learning). base ++ commands x.learnt x.first (prefix x - x.first)) learner
      ∙ ap (λ (f : ℕ → Option Command). base ++ commands f l.first (prefix l - l.first)) learnt
      ∙ ap (λ (i : ℕ). base ++ commands old.learner.learnt i (prefix l - i)) first
      ∙ ap (λ (p : ℕ). base ++ commands old.learner.learnt old.learner.first (p - old.learner.first)) at in
      record {
        meaning = record {
          begun = h.begun ∙ sym first ∙ ap (λ (x : Learning). x.first) (sym learner);
          in_log = subst (λ (x : Learning). x.first ≤ SLOTS) (sym learner) (subst (λ (n : ℕ). n ≤ SLOTS) (sym first) h.in_log);
          stands = rw whole (subst (λ m. StandsFor m (executed_from base old)) (sym machine) h.stands);
        };
        position_ = subst (λ (x : Learning). before ≤ prefix x) (sym learner) keeps.grows;
        more = ([], whole ∙ sym (append-nil (executed_from base old)));
        replies_ = λ e there. absurd (let none : said.replies ≡ [] = ap (λ (r : Response). r.replies) k.1 in
            let none_there : Contains [] e = subst (λ es. Contains es e) none there in search (rules, none_there));
      }

-- ---- each input
module _ (base : List Command) (old new : ReplicaState) (said : Response) (h : IsMeaningOf base old) where
  vote_goes_on : (from : ℕ) (v : Vote Command) → HearsOfVote old from v new said → GoesOnFrom base old new said
  vote_goes_on from v (learned, l, hears_, k) =
      goes_on_hearing base old l h (vote_keeps old.learner l from v learned hears_) (vote_first old.learner l from v learned hears_)
      learned v.command [] new said (unlearnt_by_vote l learned from v hears_) k
    where
      unlearnt_by_vote : (l : Learning) (learned : Option Learned) (from : ℕ) (v : Vote Command) → HearsVote old.learner from v learned l
          → learned ≡ None → l.learnt ≡ old.learner.learnt
      unlearnt_by_vote l learned from v (ignores never none same) e = ap (λ (x : Learning). x.learnt) same
      unlearnt_by_vote l learned from v (hears counts undecided none same) e = ap (λ (x : Learning). x.learnt) same
      unlearnt_by_vote l learned from v (learns counts decided some same) e = absurd (cc)

  decided_goes_on : (from slot : ℕ) (c : Command) → HearsOfDecided old from slot c new said → GoesOnFrom base old new said
  decided_goes_on from slot c (learned, l, hears_, k) =
      goes_on_hearing base old l h (decided_keeps old.learner l slot c learned hears_) (decided_first old.learner l slot c learned hears_)
      learned c _ new said (unlearnt_by_decided l learned slot c hears_) k
    where
      unlearnt_by_decided : (l : Learning) (learned : Option Learned) (slot : ℕ) (c : Command) → HearsDecided old.learner slot c learned l
          → learned ≡ None → l.learnt ≡ old.learner.learnt
      unlearnt_by_decided l learned slot c (ignores_decided never none same) e = ap (λ (x : Learning). x.learnt) same
      unlearnt_by_decided l learned slot c (learns_decided opened some same) e = absurd (cc)

  hearing_goes_on : (i : Input) → Hearing old i new said → said.restored ≡ None → GoesOnFrom base old new said
  hearing_goes_on i (of_vote from to v is k) none = vote_goes_on from v k
  hearing_goes_on i (of_decision from to slot c is k) none = decided_goes_on from slot c k
  hearing_goes_on i (of_text t) none =
      absurd (let clash : Some t.part.position ≡ None = sym (ap (λ (r : Response). r.restored) t.whole.says) ∙ none in cc)
  hearing_goes_on i (of_nothing same) none = goes_on_same base old new said h same.learner same.machine same.replies

  pub goes_on : (i : Input) → Takes old i new said → said.restored ≡ None → GoesOnFrom base old new said
  goes_on i k none = hearing_goes_on i (heard_of old new said i k) none

-- ---- a node
-- one that has just begun with a list, and has learnt nothing
pub meaning_begun : (base : List Command) (m : ReplicaState) (nodes first : ℕ) → m.learner ≡ unlearnt_from nodes first → length base ≡ first
    → first ≤ SLOTS → StandsFor m.machine base → IsMeaningOf base m
meaning_begun base m nodes first e many within h =
    let none : commands m.learner.learnt m.learner.first (position m - m.learner.first) ≡ [] =
    ap (λ (l : Learning). commands l.learnt m.learner.first (position m - m.learner.first)) e
    ∙ commands_none m.learner.first (position m - m.learner.first) in
    record {
      begun = many ∙ sym (ap (λ (l : Learning). l.first) e);
      in_log = subst (λ (l : Learning). l.first ≤ SLOTS) (sym e) within;
      stands = subst (λ (cs : List Command). StandsFor m.machine cs)
          (sym (ap (λ (cs : List Command). base ++ cs) none ∙ append-nil base)) h;
    }

-- one that was up, and took an input or not
pub meaning_stays : (base : List Command) (input : Input) (o p : Option ReplicaState) (m n : ReplicaState) (r : Result Response NodeFault) (Same : Type 0)
    → o ≡ Some m → OnOk r Same → (Same → p ≡ Some n) → IfOk r (λ said. Takes m input n said)
    → IfSome o (λ (a : ReplicaState). IsMeaningOf base a → IfOk r (λ said.
    said.restored ≡ None → IfSome p (λ (b : ReplicaState). GoesOnFrom base a b said)))
meaning_stays base input o p m n (Ok said) Same up same still takes =
    rw up (λ h. λ none. rw (still same) (goes_on base m n said h input takes none))
meaning_stays base input o p m n (Err f) Same up same still takes = rw up (λ h. tt)

-- its answer is that of each list of which it is the meaning
pub meaning_answers : (base : List Command) (o : Option ReplicaState) (m : ReplicaState) (query : Query) (text : List ℕ) → o ≡ Some m
    → AnswersAll m.machine query text
    → IfSome o (λ (a : ReplicaState). IsMeaningOf base a → Answers (executed_from base a) query text)
meaning_answers base o m query text up h = rw up (λ is. h.answers (executed_from base m) is.stands)
