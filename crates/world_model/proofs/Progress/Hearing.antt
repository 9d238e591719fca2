-- A node hears of a majority's votes for one command, and learns it.
use Rattle.std.proofs.Common.{◌≡◌, ◌≢◌, ◌⊎◌, ℕ, suc, ◌<◌, ◌≤◌, ◌&&◌, inl, inr, List, length, nat_eq, Bool, true, false, Option, Some, None}
use Rattle.std.proofs.Common.{AllPairs, Contains, IsSome, refl, sym, ap, subst, ◌∙◌, arith}
use Rattle.std.proofs.lemmas.Bool.{cond-true, cond-false, cases_lt, and_from, and_right, eq-eqb, ne_eqb}
use Rattle.synod.specs.Majorities.{IsMajority, Majority, counted}
use Rattle.synod.specs.declared.ballot.Ballot.{Ballot}
use Rattle.synod.specs.declared.vote.Vote.{Vote}
use Rattle.synod.proofs.Meeting.{tests_meet}
use Rattle.synod.proofs.Puts.{put_same}
use Rattle.sessions.specs.Same.{same_command, same_command_Decides}
use Rattle.sessions.specs.declared.command.Command.{Command}
use Rattle.learner.specs.declared.learned.Learned.{Learned}
use Rattle.learner.specs.Learning.{Learning, Heard, HearsVote, told_too, is_same_ballot, with_heard}
use Rattle.learner.specs.Learning.HearsVote.{ignores, hears, learns}
use Rattle.wire.specs.declared.frames.envelope.Envelope.{Envelope}
use Rattle.wire.specs.declared.frames.message.Message.TheVariants.{Accepted}
use Rattle.node_model.specs.declared.input.Input.TheVariants as input
use Rattle.node_model.specs.Inputs.{role_of}
use Rattle.node_model.specs.Inputs.Role.{Learner, Fetcher}
use Rattle.node_model.specs.Replicas.{ReplicaState}
use Rattle.node_model.specs.Outputs.{Response}
use Rattle.node_model.specs.Taking.{Takes, TakesMessage}
use Rattle.node_model.proofs.Hearings.{learns_nothing}
use Rattle.node_model.proofs.Keeping.{KeepsLearnt, vote_keeps, heard_learner, takes_keeps}
use Rattle.world_model.proofs.Progress.Leading.{members_counted}

-- what a learner knows of the slot when the members below k have told of their votes: each of these was heard, and nobody else, and
-- it isn't learnt
pub record HeardBelow (l : Learning) (slot : ℕ) (ballot : Ballot) (c : Command) (members : List ℕ) (k : ℕ) : Type 0 where
  pub kept : l.first ≤ slot
  pub unlearnt : l.learnt slot ≡ None
  pub told : (a : ℕ) → a < k → Contains members a → l.heard slot ballot a ≡ Some c
  pub untold : (a : ℕ) → k ≤ a → a < l.nodes → l.heard slot ballot a ≡ None
  pub too_few : Majority l.nodes (λ a. l.heard slot ballot a ≡ Some c) → ⊥

-- or it is learnt
abbrev pub HasHeard : Learning → ℕ → Ballot → Command → List ℕ → ℕ → Type 0
HasHeard l slot ballot c members k = (l.learnt slot ≡ Some c) ⊎ HeardBelow l slot ballot c members k

module _ (l : Learning) (slot : ℕ) (ballot : Ballot) (c : Command) (members : List ℕ) where
  -- nobody is heard: that is no majority
  no_majority : ((a : ℕ) → a < l.nodes → l.heard slot ballot a ≡ None) → Majority l.nodes (λ a. l.heard slot ballot a ≡ Some c) → ⊥
  no_majority none m =
      let one = tests_meet l.nodes m.members m.members m.most m.most in
      let clash : None ≡ Some c = sym (none one.0 one.1) ∙ m.each one.0 one.1 one.2 in cc

  pub none_heard : l.first ≤ slot → l.learnt slot ≡ None → ((a : ℕ) → a < l.nodes → l.heard slot ballot a ≡ None)
      → HeardBelow l slot ballot c members 0
  none_heard kept unlearnt none = record {
    kept = kept;
    unlearnt = unlearnt;
    told = λ a low _. absurd (omega (arith, low));
    untold = λ a _ below. none a below;
    too_few = no_majority none;
  }

  -- one that is no member is passed over
  passed_below : (k : ℕ) → (Contains members k → ⊥) → HeardBelow l slot ballot c members k → HeardBelow l slot ballot c members (suc k)
  passed_below k other h = record {
    kept = h.kept;
    unlearnt = h.unlearnt;
    told = λ a low in'. elim (cases_lt a k) [
      | inl less ↦ h.told a less in'
      | inr not ↦ absurd (other (subst (λ (n : ℕ). Contains members n) (let same : a ≡ k = omega (arith, low, not) in same) in'))
    ];
    untold = λ a from below. h.untold a (omega (arith, from)) below;
    too_few = h.too_few;
  }

  pub passed_one : (k : ℕ) → (Contains members k → ⊥) → HasHeard l slot ballot c members k → HasHeard l slot ballot c members (suc k)
  passed_one k other h = elim h [ inl learnt ↦ inl learnt | inr heard ↦ inr (passed_below k other heard) ]

-- ---- a telling is kept
same_ballots : (b : Ballot) → is_same_ballot b b ≡ true
same_ballots b = and_from (nat_eq b.round b.round) (nat_eq b.node b.node) (eq-eqb b.round b.round refl) (eq-eqb b.node b.node refl)

-- what node k told, and what the others did
told_here : (heard : Heard) (b : Ballot) (k : ℕ) (c : Command) (a : ℕ) → a ≡ k → told_too heard b k c b a ≡ Some c
told_here heard b k c a e =
    cond-true (is_same_ballot b b && nat_eq a k) (Some c) (heard b a)
    (and_from (is_same_ballot b b) (nat_eq a k) (same_ballots b) (eq-eqb a k e))

told_there : (heard : Heard) (b : Ballot) (k : ℕ) (c : Command) (a : ℕ) → (a ≡ k → ⊥) → told_too heard b k c b a ≡ heard b a
told_there heard b k c a ne =
    cond-false (is_same_ballot b b && nat_eq a k) (Some c) (heard b a) (and_right (is_same_ballot b b) (nat_eq a k) (ne_eqb a k ne))

module _ (l : Learning) (slot : ℕ) (ballot : Ballot) (c : Command) (members : List ℕ) (k : ℕ) where
  abbrev vote : Vote Command
  vote = record { slot = slot; ballot = ballot; command = c }

  -- what is heard of the slot then
  heard_then : (a : ℕ) → (with_heard l k vote).heard slot ballot a ≡ told_too (l.heard slot) ballot k c ballot a
  heard_then a = ap (λ (h : Heard). h ballot a) (put_same l.heard slot (told_too (l.heard slot) ballot k c))

  heard_below : HeardBelow l slot ballot c members k
      → (Majority l.nodes (λ a. told_too (l.heard slot) ballot k c ballot a ≡ Some c) → ⊥)
      → HeardBelow (with_heard l k vote) slot ballot c members (suc k)
  heard_below h few = record {
    kept = h.kept;
    unlearnt = h.unlearnt;
    told = λ a low in'. elim (cases_lt a k) [
      | inl less ↦ heard_then a ∙ told_there (l.heard slot) ballot k c a (λ e. omega (arith, e, less)) ∙ h.told a less in'
      | inr not ↦ heard_then a ∙ told_here (l.heard slot) ballot k c a (omega (arith, low, not))
    ];
    untold = λ a from below.
        heard_then a ∙ told_there (l.heard slot) ballot k c a (λ e. omega (arith, e, from)) ∙ h.untold a (omega (arith, from)) below;
    too_few = λ m. few (record { members = m.members; most = m.most; each = λ a below e. sym (heard_then a) ∙ m.each a below e });
  }

  -- the learner as it hears of the vote
  heard_cases : (learned : Option Learned) (new : Learning) → k < l.nodes → HearsVote l k vote learned new
      → HeardBelow l slot ballot c members k → HasHeard new slot ballot c members (suc k)
  heard_cases learned new below (ignores never none same) h =
      absurd (never (record {
        of_the_run = below;
        in_time = record { kept = h.kept; unlearnt = h.unlearnt };
        once = h.untold k (omega arith) below;
      }))
  heard_cases learned new below (hears counts few none same) h =
      inr (subst (λ (x : Learning). HeardBelow x slot ballot c members (suc k)) (sym same) (heard_below h few))
  heard_cases learned new below (learns counts decided some same) h =
      inl (ap (λ (x : Learning). x.learnt slot) same ∙ put_same l.learnt slot (Some c))

-- what is learnt stays learnt
still_learnt : (old new : Learning) (slot : ℕ) (c : Command) → KeepsLearnt old new → old.learnt slot ≡ Some c → new.learnt slot ≡ Some c
still_learnt old new slot c keeps is = keeps.still slot (subst (λ (o : Option Command). IsSome o) (sym is) refl) ∙ is

-- a member's telling
pub heard_one : (l : Learning) (slot : ℕ) (ballot : Ballot) (c : Command) (members : List ℕ) (k : ℕ) (learned : Option Learned)
    (new : Learning) → HasHeard l slot ballot c members k → k < l.nodes
    → HearsVote l k (record { slot = slot; ballot = ballot; command = c }) learned new → HasHeard new slot ballot c members (suc k)
heard_one l slot ballot c members k learned new h below hears' = elim h [
  | inl learnt ↦
      inl (still_learnt l new slot c (vote_keeps l new k (vote l slot ballot c members k) learned hears') learnt)
  | inr heard ↦ heard_cases l slot ballot c members k learned new below hears' heard
]

-- ---- all were heard
-- the command was told
abbrev is_told : Command → Option Command → Bool
is_told c None = false
is_told c (Some d) = same_command d c

told_is : (c : Command) (o : Option Command) → is_told c o ≡ true → o ≡ Some c
told_is c None e = absurd (cc)
told_is c (Some d) e = ap (λ (x : Command). Some x) ((same_command_Decides d c).0 e)

is_told_so : (c : Command) (o : Option Command) → o ≡ Some c → is_told c o ≡ true
is_told_so c o e = ap (λ (x : Option Command). is_told c x) e ∙ (same_command_Decides c c).1 refl

all_told : (l : Learning) (slot : ℕ) (ballot : Ballot) (c : Command) (members : List ℕ) → IsMajority l.nodes (length members)
    → AllPairs ◌≢◌ members → ((a : ℕ) → Contains members a → a < l.nodes) → HeardBelow l slot ballot c members l.nodes
    → Majority l.nodes (λ a. l.heard slot ballot a ≡ Some c)
all_told l slot ballot c members most pairs below h =
    let p : ℕ → Bool = λ a. is_told c (l.heard slot ballot a) in
    let many : length members ≤ counted p l.nodes =
    members_counted l.nodes p members pairs below (λ a in'. is_told_so c (l.heard slot ballot a) (h.told a (below a in') in')) in
    record { members = p; most = omega (arith, most, many); each = λ a _ e. told_is c (l.heard slot ballot a) e }

pub heard_all : (l : Learning) (slot : ℕ) (ballot : Ballot) (c : Command) (members : List ℕ) → IsMajority l.nodes (length members)
    → AllPairs ◌≢◌ members → ((a : ℕ) → Contains members a → a < l.nodes) → HasHeard l slot ballot c members l.nodes
    → l.learnt slot ≡ Some c
heard_all l slot ballot c members most pairs below h = elim h [
  | inl learnt ↦ learnt
  | inr heard ↦ absurd (heard.too_few (all_told l slot ballot c members most pairs below heard))
]

-- ---- a node
-- where the message tells of a vote, it has heard of the vote
pub hears_of_vote : (old : ReplicaState) (from : ℕ) (v : Vote Command) (new : ReplicaState) (said : Response)
    → TakesMessage old from (Accepted v) new said → (learned : Option Learned) × HearsVote old.learner from v learned new.learner
hears_of_vote old from v new said (learned, l, heard, k) = (
  learned,
  subst (λ (x : Learning). HearsVote old.learner from v learned x) (sym (heard_learner old new said v.command learned l _ k)) heard,
)

-- its learner is as it was, where the message is for another role, and brings no part of a text
pub same_learner : (old : ReplicaState) (e : Envelope) (new : ReplicaState) (said : Response) → role_of e.message ≢ Learner
    → role_of e.message ≢ Fetcher → Takes old (input.Message e) new said → new.learner ≡ old.learner
same_learner old e new said other apart h = (learns_nothing old new said e other apart h).learner

-- ---- whatever message comes
-- what is learnt stays learnt
pub stays_learnt : (m : ReplicaState) (e : Envelope) (new : ReplicaState) (said : Response) (slot : ℕ) (c : Command) → Takes m (input.Message e) new said
    → m.learner.learnt slot ≡ Some c → new.learner.learnt slot ≡ Some c
stays_learnt m e new said slot c takes = still_learnt m.learner new.learner slot c (takes_keeps m new said (input.Message e) takes)

-- it has as many nodes
pub same_number : (m : ReplicaState) (e : Envelope) (new : ReplicaState) (said : Response) → Takes m (input.Message e) new said
    → new.learner.nodes ≡ m.learner.nodes
same_number m e new said takes = (takes_keeps m new said (input.Message e) takes).nodes_
