-- What a learner does is allowed by the protocol.
use Rattle.std.proofs.Common.{◌≡◌, ℕ, ◌<◌, ◌&&◌, nat_eq, List, [], ◌∷◌, ◌++◌, Option, Some, None, Contains, inl, inr, refl, sym, ◌∙◌}
use Rattle.std.proofs.Common.{subst, arith, append-nil}
use Rattle.std.proofs.lemmas.Bool.Decides.{nat_tests, eqb_tells}
use Rattle.std.proofs.lemmas.List.Elements.{Contains-append_left, Contains-push}
use Rattle.synod.specs.Majorities.{Majority}
use Rattle.synod.specs.Messages.{Accepted, Decided}
use Rattle.synod.specs.Volatile.{Volatile}
use Rattle.synod.specs.Records.{put}
use Rattle.synod.specs.Acts as act
use Rattle.synod.specs.Acts.{Membership, Input, Local, Does, Came, Brings, acted, thinks}
use Rattle.synod.specs.declared.ballot.Ballot.{Ballot}
use Rattle.synod.specs.declared.vote.Vote.{Vote}
use Rattle.synod.proofs.Doing.{does_nothing, does_one, does_then}
use Rattle.sessions.specs.declared.command.Command.{Command}
use Rattle.learner.specs.Learning.{Learning, HearsVote, HearsDecided, IsDecided, with_heard, with_learnt, told_too, unheard, is_same_ballot}
use Rattle.learner.specs.Learning.{ignores, hears, learns, ignores_decided, learns_decided}
use Rattle.learner.specs.Protocol.{LearnerStands, LearnerMayLearn}
use Rattle.learner.specs.declared.learned.Learned.{Learned}
use Rattle.learner.proofs.TallyLemmas.{true_or_false, one_ballot, left_of, right_of}

-- what is put at one slot is there, and what was there at the others
at_slot : {A : Type 0} (f : ℕ → A) (slot : ℕ) (x : A) (P : ℕ → A → Type 0) → P slot x → ((s : ℕ) → P s (f s))
    → (s : ℕ) → P s (put f slot x s)
at_slot f slot x P there else_ s = elim (eqb_tells s slot) [
  | inl same ↦ rw same.0 (subst (λ i. P i x) (sym same.1) there)
  | inr other ↦ rw other.0 (else_ s)
]

-- the same, of another result that is this
along : {f : Membership Command} {i : ℕ} {input : Input Command} {x : Local Command} {c : Command}
    {learned other : Option Learned} {new state : Learning}
    → learned ≡ other → new ≡ state → LearnerMayLearn f i input x c learned new → LearnerMayLearn f i input x c other state
along {f} {i} {input} {x} {c} {learned} {other} {new} {state} e k may =
    subst (λ l. LearnerMayLearn f i input x c other l) k (subst (λ o. LearnerMayLearn f i input x c o new) e may)

module _ (f : Membership Command) (i : ℕ) (x : Local Command) (old : Learning) (stands : LearnerStands old x.replica) where
  -- nothing joins the history
  none_learnt : (input : Input Command) (m : Volatile Command) → Does f i input x (thinks x m)
      → Does f i input x (record x { replica = m; learnt = x.learnt ++ [] })
  none_learnt input m does = subst (λ l. Does f i input x (record x { replica = m; learnt = l })) (sym (append-nil x.learnt)) does

  changes_nothing : (input : Input Command) (c : Command) → LearnerMayLearn f i input x c None old
  changes_nothing input c = record {
    learnt = x.replica.learnt;
    heard = x.replica.heard;
    does = none_learnt input x.replica (does_nothing f i input x);
    stands = stands;
  }

  -- what stands once the slot is learnt, whatever else is heard
  abbrev learnt_replica : ℕ → Command → List (ℕ × Vote Command) → Volatile Command
  learnt_replica s c heard = record x.replica { learnt = put x.replica.learnt s (Some c); heard = heard }

  stands_learnt : (s : ℕ) (c : Command) (more : List (ℕ × Vote Command))
      → LearnerStands (with_learnt old s c) (learnt_replica s c (x.replica.heard ++ more))
  stands_learnt s c more = record {
    learnt = λ n. elim (eqb_tells n s) [
      | inl same ↦ rw same.0 refl
      | inr other ↦ rw other.0 (stands.learnt n)
    ];
    heard = λ n a b d below. at_slot old.heard s unheard
        (λ q h. h b a ≡ Some d → Contains (x.replica.heard ++ more) (a, record { slot = q; ballot = b; command = d }))
        (λ told. absurd (let bad : None ≡ Some d = told in cc))
        (λ q told. Contains-append_left x.replica.heard more _ (stands.heard q a b d below told)) n;
  }

  module _ (from : ℕ) (v : Vote Command) where
    abbrev input : Input Command
    input = Came from (Accepted v)

    abbrev hearing : List (ℕ × Vote Command)
    hearing = x.replica.heard ++ (from, v) ∷ []

    -- what is kept of the slot with the telling has been heard
    heard_of_slot : (a : ℕ) (b : Ballot) (c : Command) → a < old.nodes → told_too (old.heard v.slot) v.ballot from v.command b a ≡ Some c
        → Contains hearing (a, record { slot = v.slot; ballot = b; command = c })
    heard_of_slot a b c below told = elim (true_or_false (is_same_ballot b v.ballot && nat_eq a from)) [
      | inl same ↦
          let ballot : b ≡ v.ballot = one_ballot b v.ballot (left_of (is_same_ballot b v.ballot) (nat_eq a from) same) in
          let node : a ≡ from = grind (arith, nat_tests, right_of (is_same_ballot b v.ballot) (nat_eq a from) same) in
          let one : Some v.command ≡ Some c = sym (rw same refl) ∙ told in
          let command : v.command ≡ c = cc in
          let pair : (from, v) ≡ (a, record { slot = v.slot; ballot = b; command = c }) =
          λ p. (sym node p, record { slot = v.slot; ballot = sym ballot p; command = command p }) in
          subst (Contains hearing) pair (Contains-push x.replica.heard (from, v))
      | inr other ↦
          Contains-append_left x.replica.heard ((from, v) ∷ []) _ (stands.heard v.slot a b c below (sym (rw other refl) ∙ told))
    ]

    stands_heard : LearnerStands (with_heard old from v) (record x.replica { heard = hearing })
    stands_heard = record {
      learnt = stands.learnt;
      heard = λ s a b c below. at_slot old.heard v.slot (told_too (old.heard v.slot) v.ballot from v.command)
          (λ q h. h b a ≡ Some c → Contains hearing (a, record { slot = q; ballot = b; command = c }))
          (heard_of_slot a b c below) (λ q told. Contains-append_left x.replica.heard ((from, v) ∷ []) _ (stands.heard q a b c below told)) s;
    }

    is_heard : LearnerMayLearn f i input x v.command None (with_heard old from v)
    is_heard = record {
      learnt = x.replica.learnt;
      heard = hearing;
      does = none_learnt input (record x.replica { heard = hearing }) (does_one f i input x (act.Hears from v) refl);
      stands = stands_heard;
    }

    is_learnt : f.nodes ≡ old.nodes → IsDecided old.nodes (old.heard v.slot) v.ballot from v.command
        → LearnerMayLearn f i input x v.command (Some (record { slot = v.slot })) (with_learnt old v.slot v.command)
    is_learnt same most =
        let between : Local Command = acted i x (act.Hears from v) in
        let may : act.MayLearn f input between.replica v.slot v.command = inl (
          v.ballot,
          subst (λ n. Majority n (λ a. Contains hearing (a, v))) (sym same) (record {
            members = most.members;
            most = most.most;
            each = λ a l e. heard_of_slot a v.ballot v.command l (most.each a l e);
          }),
        ) in
        record {
          learnt = put x.replica.learnt v.slot (Some v.command);
          heard = hearing;
          does = does_then f i input (does_one f i input x (act.Hears from v) refl)
              (does_one f i input between (act.Learns v.slot v.command) may);
          stands = stands_learnt v.slot v.command ((from, v) ∷ []);
        }

    -- the news of a vote
    pub allows_vote : f.nodes ≡ old.nodes → (learned : Option Learned) (new : Learning) → HearsVote old from v learned new
        → LearnerMayLearn f i input x v.command learned new
    allows_vote same learned new (ignores never e k) = along (sym e) (sym k) (changes_nothing input v.command)
    allows_vote same learned new (hears counts few e k) = along (sym e) (sym k) is_heard
    allows_vote same learned new (learns counts most e k) = along (sym e) (sym k) (is_learnt same most)

  -- a decided slot
  pub allows_decided : (input : Input Command) (s : ℕ) (c : Command) → Brings input (Decided s c)
      → (learned : Option Learned) (new : Learning)
      → HearsDecided old s c learned new → LearnerMayLearn f i input x c learned new
  allows_decided input s c brings learned new (ignores_decided never e k) = along (sym e) (sym k) (changes_nothing input c)
  allows_decided input s c brings learned new (learns_decided open_ e k) =
      along (sym e) (sym k) (record {
        learnt = put x.replica.learnt s (Some c);
        heard = x.replica.heard;
        does = does_one f i input x (act.Learns s c) (inr brings);
        stands = subst (λ h. LearnerStands (with_learnt old s c) (learnt_replica s c h)) (append-nil x.replica.heard) (stands_learnt s c []);
      })
