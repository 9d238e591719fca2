-- Whoever proposes does so under a ballot of its own.
use Rattle.std.proofs.Common.{◌≡◌, ℕ, List, [], ◌∷◌, ◌++◌, Some, None, inl, inr, Contains, refl, sym, subst}
use Rattle.std.proofs.lemmas.List.Elements.{Contains-push_cases, Contains-append_cases}
use Rattle.synod.specs.declared.vote.Vote.{Vote}
use Rattle.synod.specs.Messages.{Message, Promise, Accept, Accepted, Decided, Plain, Frame}
use Rattle.synod.specs.History.{Sent}
use Rattle.synod.specs.Volatile.{Campaign, Volatile, blank, campaigning, proposal}
use Rattle.synod.specs.Acts as act
use Rattle.synod.specs.Acts.{Membership, Local, Input, Act, MayAct, MayDo, acted, done, sends, thinks, campaigns}
use Rattle.synod.specs.Runs.{World, Step, start, here, MayStep, stepped, Run, IsReached}
use Rattle.synod.proofs.Puts.{all_put}
use Rattle.synod.proofs.Thinking.{some_is, none_in}

-- a frame that proposes does so under a ballot of its sender
abbrev IsOwn : {C : Type 0} → Frame C → Type 0
IsOwn {C} r = (v : Vote C) → r.message ≡ Accept v → v.ballot.node ≡ r.sender

-- each of the frames does
abbrev AreOwn : {C : Type 0} → List (Frame C) → Type 0
AreOwn {C} frames = (r : Frame C) → Contains frames r → IsOwn r

-- the replica's campaign is under a ballot of node i
abbrev HasOwn : {C : Type 0} → ℕ → Volatile C → Type 0
HasOwn {C} i m = (k : Campaign C) → m.campaign ≡ Some k → k.ballot.node ≡ i

-- what node i has in its step is under its own ballots
record Keeps {C : Type 0} (i : ℕ) (x : Local C) : Type 0 where
  campaign : HasOwn i x.replica
  sent : AreOwn x.sent

-- what all nodes have is
record AllKeep {C : Type 0} (w : World C) : Type 0 where
  replicas : (i : ℕ) → HasOwn i (w.replica i)
  frames : AreOwn w.past.frames

module _ {C : Type 0} where
  -- one frame more
  own_push : (frames : List (Frame C)) (r : Frame C) → AreOwn frames → IsOwn r → AreOwn (frames ++ r ∷ [])
  own_push frames r old new z c = elim (Contains-push_cases frames r z c) [ inl was ↦ old z was | inr same ↦ subst IsOwn same new ]

  -- more frames
  own_append : (xs ys : List (Frame C)) → AreOwn xs → AreOwn ys → AreOwn (xs ++ ys)
  own_append xs ys p q z c = elim (Contains-append_cases xs ys z c) [ inl old ↦ p z old | inr new ↦ q z new ]

  -- another campaign under the node's ballot
  own_campaign : (i : ℕ) (m : Volatile C) (k : Campaign C) → k.ballot.node ≡ i → HasOwn i (campaigning m k)
  own_campaign i m k mine j e = subst (λ (q : Campaign C). q.ballot.node ≡ i) (some_is k j e) mine

  -- no campaign
  own_none : (i : ℕ) (m : Volatile C) → m.campaign ≡ None → HasOwn i m
  own_none i m none k e = absurd (cc)

  -- an accept request carries one vote
  one_vote : (u v : Vote C) → Accept u ≡ Accept v → u ≡ v
  one_vote u v e = cc

  -- a proposal under the node's ballot
  own_proposal : (i to : ℕ) (u : Vote C) → u.ballot.node ≡ i → IsOwn (record { sender = i; receiver = to; message = Accept u })
  own_proposal i to u mine v e = subst (λ (q : Vote C). q.ballot.node ≡ i) (one_vote u v e) mine

  module _ (i : ℕ) (x : Local C) (keeps : Keeps i x) where
    -- the node thinks on
    thinks_own : (m : Volatile C) → HasOwn i m → Keeps i (thinks x m)
    thinks_own m own = record { campaign = own; sent = keeps.sent }

    -- it goes on with this campaign
    campaigns_own : (k : Campaign C) → k.ballot.node ≡ i → Keeps i (campaigns x k)
    campaigns_own k mine = thinks_own (campaigning x.replica k) (own_campaign i x.replica k mine)

    -- it says something
    sends_own : (to : ℕ) (m : Message C) → IsOwn (record { sender = i; receiver = to; message = m }) → Keeps i (sends x i to m)
    sends_own to m own = record {
      campaign = keeps.campaign;
      sent = own_push x.sent (record { sender = i; receiver = to; message = m }) keeps.sent own;
    }

  -- an act keeps what is the node's own
  act_owns : (f : Membership C) (i : ℕ) (input : Input C) (x : Local C) (a : Act C) → MayAct f i input x a → Keeps i x → Keeps i (acted i x a)
  act_owns f i input x (act.Promises b) may keeps = record { campaign = keeps.campaign; sent = keeps.sent }
  act_owns f i input x (act.Tells to b first last told) may keeps = sends_own i x keeps to (Promise b first last told) (λ v e. absurd (cc))
  act_owns f i input x (act.Votes v) may keeps = record { campaign = keeps.campaign; sent = keeps.sent }
  act_owns f i input x (act.Confirms to v) may keeps = sends_own i x keeps to (Accepted v) (λ u e. absurd (cc))
  act_owns f i input x (act.Checkpoints floor) may keeps = record { campaign = keeps.campaign; sent = keeps.sent }
  act_owns f i input x act.Trims may keeps = record { campaign = keeps.campaign; sent = keeps.sent }
  act_owns f i input x (act.Begins b end) may keeps =
      record { campaign = own_campaign i x.replica _ may.0; sent = keeps.sent }
  act_owns f i input x (act.Counts k a last votes end told) may keeps = campaigns_own i x keeps _ (keeps.campaign k may.0)
  act_owns f i input x (act.Leads k) may keeps = campaigns_own i x keeps _ (keeps.campaign k may.0)
  act_owns f i input x (act.Proposes k to s c) may keeps =
      let mine : k.ballot.node ≡ i = keeps.campaign k may.0 in
      sends_own i (campaigns x _) (campaigns_own i x keeps _ mine) to (Accept (proposal k s c)) (own_proposal i to (proposal k s c) mine)
  act_owns f i input x (act.Repeats k to s c) may keeps =
      sends_own i x keeps to (Accept (proposal k s c)) (own_proposal i to (proposal k s c) (keeps.campaign k may.0))
  act_owns f i input x (act.Closes k proposals) may keeps = campaigns_own i x keeps _ (keeps.campaign k may.0)
  act_owns f i input x (act.Gathers k end) may keeps = campaigns_own i x keeps _ (keeps.campaign k may.0)
  act_owns f i input x act.Quits may keeps = thinks_own i x keeps _ (own_none i (record x.replica { campaign = None }) refl)
  act_owns f i input x (act.Hears a v) may keeps = record { campaign = keeps.campaign; sent = keeps.sent }
  act_owns f i input x (act.Learns s c) may keeps = record { campaign = keeps.campaign; sent = keeps.sent }
  act_owns f i input x (act.Reports to s c) may keeps = sends_own i x keeps to (Decided s c) (λ u e. absurd (cc))
  act_owns f i input x (act.Submits c) may keeps = record { campaign = keeps.campaign; sent = keeps.sent }
  act_owns f i input x (act.Advances position) may keeps = record { campaign = keeps.campaign; sent = keeps.sent }
  act_owns f i input x (act.Says to) may keeps = sends_own i x keeps to Plain (λ u e. absurd (cc))
  act_owns f i input x (act.Drops heard waiting) may keeps = record { campaign = keeps.campaign; sent = keeps.sent }
  act_owns f i input x act.Forgets may keeps = thinks_own i x keeps _ (own_none i blank refl)

  -- so do several
  acts_own : (f : Membership C) (i : ℕ) (input : Input C) (acts : List (Act C)) (x : Local C) → MayDo f i input x acts → Keeps i x
      → Keeps i (done i x acts)
  acts_own f i input [] x may keeps = keeps
  acts_own f i input (a ∷ acts) x may keeps =
      acts_own f i input acts (acted i x a) may.1 (act_owns f i input x a may.0 keeps)

  -- so does a step, at every node
  step_owns : (f : Membership C) (w : World C) (s : Step C) → MayStep f w s → AllKeep w → AllKeep (stepped w s)
  step_owns f w s may all =
      let y : Local C = done s.node (here w s.node) s.acts in
      let at_start : Keeps s.node (here w s.node) = record { campaign = all.replicas s.node; sent = λ r c. absurd (none_in r c) } in
      let after : Keeps s.node y = acts_own f s.node s.input s.acts (here w s.node) may.acts at_start in
      record {
        replicas = all_put (λ i (m : Volatile C). HasOwn i m) w.replica s.node y.replica after.campaign (λ j other. all.replicas j);
        frames = own_append w.past.frames y.sent all.frames after.sent;
      }

  -- so does a run
  run_owns : (f : Membership C) (w x : World C) (steps : List (Step C)) → Run f w steps x → AllKeep w → AllKeep x
  run_owns f w x [] run all = subst AllKeep (sym run) all
  run_owns f w x (s ∷ steps) run all = run_owns f (stepped w s) x steps run.1 (step_owns f w s run.0 all)

  -- and nobody has anything at the start
  start_owns : AllKeep {C = C} start
  start_owns = record { replicas = λ i. own_none i blank refl; frames = λ r c. absurd (none_in r c) }

  -- whoever proposes does so under a ballot of its own
  pub own_ballots : (f : Membership C) (w : World C) → IsReached f w → (a : ℕ) (v : Vote C) → Sent w.past a (Accept v) → v.ballot.node ≡ a
  own_ballots f w reached a v sent =
      (run_owns f start w reached.steps reached.run start_owns).frames
      (record { sender = a; receiver = sent.0; message = Accept v }) sent.1 v refl
