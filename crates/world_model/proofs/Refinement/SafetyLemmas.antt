-- What is allowed is safe.
use Rattle.std.proofs.Common.{◌≡◌, ◌⊎◌, ℕ, zero, suc, ◌<◌, inl, inr, List, [], ◌∷◌, map, length, slice_get, Bool, Option, Some, None}
use Rattle.std.proofs.Common.{IfSome, Contains, option_map, refl, sym, ap, subst, ◌∙◌, arith}
use Rattle.std.proofs.Math.ListN.{get_or}
use Rattle.std.proofs.lemmas.List.{length-map}
use Rattle.std.proofs.lemmas.Option.{slice_get_read, slice_get-get_or, slice_get-map, slice_get_within, get_or_from_slice_get, none-some}
use Rattle.synod.specs.Records.{no_records as nothing_written}
use Rattle.synod.specs.History.{Lesson}
use Rattle.synod.specs.Chosen.{Chosen}
use Rattle.synod.specs.Majorities.{IsMajority, counted}
use Rattle.synod.specs.Runs as synod_runs
use Rattle.synod.specs.Acts as act
use Rattle.synod.specs.declared.ballot.Ballot.{Ballot}
use Rattle.synod.specs.declared.vote.Vote.{Vote}
use Rattle.synod.proofs.Doing.{does_nothing}
use Rattle.synod.proofs.Thinking.{none_in}
use Rattle.synod.proofs.Running.{agreed_lem}
use Rattle.stable.specs.Records.{Records, no_records}
use Rattle.stable.specs.declared.stable.Stable.{Ghosts}
use Rattle.stable.specs.Script.{Script, Write}
use Rattle.acceptor.specs.Accepting.{Accepting}
use Rattle.acceptor.proofs.RecordLemmas.{RecordsSay-nothing}
use Rattle.sessions.specs.declared.command.Command.{Command}
use Rattle.sessions.specs.declared.command.Command.TheVariants.{NoOp, Request}
use Rattle.world_model.specs.declared.lists.Submitted.{Submitted}
use Rattle.world_model.specs.declared.lists.LearntEntry.{LearntEntry}
use Rattle.world_model.specs.Explaining.{LearntAgree, LearntGrounded}
use Rattle.world_model.specs.Flushing.{IsUnused, IsStart, IsStarted}
use Rattle.node_model.specs.Loading.{IsLoaded}
use Rattle.node_model.specs.Protocol.{RecordsAgree}
use Rattle.node_model.proofs.AllowedLoading.{blank_at}
use Rattle.world_model.specs.Protocol.{membership, frame_of, learnt_as}
use Rattle.world_model.specs.Reaching.{NodeStands, TookEffect, StandsAt, IsAllowed, AreHonest}
use Rattle.world_model.specs.Safety.{HasAgreed, writes_of}
use Rattle.node_model.specs.States.{NodeState}
use Rattle.world_model.specs.Submissions.{command_of, IsGrounded}
use Rattle.world_model.specs.Voting.{vote_put, HasVote, IsChosen, HasChosen}
use Rattle.world_model.specs.Worlds.{WorldState}
use Rattle.world_model.proofs.OneNode.RestartLemmas.{begins_at, begins_at_first, up_again}
use Rattle.world_model.proofs.OneNode.VotesStand.{each_held}

-- an element of a list that is told of one by one
map_contains : {A B : Type 0} (f : A → B) (xs : List A) (x : A) → Contains xs x → Contains (map f xs) (f x)
map_contains f xs x c =
    let here : slice_get xs c.0 ≡ Some x = slice_get_read xs (length xs) c.0 x refl c.1 (sym c.2) in
    let mapped : slice_get (map f xs) c.0 ≡ Some (f x) = slice_get-map f xs c.0 ∙ ap (option_map f) here in
    (c.0, slice_get_within (map f xs) c.0 (f x) mapped, get_or_from_slice_get (map f xs) c.0 (f x) (f x) mapped)

submitted_in : (submitted : List Submitted) (c : Command) → (c ≡ NoOp) ⊎ Contains (map command_of submitted) c → IsGrounded submitted c
submitted_in submitted NoOp h = tt
submitted_in submitted (Request r) (inl none) = absurd cc
submitted_in submitted (Request r) (inr c) =
    let lt : c.0 < length submitted = omega (arith, c.1, length-map submitted command_of) in
    let other : Submitted = record { node = 0; submission = r } in
    let s : Submitted = get_or submitted c.0 other in
    let here : slice_get submitted c.0 ≡ Some s = slice_get-get_or submitted c.0 other lt in
    let mapped : slice_get (map command_of submitted) c.0 ≡ Some (command_of s) = slice_get-map command_of submitted c.0
    ∙ ap (option_map command_of) here in
    let named : command_of s ≡ Request r = sym (get_or_from_slice_get (map command_of submitted) c.0 (command_of s) (Request r) mapped)
    ∙ c.2 in
    record {
      entry = s;
      taken = (c.0, lt, get_or_from_slice_get submitted c.0 s s here);
      carries = (let q : Request s.submission ≡ Request r = named in cc);
    }

module _ {S : Type 0} where
  chosen_of : (w : WorldState S) (h : HasAgreed w) (t : LearntEntry) → Contains w.learnt t
      → Chosen (length w.nodes) h.state.past t.slot t.command
  chosen_of w h t c = h.agreed.learnt (learnt_as t) (subst (λ (l : List (Lesson Command)). Contains l (learnt_as t)) (sym h.learnt)
      (map_contains learnt_as w.learnt t c))

  grounded_of : (w : WorldState S) (h : HasAgreed w) (slot : ℕ) (c : Command) → Chosen (length w.nodes) h.state.past slot c
      → IsGrounded w.submitted c
  grounded_of w h slot c chosen = submitted_in w.submitted c (elim (h.agreed.submitted slot c chosen) [
    | inl none ↦ inl none
    | inr asked ↦ inr (subst (λ (l : List Command). Contains l c) h.submitted asked)
  ])

  pub learnt_agree : (w : WorldState S) → HasAgreed w → LearntAgree w.learnt
  learnt_agree w h t u ct cu same =
      h.agreed.one t.slot t.command u.command (chosen_of w h t ct)
      (subst (λ s. Chosen (length w.nodes) h.state.past s u.command) (sym same) (chosen_of w h u cu))

  pub learnt_grounded : (w : WorldState S) → HasAgreed w → LearntGrounded w.submitted w.learnt
  learnt_grounded w h t c = grounded_of w h t.slot t.command (chosen_of w h t c)

-- ---- chosen in the past, and by the lists of writes
if_some : {A : Type 0} (o : Option A) (P : A → Type 0) → ((x : A) → o ≡ Some x → P x) → IfSome o P
if_some None P h = tt
if_some (Some x) P h = h x refl

one_there : {A : Type 0} (xs : List A) (i : ℕ) → i < length xs → (x : A) × (slice_get xs i ≡ Some x)
one_there [] i lt = absurd (omega arith)
one_there (x ∷ xs) zero lt = (x, refl)
one_there (x ∷ xs) (suc i) lt = one_there xs i (omega (arith, lt))

module _ {S : Type 0} where
  -- the writes of a node
  writes_at : (nodes : List (NodeState (Script S))) (i : ℕ) (n : NodeState (Script S)) → slice_get nodes i ≡ Some n
      → slice_get (writes_of nodes) i ≡ Some n.storage.writes
  writes_at nodes i n e =
      slice_get-map (λ (m : NodeState (Script S)). m.storage.writes) nodes i
      ∙ ap (option_map (λ (m : NodeState (Script S)). m.storage.writes)) e

  length-writes : (nodes : List (NodeState (Script S))) → length (writes_of nodes) ≡ length nodes
  length-writes nodes = length-map nodes (λ (m : NodeState (Script S)). m.storage.writes)

module _ {S : Type 0} (w : WorldState S) (h : HasAgreed w) where
  abbrev voted : ℕ → Ballot → Command → Vote Command
  voted slot b c = record { slot = slot; ballot = b; command = c }

  -- a majority of the nodes, and of their lists
  same_most : (members : ℕ → Bool) → IsMajority (length w.nodes) (counted members (length w.nodes))
      → IsMajority (length (writes_of w.nodes)) (counted members (length (writes_of w.nodes)))
  same_most members most = subst (λ n. IsMajority n (counted members n)) (sym (length-writes w.nodes)) most

  by_lists : (slot : ℕ) (c : Command) → Chosen (length w.nodes) h.state.past slot c → IsChosen (writes_of w.nodes) slot c
  by_lists slot c chosen = (
    chosen.0,
    record {
      members = chosen.1.members;
      most = same_most chosen.1.members chosen.1.most;
      each = λ a lt e.
          let below : a < length w.nodes = subst (λ n. a < n) (length-writes w.nodes) lt in
          let n = one_there w.nodes a below in
          subst (λ (o : Option (List Write)). IfSome o (λ writes. HasVote writes (voted slot chosen.0 c)))
          (sym (writes_at w.nodes a n.0 n.1))
          ((h.votes a n.0 n.1 (voted slot chosen.0 c)).0 (chosen.1.each a below e));
    },
  )

  in_the_past : (slot : ℕ) (c : Command) → IsChosen (writes_of w.nodes) slot c → Chosen (length w.nodes) h.state.past slot c
  in_the_past slot c chosen = (
    chosen.0,
    record {
      members = chosen.1.members;
      most = subst (λ n. IsMajority n (counted chosen.1.members n)) (length-writes w.nodes) chosen.1.most;
      each = λ a lt e.
          let n = one_there w.nodes a lt in
          let vote : HasVote n.0.storage.writes (voted slot chosen.0 c) =
          subst (λ (o : Option (List Write)). IfSome o (λ writes. HasVote writes (voted slot chosen.0 c))) (writes_at w.nodes a n.0 n.1)
          (chosen.1.each a (subst (λ n. a < n) (sym (length-writes w.nodes)) lt) e) in
          (h.votes a n.0 n.1 (voted slot chosen.0 c)).1 vote;
    },
  )

  pub has_chosen : HasChosen (writes_of w.nodes) w.learnt w.submitted
  has_chosen = record {
    all_learnt = λ t c. by_lists t.slot t.command (chosen_of w h t c);
    one = λ slot c d p q. h.agreed.one slot c d (in_the_past slot c p) (in_the_past slot d q);
    grounded = λ slot c p. grounded_of w h slot c (in_the_past slot c p);
  }

abbrev nothing_held : Accepting
nothing_held = record { promise = None; floor = 0; sealed = None; text = []; vote = λ s. None }

module _ {S : Type 0} {contents : Script S → Records} where
  pub allowed_agrees : (w : WorldState S) → IsAllowed contents w.nodes w.frames w.learnt w.submitted → HasAgreed w
  allowed_agrees w a = record {
    state = a.state;
    reached = a.reached;
    frames = a.stands.frames_;
    learnt = a.stands.learnt_;
    submitted = a.stands.submitted_;
    votes = λ i n e. (a.stands.node i n e).listed;
    agreed = agreed_lem (membership (length w.nodes)) a.state a.reached;
  }

-- ---- the start
nothing_agrees : (records : Records) → records ≡ no_records → RecordsAgree records nothing_written
nothing_agrees records e = subst (λ (c : Records). RecordsAgree c nothing_written) (sym e) (record {
  acceptor = nothing_held;
  round = zero;
  holds = record { acceptor = RecordsSay-nothing; covered = λ s v low held. absurd (omega (arith, low)); proposer = refl };
  stands = record { promise = refl; vote = λ s from. refl; round_ = refl; floor_ = refl };
})

module _ {S : Type 0} {storages : Ghosts (Script S)} where
  started_stands : (i count : ℕ) (n : NodeState (Script S)) → IsStarted storages i count n → storages.IsHonest n.storage
      → NodeStands storages.contents n (synod_runs.here synod_runs.start i)
  started_stands i count n h honest =
      let empty : storages.contents n.storage ≡ no_records = h.unused.empty honest in
      let first : begins_at n.up ≡ zero = begins_at_first i count n.up (h.up honest) in
      let loads : IfSome n.up (IsLoaded (storages.contents n.storage) n.id n.nodes) =
      subst (λ (c : Records). IfSome n.up (IsLoaded c n.id n.nodes)) (sym empty)
      (subst (λ k. IfSome n.up (IsLoaded no_records k n.nodes)) (sym h.member.number)
      (subst (λ k. IfSome n.up (IsLoaded no_records i k)) (sym h.member.of_all) (h.up honest))) in
      up_again n n (synod_runs.here synod_runs.start i) n.up refl refl (nothing_agrees (storages.contents n.storage) empty)
      (ap blank_at (sym first)) loads

  -- no put was made, and no vote cast
  pub none_put : (s : Script S) (write : Write) → IsUnused storages s → TookEffect storages.contents s write → ⊥
  none_put s write fresh (inl c) = none_in write (subst (λ (ws : List Write). Contains ws write) fresh.no_puts c)
  none_put s write fresh (inr u) = none-some write (sym fresh.sure ∙ u.0)

  stands_at_start : (i count : ℕ) (n : NodeState (Script S)) → IsStarted storages i count n → storages.IsHonest n.storage → (nodes : ℕ)
      → StandsAt storages.contents nodes i synod_runs.start.past (synod_runs.here synod_runs.start i) n
  stands_at_start i count n h honest nodes = record {
    listed = λ v. (λ c. absurd (none_in _ c), λ vote. absurd (none_put n.storage (vote_put v) h.unused (inl vote.written)));
    input = act.Nothing;
    came = tt;
    after = synod_runs.here synod_runs.start i;
    does = does_nothing (membership nodes) i act.Nothing (synod_runs.here synod_runs.start i);
    unsent = refl;
    unlearnt = refl;
    unsubmitted = refl;
    stands = started_stands i count n h honest;
    puts = record {
      held = each_held storages.contents n.storage
          (λ write shows. absurd (none-some write.1 (ap (λ (c : Records). c write.0) (sym (h.unused.empty honest)) ∙ shows)));
      fit = λ v c. absurd (none_in _ c);
      put = λ v c. absurd (none_in _ c);
      cast = λ v fits t. absurd (none_put n.storage (vote_put v) h.unused t);
    };
    sure = λ _. refl;
    up = λ _. h.unused.sure;
  }

  pub start_allowed : (count : ℕ) (w : WorldState S) → IsStart storages count w → AreHonest storages.IsHonest w.nodes
      → IsAllowed storages.contents w.nodes w.frames w.learnt w.submitted
  start_allowed count w h honest = record {
    state = synod_runs.start;
    reached = record { steps = []; run = refl };
    stands = record {
      node = λ i n e. stands_at_start i count n (h.nodes.each i n e) (honest i n e) (length w.nodes);
      frames_ = sym (ap (λ (x : WorldState S). map frame_of x.frames) h.nothing);
      learnt_ = sym (ap (λ (x : WorldState S). map learnt_as x.learnt) h.nothing);
      submitted_ = sym (ap (λ (x : WorldState S). map command_of x.submitted) h.nothing);
    };
  }
