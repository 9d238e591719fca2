-- In a sound world nobody has heard of a vote under a ballot that its node has yet to use.
use Rattle.std.proofs.Common.{◌≡◌, ℕ, ◌<◌, ◌≤◌, length, slice_get, Option, Some, None, ap, ◌∙◌, arith, refl}
use Rattle.std.proofs.lemmas.Option.{slice_get_within}
use Rattle.synod.specs.History.{Proposed}
use Rattle.synod.specs.Invariant.{Holds}
use Rattle.synod.specs.Runs as synod_runs
use Rattle.synod.specs.declared.ballot.Ballot.{Ballot}
use Rattle.synod.specs.declared.vote.Vote.{Vote}
use Rattle.synod.proofs.Running.{reached_holds}
use Rattle.stable.specs.Records.{Records}
use Rattle.stable.specs.Script.{Script}
use Rattle.sessions.specs.declared.command.Command.{Command}
use Rattle.node_model.specs.Loading.{IsReplicaOf}
use Rattle.node_model.specs.Replicas.{ReplicaState, IsNextBallot}
use Rattle.node_model.specs.Protocol.{ReplicaStands}
use Rattle.world_model.specs.Memberships.{IsMembership}
use Rattle.world_model.specs.Progress.{replica_at}
use Rattle.world_model.specs.Protocol as protocol
use Rattle.world_model.specs.Safety.{WorldInvariant}
use Rattle.world_model.specs.Worlds.{WorldState}
use Rattle.world_model.proofs.Refinement.OfTheRun.{node_of, up_at}

-- nothing is there that can't be
nothing_there : {A : Type 0} (o : Option A) → ((x : A) → o ≡ Some x → ⊥) → o ≡ None
nothing_there None h = refl
nothing_there (Some x) h = absurd (h x refl)

module _ {S : Type 0} (contents : Script S → Records) (w : WorldState S) (membership : IsMembership w.nodes w.frames)
    (sound : WorldInvariant contents w) where
  -- the protocol's world that leads there
  abbrev state : synod_runs.World Command
  state = sound.allowed.state

  -- the invariant holds there
  holds : Holds (protocol.membership (length w.nodes)) state
  holds = reached_holds (protocol.membership (length w.nodes)) state sound.allowed.reached

  -- who is up is one of the run, and holds what that node holds
  pub is_member : (i : ℕ) (m : ReplicaState) → replica_at w i ≡ Some m → (i < length w.nodes) × IsReplicaOf i (length w.nodes) m
  is_member i m e =
      let n = node_of (slice_get w.nodes i) m e in
      (slice_get_within w.nodes i n.0 n.1, (membership.members i n.0 n.1).up m n.2)

  -- who is up stands for the protocol's replica
  stands_up : (i : ℕ) (m : ReplicaState) → replica_at w i ≡ Some m → ReplicaStands m (synod_runs.here state i)
  stands_up i m e = (up_at contents w sound.allowed i m e).stands

  -- what is proposed is of a round that its node has begun
  begun_round : (i : ℕ) (m : ReplicaState) → replica_at w i ≡ Some m → (v : Vote Command) → Proposed state.past v → v.ballot.node ≡ i
      → v.ballot.round ≤ m.proposer.round
  begun_round i m e v proposed mine =
      let owned = holds.past.owned v proposed in
      let same : (state.past.records v.ballot.node).round ≡ (state.past.records i).round = ap (λ j. (state.past.records j).round) mine in
      let stands : (state.past.records i).round ≡ m.proposer.round = (stands_up i m e).proposer.round in
      omega (arith, owned, same, stands)

  -- a node has heard of no vote under its next ballot
  pub unheard_next : (i : ℕ) (m : ReplicaState) → replica_at w i ≡ Some m → (ballot : Ballot) → IsNextBallot m ballot
      → (slot a : ℕ) → a < length w.nodes → m.learner.heard slot ballot a ≡ None
  unheard_next i m e ballot next slot a below =
      nothing_there (m.learner.heard slot ballot a) (λ c is.
      let mine = (is_member i m e).1 in
      let among : a < m.learner.nodes = omega (arith, below, mine.learner) in
      let v : Vote Command = record { slot = slot; ballot = ballot; command = c } in
      let heard = (stands_up i m e).learner.heard slot a ballot c among is in
      let proposed = holds.past.backed a v ((holds.replica i).heard a v heard) in
      let begun : ballot.round ≤ m.proposer.round = begun_round i m e v proposed (next.own ∙ mine.number) in
      omega (arith, begun, next.round))
