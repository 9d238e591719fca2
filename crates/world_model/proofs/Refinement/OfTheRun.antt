-- Whatever a node has voted for or promised is under a ballot of a node of the run.
use Rattle.std.proofs.Common.{◌≡◌, ℕ, ◌<◌, List, length, map, slice_get, All, Option, Some, None, IfSome, IsSome}
use Rattle.std.proofs.Common.{inl, inr, option_map, Contains, refl, sym, ap, subst, ◌∙◌, arith}
use Rattle.std.proofs.lemmas.List.Elements.{All-map, All-contains}
use Rattle.std.proofs.lemmas.Option.{same_Some}
use Rattle.synod.specs.Messages.{Frame, Accept}
use Rattle.synod.specs.History.{Sent}
use Rattle.synod.specs.Acts.{Local}
use Rattle.synod.specs.Invariant.{Holds}
use Rattle.synod.specs.Records.{VoteWrite}
use Rattle.synod.specs.Runs as synod_runs
use Rattle.synod.specs.declared.ballot.Ballot.{Ballot}
use Rattle.synod.specs.declared.vote.Vote.{Vote}
use Rattle.synod.proofs.Running.{reached_holds}
use Rattle.stable.specs.Records.{Records}
use Rattle.stable.specs.Script.{Script}
use Rattle.stable.specs.declared.key.Key.{Key}
use Rattle.stable.specs.declared.key.Key.TheVariants as key
use Rattle.acceptor.specs.Accepting.{RecordsSay, sealed_of}
use Rattle.acceptor.specs.Forms.{VoteFitsRecord, CheckpointFits}
use Rattle.acceptor.specs.Spelling.{ballot_bytes, vote_bytes}
use Rattle.sessions.specs.declared.command.Command.{Command}
use Rattle.wire.specs.RecordForms.{Checkpointed, checkpoint_bytes}
use Rattle.wire.specs.declared.frames.envelope.Envelope.{Envelope}
use Rattle.node_model.specs.Replicas.{ReplicaState, promised}
use Rattle.node_model.specs.Protocol.{HoldsRecords, ReplicaStands}
use Rattle.node_model.specs.Sending.{IsBetween}
use Rattle.node_model.specs.States.{NodeState}
use Rattle.world_model.specs.Memberships.{IsMembership}
use Rattle.world_model.specs.Protocol as protocol
use Rattle.world_model.specs.Protocol.{frame_of}
use Rattle.world_model.specs.Reaching.{StandsAt, IsAllowed, HoldsPut}
use Rattle.world_model.specs.Safety.{PromisesAmong, PromisesOfRun}
use Rattle.world_model.specs.Voting.{vote_put}
use Rattle.world_model.specs.Worlds.{WorldState, replica_in, replica_at}
use Rattle.world_model.proofs.Steps.OwnBallots.{own_ballots}
use Rattle.world_model.proofs.OneNode.VotesStand.{held_shown}

-- a replica is that of a node that is there and up
pub node_of : {S : Type 0} (o : Option (NodeState S)) (m : ReplicaState) → replica_in o ≡ Some m → (n : NodeState S) × (o ≡ Some n) × (n.up ≡ Some m)
node_of None m e = absurd (cc)
node_of (Some n) m e = (n, refl, e)

-- what holds of whatever is there holds of what is there
pub held : {A : Type 0} (P : A → Type 0) (o : Option A) (x : A) → o ≡ Some x → IfSome o P → P x
held {A = A} P o x e h = subst (λ (p : Option A). IfSome p P) e h

-- a frame of the world is from a node of the run
from_below : (nodes : ℕ) (frames : List Envelope) → All (IsBetween nodes) frames → (r : Frame Command) → Contains (map frame_of frames) r
    → r.sender < nodes
from_below nodes frames between r c =
    All-contains (λ (q : Frame Command). q.sender < nodes) (map frame_of frames) r
    (All-map (λ (q : Frame Command). q.sender < nodes) frame_of frames (λ k d within. (between k d within).from)) c

-- a checkpoint that promises something is there
sealed_there : (o : Option Checkpointed) (b : Ballot) → sealed_of o ≡ Some b → (c : Checkpointed) × (o ≡ Some c) × (c.promise ≡ Some b)
sealed_there None b e = absurd (let none : None ≡ Some b = e in cc)
sealed_there (Some c) b e = (c, refl, e)

module _ {S : Type 0} (contents : Script S → Records) (w : WorldState S)
    (allowed : IsAllowed contents w.nodes w.frames w.learnt w.submitted) where
  -- a node that is up, where it stands, and what its records say
  pub record UpAt (i : ℕ) (m : ReplicaState) : Type 0 where
    pub node : NodeState (Script S)
    pub here : slice_get w.nodes i ≡ Some node
    pub up : node.up ≡ Some m
    pub records : HoldsRecords m (contents node.storage)
    pub stands : ReplicaStands m (synod_runs.here allowed.state i)

  abbrev standing : (i : ℕ) (n : NodeState (Script S)) → slice_get w.nodes i ≡ Some n
      → StandsAt contents (length w.nodes) i allowed.state.past (synod_runs.here allowed.state i) n
  standing = allowed.stands.node

  there_now : (i : ℕ) (n : NodeState (Script S)) (here : slice_get w.nodes i ≡ Some n) → IsSome n.up
      → (standing i n here).after ≡ synod_runs.here allowed.state i
  there_now i n here up = (standing i n here).sure ((standing i n here).up up)

  pub up_at : (i : ℕ) (m : ReplicaState) → replica_at w i ≡ Some m → UpAt i m
  up_at i m e =
      let n = node_of (slice_get w.nodes i) m e in
      let s = standing i n.0 n.1 in
      let up : IsSome n.0.up = subst (λ (o : Option ReplicaState). IsSome o) (sym n.2) refl in
      let both = held (λ (k : ReplicaState). HoldsRecords k (contents n.0.storage) × ReplicaStands k s.after) n.0.up m n.2 s.stands.up in
      record {
        node = n.0;
        here = n.1;
        up = n.2;
        records = both.0;
        stands = subst (λ (x : Local Command). ReplicaStands m x) (there_now i n.0 n.1 up) both.1;
      }

  -- ---- where the frames go between nodes of the run
  module _ (membership : IsMembership w.nodes w.frames) where
    -- the protocol's invariant holds there
    holds : Holds (protocol.membership (length w.nodes)) allowed.state
    holds = reached_holds (protocol.membership (length w.nodes)) allowed.state allowed.reached

    -- whoever proposed is a node of the run
    proposer_below : (a : ℕ) (v : Vote Command) → Sent allowed.state.past a (Accept v) → a < length w.nodes
    proposer_below a v sent =
        let r : Frame Command = record { sender = a; receiver = sent.0; message = Accept v } in
        from_below (length w.nodes) w.frames membership.between r
        (subst (λ (frames : List (Frame Command)). Contains frames r) allowed.stands.frames_ sent.1)

    -- each vote that a node holds, below its floor too, was put, so it was cast, and is of a node of the run
    pub votes_of_run : (i : ℕ) (m : ReplicaState) → replica_at w i ≡ Some m → (slot : ℕ) (v : Vote Command) → m.acceptor.vote slot ≡ Some v
        → v.ballot.node < length w.nodes
    votes_of_run i m e slot v is =
        let n : UpAt i m = up_at i m e in
        let s = standing i n.node n.here in
        let says : RecordsSay (contents n.node.storage) m.acceptor = n.records.acceptor in
        let own_slot : v.slot ≡ slot = held (λ (u : Vote Command). u.slot ≡ slot) (m.acceptor.vote slot) v is (says.at_its_slot slot) in
        let fits : VoteFitsRecord v = held VoteFitsRecord (m.acceptor.vote slot) v is (says.votes_fit slot) in
        let shows : contents n.node.storage (key.Vote v.slot) ≡ Some (vote_bytes v) =
        ap (λ (k : ℕ). contents n.node.storage (key.Vote k)) own_slot ∙ (says.vote_record slot ∙ ap (option_map vote_bytes) is) in
        let cast : Contains s.after.records.writes (VoteWrite v) =
        s.puts.cast v fits (held_shown contents n.node.storage s.puts.held (vote_put v) shows) in
        let up : IsSome n.node.up = subst (λ (o : Option ReplicaState). IsSome o) (sym n.up) refl in
        let voted : Contains (synod_runs.here allowed.state i).records.writes (VoteWrite v) =
        subst (λ (x : Local Command). Contains x.records.writes (VoteWrite v)) (there_now i n.node n.here up) cast in
        let proposed = holds.past.backed i v voted in
        let own : v.ballot.node ≡ proposed.0 =
        own_ballots (protocol.membership (length w.nodes)) allowed.state allowed.reached proposed.0 v proposed.1 in
        let below = proposer_below proposed.0 v proposed.1 in
        omega (arith, own, below)

    -- what a node has promised is a ballot of a node of the run: it was put, alone or in a checkpoint, or it is that of a vote
    pub promise_of_run : PromisesOfRun contents w.nodes → (i : ℕ) (m : ReplicaState) → replica_at w i ≡ Some m → (b : Ballot) → promised m ≡ Some b
        → b.node < length w.nodes
    promise_of_run promises i m e b is =
        let n : UpAt i m = up_at i m e in
        let says : RecordsSay (contents n.node.storage) m.acceptor = n.records.acceptor in
        let puts : (k : Key) → HoldsPut contents n.node.storage k = (standing i n.node n.here).puts.held in
        let among : PromisesAmong contents (length w.nodes) n.node.storage = promises i n.node n.here in
        elim says.promise.among_them [
          | inl recorded ↦
              let shows : contents n.node.storage key.Promise ≡ Some (ballot_bytes b) =
              says.promise_record ∙ ap (option_map ballot_bytes) (sym recorded ∙ is) in
              among.alone b (held_shown contents n.node.storage puts (key.Promise, ballot_bytes b) shows)
          | inr (inl sealed) ↦
              let c = sealed_there says.checkpointed b (sym says.sealed ∙ (sym sealed ∙ is)) in
              let shows : contents n.node.storage key.Checkpoint ≡ Some (checkpoint_bytes c.0) =
              says.checkpoint_record ∙ ap (option_map checkpoint_bytes) c.1 in
              among.sealed c.0 b (held CheckpointFits says.checkpointed c.0 c.1 says.checkpoint_fits)
              (held_shown contents n.node.storage puts (key.Checkpoint, checkpoint_bytes c.0) shows) c.2
          | inr (inr voted) ↦
              let same : voted.1.ballot ≡ b = same_Some voted.1.ballot b (sym voted.3 ∙ is) in
              subst (λ (x : Ballot). x.node < length w.nodes) same (votes_of_run i m e voted.0 voted.1 voted.2)
        ]
