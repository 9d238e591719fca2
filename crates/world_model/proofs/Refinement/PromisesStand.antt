-- Whatever promise was put at a node is of a node of the run.
use Rattle.std.proofs.Common.{◌≡◌, ◌==◌, ◌&&◌, ℕ, zero, ◌<◌, nat_lt, inl, inr, List, [], ◌∷◌, ◌++◌, length, slice_get, slice_set}
use Rattle.std.proofs.Common.{Bool, true, false, if◌then◌else◌, Option, Some, None, Result}
use Rattle.std.proofs.Common.{refl, sym, ap, subst, ◌∙◌, arith}
use Rattle.std.specs.Int.{bytes_high_first}
use Rattle.std.proofs.Math.ListN.{length-set}
use Rattle.std.proofs.lemmas.Bool.{and_parts, ltb-true}
use Rattle.std.proofs.lemmas.Option.{same_Some, none-some}
use Rattle.synod.specs.Ballots.{rank_of}
use Rattle.synod.specs.Ballots as ballots
use Rattle.synod.specs.declared.ballot.Ballot.{Ballot}
use Rattle.stable.specs.Records.{Records, Change, Sets, rank}
use Rattle.stable.specs.Script.{Script}
use Rattle.stable.specs.Script as script
use Rattle.stable.specs.declared.key.Key.{Key}
use Rattle.stable.specs.declared.key.Key.TheVariants as key
use Rattle.stable.specs.declared.scripted.Failing.{Failing}
use Rattle.stable.specs.declared.stable.Stable.{Ghosts}
use Rattle.stable.specs.Storages.{IsLawful}
use Rattle.wire.specs.declared.frames.envelope.Envelope.{Envelope}
use Rattle.wire.specs.declared.frames.message.Message.{Message}
use Rattle.wire.specs.declared.frames.message.Message.TheVariants.{Prepare, Accept}
use Rattle.acceptor.specs.Accepting.{Accepting, OptionalWrite, RecordsSay, IsAcceptWrite, IsTrimWrite}
use Rattle.acceptor.specs.Accepting.{Verdict, Refused, Behind, Taken, verdict, if_taken}
use Rattle.acceptor.proofs.VerdictLemmas.{judged, refused as is_refused, behind as is_behind, taken as is_taken}
use Rattle.acceptor.specs.Forms.{CheckpointFits}
use Rattle.acceptor.specs.Spelling.{ballot_bytes}
use Rattle.wire.specs.RecordForms.{Checkpointed, checkpoint_bytes}
use Rattle.node_model.specs.declared.fault.NodeFault.{NodeFault}
use Rattle.node_model.specs.declared.input.Input.{Input}
use Rattle.node_model.specs.declared.input.Input.TheVariants as input
use Rattle.node_model.specs.Inputs.{names_run, is_for_this_run}
use Rattle.node_model.specs.Loading.{IsMember, Restarts}
use Rattle.node_model.specs.Replicas.{ReplicaState, promised}
use Rattle.node_model.specs.Nodes.{NodeState, NodeSteps}
use Rattle.node_model.specs.Outputs.{Response}
use Rattle.node_model.specs.Taking.{WritesOnMessage, WritesOnEnvelope, Writes}
use Rattle.events.specs.declared.event.Event.{Event}
use Rattle.world_model.specs.Memberships.{IsMembership}
use Rattle.world_model.specs.Flushing.{IsStart}
use Rattle.world_model.specs.Reaching.{AreHonest, IsAllowed}
use Rattle.world_model.specs.Safety.{PromisesAmong, PromisesOfRun}
use Rattle.world_model.specs.Worlds.{WorldState, replica_in, replica_at, TakesAt, Steps, with_node, without_wait}
use Rattle.world_model.proofs.Parts.CheckpointPuts.{checkpoint_put}
use Rattle.world_model.proofs.Steps.MembershipSteps.{set_at}
use Rattle.world_model.proofs.OneNode.ListedPuts.{GoesOn, KeepsPuts, same_lists, same_goes, put_by, sets_put}
use Rattle.world_model.proofs.OneNode.NodeComes.{NodeGoesOn, node_goes, restart_goes}
use Rattle.world_model.proofs.Refinement.OfTheRun.{up_at, promise_of_run}
use Rattle.world_model.proofs.Steps.Preserved.{HoldsOf, step_holds, recorded_nodes, submission_nodes, answered_nodes}
use Rattle.world_model.proofs.Refinement.SafetyLemmas.{none_put}
use Rattle.world_model.proofs.Refinement.WorldMoves.{set_there}

-- ---- the node of a ballot is the last byte of its spelling
abbrev last_of : ℕ → List ℕ → ℕ
last_of before [] = before
last_of before (x ∷ xs) = last_of x xs

last_pushed : (before : ℕ) (xs : List ℕ) (x : ℕ) → last_of before (xs ++ x ∷ []) ≡ x
last_pushed before [] x = refl
last_pushed before (y ∷ xs) x = last_pushed y xs x

-- ballots that are spelled alike are of one node
one_node : (a b : Ballot) → ballot_bytes a ≡ ballot_bytes b → a.node ≡ b.node
one_node a b e =
    sym (last_pushed zero (bytes_high_first 8 a.round) a.node) ∙ ap (last_of zero) e ∙ last_pushed zero (bytes_high_first 8 b.round) b.node

-- ---- what an input writes
-- if a promise is written, it is of one of so many nodes
abbrev WritesAmong : ℕ → OptionalWrite → Type 0
WritesAmong nodes write = (b : Ballot) → write ≡ Some (Sets key.Promise (ballot_bytes b)) → b.node < nodes

-- nothing is written
none_among : (nodes : ℕ) (write : OptionalWrite) → write ≡ None → WritesAmong nodes write
none_among nodes write none b e = absurd (none-some (Sets key.Promise (ballot_bytes b)) (sym none ∙ e))

-- another record is written
other_among : (nodes : ℕ) (write : OptionalWrite) (other : Key) (bytes : List ℕ) → (rank other ≡ 1 → ⊥) → write ≡ Some (Sets other bytes)
    → WritesAmong nodes write
other_among nodes write other bytes apart is b e =
    absurd (apart (ap (λ (w : script.Write). rank w.0) (same_Some (other, bytes) (key.Promise, ballot_bytes b) (ap put_by (sym is ∙ e)))))

-- a promise is written, of a node below
one_among : (nodes : ℕ) (ballot : Ballot) → ballot.node < nodes → WritesAmong nodes (Some (Sets key.Promise (ballot_bytes ballot)))
one_among nodes ballot below b e =
    let written : (key.Promise, ballot_bytes ballot) ≡ (key.Promise, ballot_bytes b) =
    same_Some (key.Promise, ballot_bytes ballot) (key.Promise, ballot_bytes b) (ap put_by e) in
    subst (λ (n : ℕ). n < nodes) (one_node ballot b (ap (λ (w : script.Write). w.1) written)) below

-- on a prepare
prepared_among : (nodes : ℕ) (ballot : Ballot) → ballot.node < nodes → (v : Verdict) (already : Bool)
    → WritesAmong nodes (if_taken v (if already then None else Some (Sets key.Promise (ballot_bytes ballot))) None)
prepared_among nodes ballot below (Refused p) already = none_among nodes None refl
prepared_among nodes ballot below (Behind floor) already = none_among nodes None refl
prepared_among nodes ballot below Taken true = none_among nodes None refl
prepared_among nodes ballot below Taken false = one_among nodes ballot below

-- on an accept
cast_among : (nodes : ℕ) (a : Accepting) (v : _) (write : OptionalWrite) → IsAcceptWrite a v write → WritesAmong nodes write
cast_among nodes a v write h b e =
    let some : write ≡ None → ⊥ = λ none. none-some (Sets key.Promise (ballot_bytes b)) (sym none ∙ e) in
    elim (judged a v.ballot v.slot) [
      | is_refused p other ↦ absurd (some (h.untaken (λ same. absurd (cc))))
      | is_behind floor other ↦ absurd (some (h.untaken (λ same. absurd (cc))))
      | is_taken same high from ↦
          other_among nodes write (key.Vote v.slot) _ (λ zero_. absurd (omega arith))
          (h.cast (record { taken = same; fresh = λ stands. some (h.already stands) })) b e
    ]

-- a trim puts nothing
trim_among : (nodes : ℕ) (a : Accepting) (write : OptionalWrite) → IsTrimWrite a write → WritesAmong nodes write
trim_among nodes a None h b e = absurd (none-some (Sets key.Promise (ballot_bytes b)) e)
trim_among nodes a (Some change) h b e =
    absurd (none-some (key.Promise, ballot_bytes b) (ap (λ (x : Change). put_by (Some x)) (sym h.1) ∙ ap put_by e))

-- on a message that names the run
message_among : (m : ReplicaState) (message : Message) (write : OptionalWrite) → names_run m.nodes message ≡ true → WritesOnMessage m message write
    → WritesAmong m.nodes write
message_among m (Prepare ballot first) write names w =
    subst (λ (x : OptionalWrite). WritesAmong m.nodes x) (sym w)
    (prepared_among m.nodes ballot (ltb-true ballot.node m.nodes names) (verdict m.acceptor ballot first)
    (ballots.rank ballot == rank_of m.acceptor.promise))
message_among m (Accept v) write names w = cast_among m.nodes m.acceptor v write w
message_among m other write names w = none_among m.nodes write w

-- a message that concerns a node names the run
names_the_run : (id nodes : ℕ) (e : Envelope) → is_for_this_run id nodes e ≡ true → names_run nodes e.message ≡ true
names_the_run id nodes e h =
    (and_parts (nat_lt e.from nodes) (names_run nodes e.message)
    (and_parts (e.to == id) (nat_lt e.from nodes && names_run nodes e.message) h).1).1

envelope_among : (m : ReplicaState) (e : Envelope) (write : OptionalWrite) (b : Bool) → is_for_this_run m.id m.nodes e ≡ b → WritesOnEnvelope m e b write
    → WritesAmong m.nodes write
envelope_among m e write false is w = none_among m.nodes write w
envelope_among m e write true is w = message_among m e.message write (names_the_run m.id m.nodes e is) w

-- on any input
input_among : (m : ReplicaState) (i : Input) (write : OptionalWrite) → Writes m i write → WritesAmong m.nodes write
input_among m (input.Message e) write w = envelope_among m e write (is_for_this_run m.id m.nodes e) refl w
input_among m input.Timeout write w = other_among m.nodes write key.Round _ (λ zero_. absurd (omega arith)) w
input_among m input.Checkpoint write w = other_among m.nodes write key.Checkpoint _ (λ zero_. absurd (omega arith)) w.is
input_among m input.Trim write w = trim_among m.nodes m.acceptor write w
input_among m other write w = none_among m.nodes write w

-- ---- what is put
-- a promise that is put, alone or in a checkpoint, is of one of so many nodes
record PutsAmong (nodes : ℕ) (made : Option script.Write) : Type 0 where
  alone : (b : Ballot) → made ≡ Some (key.Promise, ballot_bytes b) → b.node < nodes
  sealed : (c : Checkpointed) (b : Ballot) → CheckpointFits c → made ≡ Some (key.Checkpoint, checkpoint_bytes c) → c.promise ≡ Some b
      → b.node < nodes

nothing_among : (nodes : ℕ) → PutsAmong nodes None
nothing_among nodes = record {
  alone = λ b e. absurd (none-some (key.Promise, ballot_bytes b) e);
  sealed = λ c b fits e is. absurd (none-some (key.Checkpoint, checkpoint_bytes c) e);
}

-- what a node that is up puts, as it has promised a ballot of such a node
puts_among : (records : Records) (m : ReplicaState) (i : Input) (write : OptionalWrite) → RecordsSay records m.acceptor
    → ((b : Ballot) → promised m ≡ Some b → b.node < m.nodes) → Writes m i write → PutsAmong m.nodes (put_by write)
puts_among records m i write says of_run writes = record {
  alone = λ b e. input_among m i write writes b (sets_put write (key.Promise, ballot_bytes b) e);
  sealed = λ c b fits e is.
      let put = checkpoint_put records m i write says writes c fits e in
      let same : c.promise ≡ promised m = ap (λ (x : Checkpointed). x.promise) put.is in
      of_run b (sym same ∙ is);
}

-- ---- nothing is put yet
pub start_promises : {S : Type 0} (storages : Ghosts (Script S)) (count : ℕ) (w : WorldState S) → IsStart storages count w
    → PromisesOfRun storages.contents w.nodes
start_promises storages count w start i n here = record {
  alone = λ b t. absurd (none_put n.storage (key.Promise, ballot_bytes b) (start.nodes.each i n here).unused t);
  sealed = λ c b fits t is. absurd (none_put n.storage (key.Checkpoint, checkpoint_bytes c) (start.nodes.each i n here).unused t);
}

module _ {S : Type 0} {storages : Ghosts (Script S)} (laws : IsLawful storages) (lists : KeepsPuts storages) where
  abbrev Among : ℕ → Script S → Type 0
  Among = PromisesAmong storages.contents

  -- ---- a storage goes on
  goes_among : (nodes : ℕ) (made : Option script.Write) (a b : Script S) → GoesOn storages.contents made a b → PutsAmong nodes made
      → Among nodes a → Among nodes b
  goes_among nodes made a b goes puts among = record {
    alone = λ x t. elim (goes.new (key.Promise, ballot_bytes x) t) [
      | inl before ↦ among.alone x before
      | inr now ↦ puts.alone x now.0
    ];
    sealed = λ c x fits t is. elim (goes.new (key.Checkpoint, checkpoint_bytes c) t) [
      | inl before ↦ among.sealed c x fits before is
      | inr now ↦ puts.sealed c x fits now.0 is
    ];
  }

  -- ---- a node takes an input
  -- where it is up it holds what its records say, and has promised a ballot of one of so many nodes
  record IsSureOf (nodes : ℕ) (n : NodeState (Script S)) (m : ReplicaState) : Type 0 where
    says : RecordsSay (storages.contents n.storage) m.acceptor
    of_run : (b : Ballot) → promised m ≡ Some b → b.node < nodes

  made_among : (id nodes : ℕ) (old new : NodeState (Script S)) (i : Input) → IsMember id nodes old
      → ((m : ReplicaState) → old.up ≡ Some m → IsSureOf nodes old m) → (on : NodeGoesOn storages.contents i old new)
      → PutsAmong nodes (put_by on.made)
  made_among id nodes old new i member is on = elim on.writes [
    | inl none ↦ subst (λ (w : OptionalWrite). PutsAmong nodes (put_by w)) (sym none) (nothing_among nodes)
    | inr writer ↦
        let m : ReplicaState = writer.0 in
        let of_all : m.nodes ≡ nodes = (member.up m writer.1).of_all in
        let sure : IsSureOf nodes old m = is m writer.1 in
        subst (λ (k : ℕ). PutsAmong k (put_by on.made)) of_all
        (puts_among (storages.contents old.storage) m i on.made sure.says
        (λ b e. subst (λ (k : ℕ). b.node < k) (sym of_all) (sure.of_run b e)) writer.2)
  ]

  node_among : (id nodes : ℕ) (old new : NodeState (Script S)) (i : Input) (r : Result Response NodeFault)
      → NodeSteps storages old i r new → IsMember id nodes old → ((m : ReplicaState) → old.up ≡ Some m → IsSureOf nodes old m)
      → storages.IsHonest new.storage → Among nodes old.storage → Among nodes new.storage
  node_among id nodes old new i r h member is honest =
      let on : NodeGoesOn storages.contents i old new = node_goes laws lists old new i r h honest in
      goes_among nodes (put_by on.made) old.storage new.storage on.goes (made_among id nodes old new i member is on)

  -- a node restarts
  restarted_among : (nodes : ℕ) (old new : NodeState (Script S)) (r : Result (Unit {0}) NodeFault) → Restarts storages old r new
      → storages.IsHonest new.storage → Among nodes old.storage → Among nodes new.storage
  restarted_among nodes old new r h honest =
      goes_among nodes None old.storage new.storage (restart_goes laws lists old new r h honest) (nothing_among nodes)

  -- a node whose next put fails
  armed_among : (nodes : ℕ) (a b : Script S) → storages.contents b ≡ storages.contents a → b.writes ≡ a.writes → b.unsure ≡ a.unsure
      → Among nodes a → Among nodes b
  armed_among nodes a b records writes unsure =
      goes_among nodes None a b (same_goes storages.contents None a b (same_lists storages.contents a b records writes unsure))
      (nothing_among nodes)

  -- ---- a world
  abbrev Nodes : Type 0
  Nodes = List (NodeState (Script S))

  abbrev OfRun : Nodes → Type 0
  OfRun nodes = PromisesOfRun storages.contents nodes

  abbrev Allowed : WorldState S → Type 0
  Allowed w = IsAllowed storages.contents w.nodes w.frames w.learnt w.submitted

  abbrev Honest : Nodes → Type 0
  Honest nodes = AreHonest storages.IsHonest nodes

  -- who is up holds what its records say, and has promised a ballot of the run
  sure_of : (w : WorldState S) (i : ℕ) (n : NodeState (Script S)) → slice_get w.nodes i ≡ Some n → IsMembership w.nodes w.frames → Allowed w
      → OfRun w.nodes → (m : ReplicaState) → n.up ≡ Some m → IsSureOf (length w.nodes) n m
  sure_of w i n here membership allowed promises m up =
      let there : replica_at w i ≡ Some m = ap (λ (o : Option (NodeState (Script S))). replica_in o) here ∙ up in
      let at = up_at storages.contents w allowed i m there in
      let same : at.node ≡ n = same_Some at.node n (sym at.here ∙ here) in
      record {
        says = subst (λ (x : NodeState (Script S)). RecordsSay (storages.contents x.storage) m.acceptor) same at.records.acceptor;
        of_run = promise_of_run storages.contents w allowed membership promises i m there;
      }

  -- one node is another
  set_promises : (nodes : Nodes) (i : ℕ) (n : NodeState (Script S)) → OfRun nodes → Among (length nodes) n.storage
      → OfRun (slice_set nodes i n)
  set_promises nodes i n promises among j m here =
      subst (λ (k : ℕ). Among k m.storage) (sym (length-set nodes i n)) (elim (set_at nodes i j n m here) [
        | inl this ↦ subst (λ (x : NodeState (Script S)). Among (length nodes) x.storage) this.1 among
        | inr other ↦ promises j m other
      ])

  same_promises : (old new : WorldState S) → new.nodes ≡ old.nodes → OfRun old.nodes → OfRun new.nodes
  same_promises old new e promises = subst (λ (x : Nodes). OfRun x) (sym e) promises

  -- a node comes to this, and the others stay
  changed_promises : (old new : WorldState S) (node : ℕ) (before after : NodeState (Script S)) → slice_get old.nodes node ≡ Some before
      → new.nodes ≡ slice_set old.nodes node after → OfRun old.nodes → Honest new.nodes
      → (storages.IsHonest after.storage → Among (length old.nodes) before.storage → Among (length old.nodes) after.storage)
      → OfRun new.nodes
  changed_promises old new node before after here nodes promises honest keeps =
      let own : storages.IsHonest after.storage =
      honest node after (ap (λ (x : Nodes). slice_get x node) nodes ∙ set_there old.nodes node after before here) in
      subst (λ (x : Nodes). OfRun x) (sym nodes)
      (set_promises old.nodes node after promises (keeps own (promises node before here)))

  takes_promises : (old : WorldState S) (node : ℕ) (i : Input) (taken : Bool) (new : WorldState S)
      → TakesAt storages old node i taken new → IsMembership old.nodes old.frames → Allowed old → OfRun old.nodes → Honest new.nodes
      → OfRun new.nodes
  takes_promises old node i taken new h membership allowed promises honest =
      changed_promises old new node h.before h.after h.here
      (ap (λ (w : WorldState S). w.nodes) h.leaves ∙ recorded_nodes (with_node old node h.after) node h.result) promises honest
      (node_among node (length old.nodes) h.before h.after i h.result h.steps (membership.members node h.before h.here)
      (sure_of old node h.before h.here membership allowed promises))

  -- ---- one step
  promises_hold : ((s : Script S) (f : Failing) → storages.contents (record s { armed = Some f }) ≡ storages.contents s)
      → HoldsOf storages (λ old e new. IsMembership old.nodes old.frames → Allowed old → OfRun old.nodes → Honest new.nodes → OfRun new.nodes)
  promises_hold armed = record {
    takes = λ old e node i taken new h own. takes_promises old node i taken new h;
    submits = λ old e node r new h membership allowed promises honest.
        let nodes : new.nodes ≡ h.between.nodes = ap (λ (w : WorldState S). w.nodes) h.leaves ∙ submission_nodes h.between h.taken node _ in
        same_promises h.between new nodes
        (takes_promises old node (input.Submit r.client r.number r.op) h.taken h.between h.takes membership allowed promises
        (subst (λ (x : Nodes). Honest x) nodes honest));
    hears = λ old e k frame taken new sent fits h membership allowed promises honest.
        takes_promises (without_wait old k) frame.to (input.Message frame) taken new h membership allowed promises honest;
    loses = λ old e k o new brings h membership allowed promises honest.
        same_promises old new (ap (λ (w : WorldState S). w.nodes) h) promises;
    restarts = λ old node new h membership allowed promises honest.
        changed_promises old new node h.before h.after h.here (ap (λ (w : WorldState S). w.nodes) h.leaves) promises honest
        (restarted_among (length old.nodes) h.before h.after h.result h.restarts);
    arms = λ old e node failing new h membership allowed promises honest.
        let after : NodeState (Script S) = record h.before { storage = record h.before.storage { armed = Some failing } } in
        changed_promises old new node h.before after h.here (ap (λ (w : WorldState S). w.nodes) h.leaves) promises honest
        (λ _. armed_among (length old.nodes) h.before.storage after.storage (armed h.before.storage failing) refl refl);
    answers = λ old e node query new h membership allowed promises honest.
        same_promises old new (ap (λ (w : WorldState S). w.nodes) h.leaves ∙ answered_nodes old node query h.result) promises;
  }

  pub step_promises : ((s : Script S) (f : Failing) → storages.contents (record s { armed = Some f }) ≡ storages.contents s)
      → (old : WorldState S) (e : Event) (new : WorldState S) → Steps storages old e new
      → IsMembership old.nodes old.frames → Allowed old → OfRun old.nodes → Honest new.nodes → OfRun new.nodes
  step_promises armed old e new h = step_holds (promises_hold armed) old e new h
