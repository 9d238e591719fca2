-- Where a node comes to in the protocol, and what its list of writes tells there.
use Rattle.std.proofs.Common.{◌≡◌, ◌⊎◌, ℕ, ◌+◌, ◌<◌, ◌≤◌, inl, inr, List, [], map, Bool, true, false, Option, Some, None, IfSome, IsSome, IfOk}
use Rattle.std.proofs.Common.{IfErr, OnOk, OnErr, Contains, MatchBool, Result, Ok, Err, refl, sym, ap, subst, ◌∙◌, rules, arith}
use Rattle.std.specs.Prelude.{◌↔◌}
use Rattle.std.proofs.lemmas.List.Elements.{Contains-append_left}
use Rattle.std.proofs.lemmas.Option.{none-some}
use Rattle.synod.specs.Records as synod_records
use Rattle.synod.specs.Records.{VoteWrite}
use Rattle.synod.specs.Volatile as synod_volatile
use Rattle.synod.specs.Acts as act
use Rattle.synod.specs.Acts.{Local, Does, Brings}
use Rattle.synod.specs.Invariant.{RecordsAreSound}
use Rattle.synod.specs.Messages.{Accept}
use Rattle.synod.specs.Runs as synod_runs
use Rattle.synod.specs.Runs.{placed, HasCome, IsReached}
use Rattle.synod.specs.declared.vote.Vote.{Vote}
use Rattle.synod.proofs.Doing.{does_nothing, does_one, does_then}
use Rattle.synod.proofs.Puts.{put_same, put_other}
use Rattle.synod.proofs.Running.{does_reaches, reached_holds}
use Rattle.stable.specs.Records.{Records, Sets, Trims, rank}
use Rattle.stable.specs.Script.{Script}
use Rattle.stable.specs.Script as script
use Rattle.stable.specs.declared.key.Key.TheVariants as key
use Rattle.stable.specs.declared.stable.Stable.{Ghosts}
use Rattle.stable.specs.Storages.{IsLawful}
use Rattle.acceptor.specs.Accepting.{OptionalWrite, HasWritten, HasFailed}
use Rattle.acceptor.specs.Spelling.{vote_bytes}
use Rattle.sessions.specs.declared.command.Command.{Command}
use Rattle.node_model.specs.declared.fault.NodeFault.{NodeFault}
use Rattle.node_model.specs.declared.fault.NodeFault.TheVariants as fault
use Rattle.node_model.specs.declared.input.Input.{Input}
use Rattle.node_model.specs.Faults.{is_stop_fault}
use Rattle.node_model.specs.Loading.{IsMember, Restarts}
use Rattle.node_model.specs.Replicas.{ReplicaState}
use Rattle.node_model.specs.Nodes.{NodeState, NodeSteps, TakesInput, RefusesInput, StopsOnInput, StorageStops}
use Rattle.node_model.specs.Outputs.{Response}
use Rattle.node_model.specs.Protocol.{membership, frame_of, input_of, InputFits, HoldsRecords, ReplicaStands}
use Rattle.node_model.specs.Taking.{Writes, WritesCheckpoint}
use Rattle.node_model.proofs.AllowedLoading.{blank_at}
use Rattle.node_model.proofs.RecordsGoOn.{vote_above}
use Rattle.world_model.specs.Reaching.{NodeStands, PutsStand, StandsAt}
use Rattle.world_model.specs.Voting.{vote_put, HasVote}
use Rattle.world_model.proofs.OneNode.ListedPuts.{GoesOn, KeepsPuts, put_by, sets_put, same_goes, same_lists}
use Rattle.world_model.proofs.OneNode.NodeMoves.{IsLevelOn, NodeMoves, node_moves, sends_of, learnt_of, submitted_of}
use Rattle.world_model.proofs.OneNode.RestartLemmas.{begins_at, restart_stands}
use Rattle.world_model.proofs.OneNode.VotesStand.{puts_go_on, listed_when_sure}

-- none is not some
pub none_is_not_some : {A : Type 0} (o : Option A) → o ≡ None → IsSome o → ⊥
none_is_not_some (Some x) e s = absurd (cc)
none_is_not_some None e s = search rules

-- ---- a node in the protocol's world once one has come to y
-- node i at the beginning of a step
abbrev pub local_of : synod_runs.World Command → ℕ → Local Command
local_of = synod_runs.here

-- a node with such records and such a replica at the beginning of a step
abbrev begins : synod_records.NodeRecords Command → synod_volatile.Volatile Command → Local Command
begins r m = record { records = r; replica = m; sent = []; learnt = []; submitted = [] }

-- where a node has come to with its records and its replica, the rest aside
begun_replica : (m : ReplicaState) (y : Local Command) → ReplicaStands m y → ReplicaStands m (begins y.records y.replica)
begun_replica m y h = record {
  records = h.records;
  learner = h.learner;
  proposer = record { round = h.proposer.round; campaign = h.proposer.campaign; waiting = h.proposer.waiting };
  position_ = h.position_;
  level = h.level;
}

begun_up : (records : Records) (o : Option ReplicaState) (y : Local Command) → IfSome o (λ m. HoldsRecords m records × ReplicaStands m y)
    → IfSome o (λ m. HoldsRecords m records × ReplicaStands m (begins y.records y.replica))
begun_up records None y h = tt
begun_up records (Some m) y h = (h.0, begun_replica m y h.1)

-- the protocol's floor is the one that a node holds which is up
floor_up : {S : Type 0} (contents : Script S → Records) (n : NodeState (Script S)) (m : ReplicaState) (x : Local Command) → n.up ≡ Some m
    → NodeStands contents n x → x.records.floor ≡ m.acceptor.floor
floor_up contents n m x up stands =
    let both : HoldsRecords m (contents n.storage) × ReplicaStands m x =
    subst (λ (o : Option ReplicaState). IfSome o (λ k. HoldsRecords k (contents n.storage) × ReplicaStands k x)) up stands.up in
    both.1.records.floor_

begun : {S : Type 0} (contents : Script S → Records) (n : NodeState (Script S)) (y : Local Command) → NodeStands contents n y
    → NodeStands contents n (begins y.records y.replica)
begun contents n y h = record { records = h.records; up = begun_up (contents n.storage) n.up y h.up }

here_placed : (w : synod_runs.World Command) (i : ℕ) (y : Local Command) → local_of (placed w i y) i ≡ begins y.records y.replica
here_placed w i y =
    ap (λ (r : synod_records.NodeRecords Command). begins r ((placed w i y).replica i)) (put_same w.past.records i y.records)
    ∙ ap (λ (m : synod_volatile.Volatile Command). begins y.records m) (put_same w.replica i y.replica)

there_placed : (w : synod_runs.World Command) (i : ℕ) (y : Local Command) (j : ℕ) → (j ≡ i → ⊥) → local_of (placed w i y) j ≡ local_of w j
there_placed w i y j other =
    ap (λ (r : synod_records.NodeRecords Command). begins r ((placed w i y).replica j)) (put_other w.past.records i y.records j other)
    ∙ ap (λ (m : synod_volatile.Volatile Command). begins (w.past.records j) m) (put_other w.replica i y.replica j other)

come_longer : (w : synod_runs.World Command) (i : ℕ) (y : Local Command) (input : act.Input Command) → HasCome w.past input
    → HasCome (placed w i y).past input
come_longer w i y (act.Came sender m) came = (came.0, Contains-append_left w.past.frames y.sent _ came.1)
come_longer w i y act.Nothing came = tt

module _ {S : Type 0} (contents : Script S → Records) (nodes : ℕ) (w : synod_runs.World Command) (i : ℕ) (y : Local Command) where
  stays_standing : (j : ℕ) (x : Local Command) (n : NodeState (Script S)) → StandsAt contents nodes j w.past x n
      → StandsAt contents nodes j (placed w i y).past x n
  stays_standing j x n s = record {
    listed = s.listed;
    input = s.input;
    came = come_longer w i y s.input s.came;
    after = s.after;
    does = s.does;
    unsent = s.unsent;
    unlearnt = s.unlearnt;
    unsubmitted = s.unsubmitted;
    stands = s.stands;
    puts = s.puts;
    sure = s.sure;
    up = s.up;
  }

  -- another node stands where it did
  pub stands_elsewhere : (j : ℕ) (n : NodeState (Script S)) → (j ≡ i → ⊥) → StandsAt contents nodes j w.past (local_of w j) n
      → StandsAt contents nodes j (placed w i y).past (local_of (placed w i y) j) n
  stands_elsewhere j n other s =
      subst (λ (x : Local Command). StandsAt contents nodes j (placed w i y).past x n) (sym (there_placed w i y j other))
      (stays_standing j (local_of w j) n s)

  -- the node itself stands at y, where nothing is unsure
  pub stands_here : (n : NodeState (Script S)) → NodeStands contents n y → PutsStand contents n.storage y.records → n.storage.unsure ≡ None
      → StandsAt contents nodes i (placed w i y).past (local_of (placed w i y) i) n
  stands_here n stands puts sure =
      subst (λ (x : Local Command). StandsAt contents nodes i (placed w i y).past x n) (sym (here_placed w i y)) (record {
        listed = listed_when_sure contents n.storage y.records sure puts;
        input = act.Nothing;
        came = tt;
        after = begins y.records y.replica;
        does = does_nothing (membership nodes) i act.Nothing (begins y.records y.replica);
        unsent = refl;
        unlearnt = refl;
        unsubmitted = refl;
        stands = begun contents n y stands;
        puts = puts;
        sure = λ _. refl;
        up = λ _. sure;
      })

-- a node that does nothing stands where it did
pub stands_still : {S : Type 0} (contents : Script S → Records) (nodes : ℕ) (w : synod_runs.World Command) (i : ℕ)
    (n : NodeState (Script S))
    → StandsAt contents nodes i w.past (local_of w i) n
    → StandsAt contents nodes i (placed w i (local_of w i)).past (local_of (placed w i (local_of w i)) i) n
stands_still contents nodes w i n s =
    let y : Local Command = local_of w i in
    subst (λ (x : Local Command). StandsAt contents nodes i (placed w i y).past x n) (sym (here_placed w i y))
    (stays_standing contents nodes w i y i y n s)

-- the records to which a node's acts lead are sound
sound_after : (nodes : ℕ) (w : synod_runs.World Command) (i : ℕ) (input : act.Input Command) (y : Local Command) → IsReached (membership nodes) w
    → HasCome w.past input → Does (membership nodes) i input (local_of w i) y → RecordsAreSound y.records
sound_after nodes w i input y reached came does =
    subst (λ (r : synod_records.NodeRecords Command). RecordsAreSound r) (put_same w.past.records i y.records)
    ((reached_holds (membership nodes) (placed w i y) (does_reaches (membership nodes) w i input y came does reached)).past.records i)

-- ---- what an input makes of a node's list of writes
-- the node has gone down, and its list is as it was
pub record WentDown {S : Type 0} (old new : NodeState (Script S)) (r : Result Response NodeFault) : Type 0 where
  pub fault_ : NodeFault
  pub failed : r ≡ Err fault_
  pub down : new.up ≡ None
  pub list : new.storage.writes ≡ old.storage.writes

-- what becomes of its storage: the one put that is made, if one is, is that of the input
pub record ListGoesOn {S : Type 0} (contents : Script S → Records) (m : ReplicaState) (input : Input) (old new : NodeState (Script S))
    (r : Result Response NodeFault) : Type 0 where
  pub made : OptionalWrite
  pub writes : (made ≡ None) ⊎ Writes m input made
  pub goes : GoesOn contents (put_by made) old.storage new.storage
  pub sure : old.storage.unsure ≡ None → (new.storage.unsure ≡ None) ⊎ WentDown old new r

-- of a node that is up or not
pub record NodeGoesOn {S : Type 0} (contents : Script S → Records) (input : Input) (old new : NodeState (Script S)) : Type 0 where
  pub made : OptionalWrite
  pub writes : (made ≡ None) ⊎ ((m : ReplicaState) × (old.up ≡ Some m) × Writes m input made)
  pub goes : GoesOn contents (put_by made) old.storage new.storage

-- the place of the key of what is put, if something is
abbrev place_of : OptionalWrite → ℕ
place_of None = 0
place_of (Some (Trims below)) = 0
place_of (Some (Sets k bytes)) = rank k

-- a checkpoint puts no vote
checkpoint_puts_no_vote : (m : ReplicaState) (w : OptionalWrite) (v : Vote Command) → WritesCheckpoint m w → w ≡ Some (Sets (key.Vote v.slot) (vote_bytes v)) → ⊥
checkpoint_puts_no_vote m w v writes e =
    let places : 0 ≡ v.slot + 3 = ap place_of (sym writes.is ∙ e) in
    absurd (omega (arith, places))

-- a vote is put at a slot from the floor on
made_above : {S : Type 0} {contents : Script S → Records} (m : ReplicaState) (input : Input) (old new : NodeState (Script S))
    (r : Result Response NodeFault) (on : ListGoesOn contents m input old new r) (before after : ℕ) → before ≡ m.acceptor.floor
    → IsLevelOn input before after → (v : Vote Command) → put_by on.made ≡ Some (vote_put v) → after ≤ v.slot
made_above m input old new r on before after floor level v e = elim on.writes [
  | inl none ↦ absurd (none-some (vote_put v) (ap put_by (sym none) ∙ e))
  | inr writes ↦ elim level [
    | inl checkpoint ↦ absurd (checkpoint_puts_no_vote m on.made v (subst (λ (i : Input). Writes m i on.made) checkpoint writes)
        (sets_put on.made (vote_put v) e))
    | inr same ↦
        let above : m.acceptor.floor ≤ v.slot = vote_above m input on.made writes v.slot _ (sets_put on.made (vote_put v) e) in
        omega (arith, above, floor, same)
  ]
]

-- where an accept has come the floor is what it was
accept_levels : (nodes i : ℕ) (input : Input) (before after : ℕ) → IsLevelOn input before after → (v : Vote Command)
    → Brings (input_of i nodes input) (Accept v) → after ≡ before
accept_levels nodes i input before after (inl checkpoint) v brings =
    absurd (subst (λ (x : Input). Brings (input_of i nodes x) (Accept v)) checkpoint brings)
accept_levels nodes i input before after (inr same) v brings = same

-- node i may come on this input to what stands for it, and tells this on the way
pub record NodeComes {S : Type 0} (contents : Script S → Records) (nodes i : ℕ) (input : Input) (w : synod_runs.World Command)
    (new : NodeState (Script S)) (result : Result Response NodeFault) : Type 0 where
  pub to : Local Command
  pub does : Does (membership nodes) i (input_of i nodes input) (local_of w i) to
  pub stands : StandsAt contents nodes i (placed w i to).past (local_of (placed w i to) i) new
  pub sent : to.sent ≡ map frame_of (sends_of result)
  pub learnt : to.learnt ≡ learnt_of i result
  pub submitted : to.submitted ≡ submitted_of input result

-- it may come there, and tells nothing on the way
pub record ComesQuietly {S : Type 0} (contents : Script S → Records) (nodes i : ℕ) (w : synod_runs.World Command)
    (new : NodeState (Script S)) : Type 0 where
  pub input : act.Input Command
  pub came : HasCome w.past input
  pub to : Local Command
  pub does : Does (membership nodes) i input (local_of w i) to
  pub unsent : to.sent ≡ []
  pub unlearnt : to.learnt ≡ []
  pub unsubmitted : to.submitted ≡ []
  pub stands : StandsAt contents nodes i (placed w i to).past (local_of (placed w i to) i) new

abbrev failed_with : NodeFault → Result (Unit {0}) NodeFault
failed_with f = Err f

module _ {S : Type 0} {storages : Ghosts (Script S)} (laws : IsLawful storages)
    (lists : KeepsPuts storages) where
  -- ---- the storage
  read_sure : (a b : Script S) → storages.reads a b → a.unsure ≡ None → b.unsure ≡ None
  read_sure a b h sure = elim (lists.reads_unsure a b h) [ inl now ↦ now | inr same ↦ same.1 ∙ sure ]

  pub written_goes : (a b : Script S) (w : OptionalWrite) → HasWritten storages.reads storages.changes a b w → storages.IsHonest b
      → GoesOn storages.contents (put_by w) a b
  written_goes a b None h honest = lists.reads_on a b h honest
  written_goes a b (Some w) h honest = lists.changes_on a b w h honest

  written_sure : (a b : Script S) (w : OptionalWrite) → HasWritten storages.reads storages.changes a b w → a.unsure ≡ None → b.unsure ≡ None
  written_sure a b None h sure = read_sure a b h sure
  written_sure a b (Some w) h sure = lists.changes_sure a b w h

  pub failed_goes : (a b : Script S) (w : OptionalWrite) → HasFailed storages.fails a b w → storages.IsHonest b
      → GoesOn storages.contents (put_by w) a b
  failed_goes a b None h honest = absurd h
  failed_goes a b (Some w) h honest = lists.fails_on a b w h honest

  failed_list : (a b : Script S) (w : OptionalWrite) → HasFailed storages.fails a b w → a.unsure ≡ None → (b.unsure ≡ None) ⊎ (b.writes ≡ a.writes)
  failed_list a b None h sure = absurd h
  failed_list a b (Some w) h sure = lists.fails_unsure a b w h sure

  -- ---- an input
  stopped : (old new : NodeState (Script S)) (m : ReplicaState) (input : Input) (f : NodeFault)
      → StorageStops storages old.storage m input f new.storage
      → new.up ≡ None → storages.IsHonest new.storage → ListGoesOn storages.contents m input old new (Err f)
  stopped old new m input fault.Device h down honest = record {
    made = h.write;
    writes = inr h.made;
    goes = failed_goes old.storage new.storage h.write h.leaves honest;
    sure = λ sure. elim (failed_list old.storage new.storage h.write h.leaves sure) [
      | inl now ↦ inl now
      | inr list ↦ inr (record { fault_ = fault.Device; failed = refl; down = down; list = list })
    ];
  }
  stopped old new m input fault.Memory (inl h) down honest =
      record {
        made = None;
        writes = inl refl;
        goes = lists.reads_on old.storage new.storage h honest;
        sure = λ sure. inl (read_sure old.storage new.storage h sure);
      }
  stopped old new m input fault.Memory (inr h) down honest = record {
    made = h.write;
    writes = inr h.made;
    goes = written_goes old.storage new.storage h.write h.leaves honest;
    sure = λ sure. inl (written_sure old.storage new.storage h.write h.leaves sure);
  }
  stopped old new m input fault.Down h down honest = absurd h
  stopped old new m input fault.LogFull h down honest = absurd h
  stopped old new m input fault.RoundsUsedUp h down honest = absurd h
  stopped old new m input fault.QueueFull h down honest = absurd h
  stopped old new m input fault.TooLong h down honest = absurd h
  stopped old new m input fault.NothingNew h down honest = absurd h
  stopped old new m input fault.Damaged h down honest = absurd h

  stays_goes : (a b : Script S) → b ≡ a → GoesOn storages.contents None a b
  stays_goes a b e = subst (λ (s : Script S). GoesOn storages.contents None a s) (sym e)
      (same_goes storages.contents None a a (same_lists storages.contents a a refl refl refl))

  unchanged : (old new : NodeState (Script S)) (m : ReplicaState) (input : Input) (r : Result Response NodeFault) → new ≡ old
      → ListGoesOn storages.contents m input old new r
  unchanged old new m input r e =
      let same : new.storage ≡ old.storage = ap (λ (n : NodeState (Script S)). n.storage) e in
      record {
        made = None;
        writes = inl refl;
        goes = stays_goes old.storage new.storage same;
        sure = λ sure. inl (ap (λ (s : Script S). s.unsure) same ∙ sure);
      }

  list_refused : (old new : NodeState (Script S)) (m : ReplicaState) (input : Input) (f : NodeFault) (b : Bool)
      → MatchBool b (StopsOnInput storages old m input f new) (RefusesInput old m input f new)
      → storages.IsHonest new.storage → ListGoesOn storages.contents m input old new (Err f)
  list_refused old new m input f true h honest =
      stopped old new m input f h.storage (ap (λ (n : NodeState (Script S)). n.up) h.leaves) honest
  list_refused old new m input f false h honest = unchanged old new m input (Err f) h.leaves

  list_on : (old new : NodeState (Script S)) (m : ReplicaState) (input : Input) (r : Result Response NodeFault)
      → IfOk r (λ told. TakesInput storages old m input told new)
      → IfErr r (λ f. MatchBool (is_stop_fault f) (StopsOnInput storages old m input f new) (RefusesInput old m input f new))
      → storages.IsHonest new.storage → ListGoesOn storages.contents m input old new r
  list_on old new m input (Ok told) h refused honest = record {
    made = h.made.write;
    writes = inr h.made.made;
    goes = written_goes old.storage new.storage h.made.write h.made.leaves honest;
    sure = λ sure. inl (written_sure old.storage new.storage h.made.write h.made.leaves sure);
  }
  list_on old new m input (Err f) taken h honest = list_refused old new m input f (is_stop_fault f) h honest

  -- a node that is up
  list_up : (old new : NodeState (Script S)) (m : ReplicaState) (input : Input) (r : Result Response NodeFault) → old.up ≡ Some m
      → NodeSteps storages old input r new → storages.IsHonest new.storage → ListGoesOn storages.contents m input old new r
  list_up old new m input r up h honest =
      list_on old new m input r
      (subst (λ (o : Option ReplicaState). IfSome o (λ n. IfOk r (λ told. TakesInput storages old n input told new))) up h.taken)
      (subst (λ (o : Option ReplicaState). IfSome o (λ n. IfErr r (λ f. MatchBool (is_stop_fault f)
      (StopsOnInput storages old n input f new) (RefusesInput old n input f new)))) up h.refused) honest

  goes_by_replica : (old new : NodeState (Script S)) (input : Input) (r : Result Response NodeFault) (o : Option ReplicaState) → old.up ≡ o
      → NodeSteps storages old input r new → storages.IsHonest new.storage → NodeGoesOn storages.contents input old new
  goes_by_replica old new input r None up h honest = record {
    made = None;
    writes = inl refl;
    goes = stays_goes old.storage new.storage (ap (λ (n : NodeState (Script S)). n.storage) (h.down up).1);
  }
  goes_by_replica old new input r (Some m) up h honest =
      let on = list_up old new m input r up h honest in
      record {
        made = on.made;
        writes = elim on.writes [ inl none ↦ inl none | inr writes ↦ inr (m, up, writes) ];
        goes = on.goes;
      }

  -- what an input makes of a node's storage
  pub node_goes : (old new : NodeState (Script S)) (input : Input) (r : Result Response NodeFault) → NodeSteps storages old input r new
      → storages.IsHonest new.storage → NodeGoesOn storages.contents input old new
  node_goes old new input r h honest = goes_by_replica old new input r old.up refl h honest

  -- and a restart
  pub restart_goes : (old new : NodeState (Script S)) (r : Result (Unit {0}) NodeFault) → Restarts storages old r new
      → storages.IsHonest new.storage → GoesOn storages.contents None old.storage new.storage
  restart_goes old new (Ok x) h honest = lists.reads_on old.storage new.storage (laws.looks_reads _ _ h.up.1) honest
  restart_goes old new (Err f) h honest = elim h.other [
    | inl device ↦ lists.read_fails_on old.storage new.storage (h.device (ap failed_with device)) honest
    | inr other ↦ lists.reads_on old.storage new.storage (laws.looks_reads _ _ other.1) honest
  ]

  module _ (nodes i : ℕ) (there : i < nodes) (few : nodes ≤ 7) (w : synod_runs.World Command) (reached : IsReached (membership nodes) w) where
    -- a node that is down, or refuses, does nothing
    rests : (input : Input) (new : NodeState (Script S)) (r : Result Response NodeFault) (f : NodeFault) → r ≡ Err f
        → StandsAt storages.contents nodes i w.past (local_of w i) new → NodeComes storages.contents nodes i input w new r
    rests input new r f failed s =
        subst (λ (q : Result Response NodeFault). NodeComes storages.contents nodes i input w new q) (sym failed) (record {
          to = local_of w i;
          does = does_nothing (membership nodes) i (input_of i nodes input) (local_of w i);
          stands = stands_still storages.contents nodes w i new s;
          sent = refl;
          learnt = refl;
          submitted = refl;
        })

    -- a put is unsure: what stands for the node is kept for the time when that is known
    waits : (old new : NodeState (Script S)) (input : Input) (r : Result Response NodeFault) (u : script.Write)
        → new.storage.unsure ≡ Some u
        → HasCome w.past (input_of i nodes input) → StandsAt storages.contents nodes i w.past (local_of w i) old
        → (m : NodeMoves storages.contents nodes i input (local_of w i) new r) → PutsStand storages.contents new.storage m.after.records
        → WentDown old new r
        → NodeComes storages.contents nodes i input w new r
    waits old new input r u unsure came s m stand d = rests input new r d.fault_ d.failed (record {
      listed = λ (v : Vote Command).
          subst (λ (ws : List script.Write). Contains (w.past.records i).writes (VoteWrite v) ↔ HasVote ws v) (sym d.list) (s.listed v);
      input = input_of i nodes input;
      came = came;
      after = m.after;
      does = m.does;
      unsent = m.sent ∙ ap (λ (q : Result Response NodeFault). map frame_of (sends_of q)) d.failed;
      unlearnt = m.learnt ∙ ap (λ (q : Result Response NodeFault). learnt_of i q) d.failed;
      unsubmitted = m.submitted ∙ ap (λ (q : Result Response NodeFault). submitted_of input q) d.failed;
      stands = m.stands;
      puts = stand;
      sure = λ none. absurd (none-some u (sym none ∙ unsure));
      up = λ up. absurd (none_is_not_some new.up d.down up);
    })

    arrives : (old new : NodeState (Script S)) (input : Input) (r : Result Response NodeFault) (o : Option script.Write)
        → new.storage.unsure ≡ o
        → HasCome w.past (input_of i nodes input) → StandsAt storages.contents nodes i w.past (local_of w i) old
        → (m : NodeMoves storages.contents nodes i input (local_of w i) new r) → PutsStand storages.contents new.storage m.after.records
        → (new.storage.unsure ≡ None) ⊎ WentDown old new r → NodeComes storages.contents nodes i input w new r
    arrives old new input r None sure came s m stand d = record {
      to = m.after;
      does = m.does;
      stands = stands_here storages.contents nodes w i m.after new m.stands stand sure;
      sent = m.sent;
      learnt = m.learnt;
      submitted = m.submitted;
    }
    arrives old new input r (Some u) unsure came s m stand (inl sure) = absurd (none-some u (sym sure ∙ unsure))
    arrives old new input r (Some u) unsure came s m stand (inr d) = waits old new input r u unsure came s m stand d

    by_replica : (old new : NodeState (Script S)) (input : Input) (r : Result Response NodeFault) (o : Option ReplicaState) → old.up ≡ o
        → HasCome w.past (input_of i nodes input) → NodeSteps storages old input r new
        → StandsAt storages.contents nodes i w.past (local_of w i) old
        → IsMember i nodes old → InputFits input → storages.IsHonest new.storage → NodeComes storages.contents nodes i input w new r
    by_replica old new input r None up came h s member fits honest =
        rests input new r fault.Down (h.down up).0
        (subst (λ (n : NodeState (Script S)). StandsAt storages.contents nodes i w.past (local_of w i) n) (sym (h.down up).1) s)
    by_replica old new input r (Some m) up came h s member fits honest =
        let x : Local Command = local_of w i in
        let sure : old.storage.unsure ≡ None = s.up (subst (λ (o : Option ReplicaState). IsSome o) (sym up) refl) in
        let stands : NodeStands storages.contents old x =
        subst (λ (y : Local Command). NodeStands storages.contents old y) (s.sure sure) s.stands in
        let stand : PutsStand storages.contents old.storage x.records =
        subst (λ (y : Local Command). PutsStand storages.contents old.storage y.records) (s.sure sure) s.puts in
        let moves : NodeMoves storages.contents nodes i input x new r =
        node_moves laws nodes i there few old new input r x h stands member fits honest in
        let on : ListGoesOn storages.contents m input old new r = list_up old new m input r up h honest in
        arrives old new input r new.storage.unsure refl came s moves
        (puts_go_on storages.contents (membership nodes) i (input_of i nodes input) (put_by on.made) x moves.after old.storage new moves.does
        (record {
          put_above = made_above m input old new r on x.records.floor moves.after.records.floor
              (floor_up storages.contents old m x up stands) moves.floor_;
          same_floor = accept_levels nodes i input x.records.floor moves.after.records.floor moves.floor_;
        }) on.goes moves.stands
        (sound_after nodes w i (input_of i nodes input) moves.after reached came moves.does) stand) (on.sure sure)

    -- a node comes to what stands for it after an input
    pub node_comes : (old new : NodeState (Script S)) (input : Input) (r : Result Response NodeFault)
        → HasCome w.past (input_of i nodes input)
        → NodeSteps storages old input r new → StandsAt storages.contents nodes i w.past (local_of w i) old
        → IsMember i nodes old → InputFits input → storages.IsHonest new.storage → NodeComes storages.contents nodes i input w new r
    node_comes old new input r came h s member fits honest = by_replica old new input r old.up refl came h s member fits honest

    -- ---- a restart
    restart_list : (old new : NodeState (Script S)) (r : Result (Unit {0}) NodeFault) → Restarts storages old r new
        → (new.storage.unsure ≡ None) ⊎ ((new.storage.writes ≡ old.storage.writes) × (new.storage.unsure ≡ old.storage.unsure))
    restart_list old new (Ok x) h = lists.reads_unsure old.storage new.storage (laws.looks_reads _ _ h.up.1)
    restart_list old new (Err f) h = elim h.other [
      | inl device ↦ lists.read_fails_unsure old.storage new.storage (h.device (ap failed_with device))
      | inr other ↦ lists.reads_unsure old.storage new.storage (laws.looks_reads _ _ other.1)
    ]

    sure_again : (new : NodeState (Script S)) (r : Result (Unit {0}) NodeFault) → OnOk r (new.storage.unsure ≡ None)
        → OnErr r (new.up ≡ None)
        → IsSome new.up → new.storage.unsure ≡ None
    sure_again new (Ok x) settled down up = settled
    sure_again new (Err f) settled down up = absurd (none_is_not_some new.up down up)

    -- what was not in the records is forgotten, and the node goes to the position at which it begins
    reloads : (input : act.Input Command) (x : Local Command) (position : ℕ)
        → Does (membership nodes) i input x (record x { replica = blank_at position })
    reloads input x position =
        does_then (membership nodes) i input (does_one (membership nodes) i input x act.Forgets tt)
        (does_one (membership nodes) i input (act.acted i x act.Forgets) (act.Advances position) (omega arith))

    restarted : (old new : NodeState (Script S)) (o : Option script.Write) → new.storage.unsure ≡ o
        → (s : StandsAt storages.contents nodes i w.past (local_of w i) old)
        → NodeStands storages.contents new (record s.after { replica = blank_at (begins_at new.up) })
        → PutsStand storages.contents new.storage s.after.records
        → (new.storage.unsure ≡ None) ⊎ ((new.storage.writes ≡ old.storage.writes) × (new.storage.unsure ≡ old.storage.unsure))
        → (IsSome new.up → new.storage.unsure ≡ None) → ComesQuietly storages.contents nodes i w new
    restarted old new None sure s stands stand list up =
        let y : Local Command = record s.after { replica = blank_at (begins_at new.up) } in
        record {
          input = s.input;
          came = s.came;
          to = y;
          does = does_then (membership nodes) i s.input s.does (reloads s.input s.after (begins_at new.up));
          unsent = s.unsent;
          unlearnt = s.unlearnt;
          unsubmitted = s.unsubmitted;
          stands = stands_here storages.contents nodes w i y new stands stand sure;
        }
    restarted old new (Some u) unsure s stands stand (inl sure) up = absurd (none-some u (sym sure ∙ unsure))
    restarted old new (Some u) unsure s stands stand (inr same) up = record {
      input = act.Nothing;
      came = tt;
      to = local_of w i;
      does = does_nothing (membership nodes) i act.Nothing (local_of w i);
      unsent = refl;
      unlearnt = refl;
      unsubmitted = refl;
      stands = stands_still storages.contents nodes w i new (record {
        listed = λ (v : Vote Command).
            subst (λ (ws : List script.Write). Contains (w.past.records i).writes (VoteWrite v) ↔ HasVote ws v) (sym same.0) (s.listed v);
        input = s.input;
        came = s.came;
        after = record s.after { replica = blank_at (begins_at new.up) };
        does = does_then (membership nodes) i s.input s.does (reloads s.input s.after (begins_at new.up));
        unsent = s.unsent;
        unlearnt = s.unlearnt;
        unsubmitted = s.unsubmitted;
        stands = stands;
        puts = stand;
        sure = λ none. absurd (none-some u (sym none ∙ unsure));
        up = up;
      });
    }

    pub restart_comes : (old new : NodeState (Script S)) (r : Result (Unit {0}) NodeFault) → Restarts storages old r new
        → OnOk r (new.storage.unsure ≡ None) → StandsAt storages.contents nodes i w.past (local_of w i) old → storages.IsHonest new.storage
        → ComesQuietly storages.contents nodes i w new
    restart_comes old new r h settled s honest =
        let y : Local Command = record s.after { replica = blank_at (begins_at new.up) } in
        let loads : Does (membership nodes) i s.input s.after y = reloads s.input s.after (begins_at new.up) in
        let stands : NodeStands storages.contents new y = restart_stands laws old new r s.after h honest s.stands in
        let sound : RecordsAreSound y.records = sound_after nodes w i s.input y reached s.came
        (does_then (membership nodes) i s.input s.does loads) in
        restarted old new new.storage.unsure refl s stands
        (puts_go_on storages.contents (membership nodes) i s.input None s.after y old.storage new loads
        (record { put_above = λ v e. absurd (none-some (vote_put v) e); same_floor = λ v came_. refl })
        (restart_goes old new r h honest) stands sound s.puts)
        (restart_list old new r h) (sure_again new r settled h.down)
