-- A node and the list of its puts: what happens to the one happens to both.
use Rattle.std.proofs.Common.{◌≡◌, ◌↔◌, ℕ, ◌+◌, inl, inr, List, Bool, true, false, IsTrue, Option, Some, None, IfSome, IsSome}
use Rattle.std.proofs.Common.{Result, Ok, Err, OnOk, MatchBool, refl, sym, ap, ◌∙◌, subst}
use Rattle.std.proofs.lemmas.Option.{none-some, same_Some}
use Rattle.std.proofs.lemmas.Slice.Eq.{bytes_eq-Decides}
use Rattle.std.specs.Str.{bytes_eq}
use Rattle.stable.specs.Records.{Change, Records}
use Rattle.stable.specs.Script.{Script, Write, PutShows, IsUnarmed, added, noted, raised_by, unsure_by}
use Rattle.stable.specs.declared.stable.Stable.{Ghosts}
use Rattle.stable.specs.Storages.{IsLawful, scripted}
use Rattle.acceptor.specs.Accepting.{OptionalWrite, HasWritten, HasFailed}
use Rattle.node_model.specs.declared.fault.NodeFault.{NodeFault}
use Rattle.node_model.specs.declared.fault.NodeFault.TheVariants as fault
use Rattle.node_model.specs.declared.input.Input.{Input}
use Rattle.node_model.specs.declared.input.Input.TheVariants as input
use Rattle.node_model.specs.Faults.{is_stop_fault}
use Rattle.node_model.specs.Loading.{Restarts}
use Rattle.node_model.specs.Nodes.{NodeState, NodeSteps, StorageStops, StopsOnInput}
use Rattle.node_model.specs.Nodes.{RefusesInput, TakesInput}
use Rattle.node_model.specs.Outputs.{Response, silence}
use Rattle.node_model.specs.Replicas.{ReplicaState, Ignores, refuses}
use Rattle.node_model.specs.Taking.{Writes, WritesOnEnvelope}
use Rattle.world_model.specs.HandedOn.{HandedOn, handed_on, HoldsStill, HoldsChanged}
use Rattle.world_model.specs.Lives.{IsCutOff, reopened}
use Rattle.world_model.proofs.Weaving.HandedLaws.{still, read_still, read_failed_still, changes_changed, fails_may}

-- what a world knows of a storage besides what is stored
pub record Listed : Type 0 where
  pub failures : ℕ
  pub writes : List Write
  pub unsure : Option Write
  pub trimmed : ℕ

abbrev pub with_list : {S : Type 0} → S → Listed → Script (HandedOn S)
with_list s g = record {
  inner = record { storage = s; failures = g.failures };
  armed = None;
  writes = g.writes;
  unsure = g.unsure;
  fired = Some 0;
  trimmed = g.trimmed;
}

abbrev pub node_with : {S : Type 0} → NodeState S → Listed → NodeState (Script (HandedOn S))
node_with n g = record { id = n.id; nodes = n.nodes; storage = with_list n.storage g; up = n.up }

-- the list after a write, and after a failure on one
abbrev after_write : OptionalWrite → Listed → Listed
after_write None g = g
after_write (Some change) g = record g { writes = added change g.writes; trimmed = raised_by change g.trimmed }

abbrev after_failure : OptionalWrite → Listed → Listed
after_failure None g = g
after_failure (Some change) g = record g {
  failures = g.failures + 1;
  unsure = unsure_by change g.unsure;
  trimmed = raised_by change g.trimmed;
}

written_sure : (w : OptionalWrite) (g : Listed) → g.unsure ≡ None → (after_write w g).unsure ≡ None
written_sure None g sure = sure
written_sure (Some change) g sure = sure

-- what is ignored writes nothing
ignored_writes : (m : ReplicaState) (i : Input) (w : OptionalWrite) → Ignores m i → Writes m i w → w ≡ None
ignored_writes m (input.Submit client number op) w ignores writes = writes
ignored_writes m (input.Message e) w ignores writes = subst (λ b. WritesOnEnvelope m e b w) ignores writes
ignored_writes m input.Timeout w ignores writes = absurd ignores
ignored_writes m input.Tick w ignores writes = absurd ignores
ignored_writes m input.Checkpoint w ignores writes = absurd ignores
ignored_writes m input.Trim w ignores writes = absurd ignores

unarmed : IsUnarmed None
unarmed = record { old = λ e. none-some _ e; new = λ e. none-some _ e }

-- ---- whether a put shows
holds_bytes : Option (List ℕ) → List ℕ → Bool
holds_bytes None bytes = false
holds_bytes (Some held) bytes = bytes_eq held bytes

holds_decides : (o : Option (List ℕ)) (bytes : List ℕ) → IsTrue (holds_bytes o bytes) ↔ (o ≡ Some bytes)
unfolding holds_bytes
holds_decides None bytes = (λ t. cc, λ e. absurd (none-some bytes e))
holds_decides (Some held) bytes =
    let d = bytes_eq-Decides held bytes in (λ t. ap Some (d.0 t), λ e. d.1 (same_Some held bytes e))

shows_in : Records → Option Write → Bool
shows_in records None = false
shows_in records (Some write) = holds_bytes (records write.0) write.1

shows_decides : (records : Records) (o : Option Write) (write : Write) → o ≡ Some write
    → IsTrue (shows_in records o) ↔ PutShows records write
unfolding shows_in
shows_decides records None write e = absurd (none-some write e)
shows_decides records (Some w) write e =
    subst (λ (x : Write). IsTrue (holds_bytes (records w.0) w.1) ↔ PutShows records x) (same_Some w write e)
    (holds_decides (records w.0) w.1)

-- ---- the storage
module _ {S : Type 0} {storages : Ghosts S} (laws : IsLawful storages) where
  abbrev Handed : Ghosts (Script (HandedOn S))
  Handed = scripted (handed_on storages)

  -- it is read, and the list stays
  reads_with : (a b : S) (g : Listed) → HoldsStill storages a b → Handed.reads (with_list a g) (with_list b g)
  reads_with a b g h = record { inner = (h, refl); armed = refl; fired = refl; trimmed = refl; list = inl (refl, refl) }

  changed_with : (a b : S) (change : Change) (g : Listed) → g.unsure ≡ None → HoldsChanged storages a change b
      → Handed.changes (with_list a g) change (with_list b (after_write (Some change) g))
  changed_with a b change g sure h = record {
    between = with_list a g;
    before = reads_with a a g (still storages a);
    unarmed = unarmed;
    adds = record { settled = sure; inner = (h, refl); writes = refl; unsure = sure; trimmed = refl };
    armed = refl;
    fired = refl;
  }

  written_with : (a b : S) (w : OptionalWrite) (g : Listed) → g.unsure ≡ None
      → HasWritten storages.reads storages.changes a b w
      → HasWritten Handed.reads Handed.changes (with_list a g) (with_list b (after_write w g)) w
  written_with a b None g sure h = reads_with a b g (read_still laws a b h)
  written_with a b (Some change) g sure h = changed_with a b change g sure (changes_changed laws a b change h)

  failed_with : (a b : S) (w : OptionalWrite) (g : Listed) → g.unsure ≡ None → HasFailed storages.fails a b w
      → HasFailed Handed.fails (with_list a g) (with_list b (after_failure w g)) w
  failed_with a b None g sure h = absurd h
  failed_with a b (Some change) g sure h = inr (inr (inl (record {
    between = with_list a g;
    before = reads_with a a g (still storages a);
    not_old = unarmed.old;
    settled = sure;
    inner = (fails_may laws a b change h, refl);
    after = refl;
  })))

  -- ---- an input
  -- what a node that goes down leaves
  record StopsWith (a : S) (g : Listed) (m : ReplicaState) (i : Input) (f : NodeFault) (b : S) : Type 0 where
    after : Listed
    stops : StorageStops Handed (with_list a g) m i f (with_list b after)

  stops_with : (a b : S) (g : Listed) (m : ReplicaState) (i : Input) (f : NodeFault) → g.unsure ≡ None
      → StorageStops storages a m i f b → StopsWith a g m i f b
  stops_with a b g m i fault.Device sure h = record {
    after = after_failure h.write g;
    stops = record { write = h.write; made = h.made; leaves = failed_with a b h.write g sure h.leaves };
  }
  stops_with a b g m i fault.Memory sure (inl read) = record { after = g; stops = inl (reads_with a b g (read_still laws a b read)) }
  stops_with a b g m i fault.Memory sure (inr h) = record {
    after = after_write h.write g;
    stops = inr (record { write = h.write; made = h.made; leaves = written_with a b h.write g sure h.leaves });
  }
  stops_with a b g m i fault.Down sure h = absurd h
  stops_with a b g m i fault.LogFull sure h = absurd h
  stops_with a b g m i fault.RoundsUsedUp sure h = absurd h
  stops_with a b g m i fault.QueueFull sure h = absurd h
  stops_with a b g m i fault.TooLong sure h = absurd h
  stops_with a b g m i fault.NothingNew sure h = absurd h
  stops_with a b g m i fault.Damaged sure h = absurd h

  -- what a node makes of an input, with a list after it; where it is up then nothing is unsure
  pub record StepsWith (old : NodeState S) (g : Listed) (i : Input) (r : Result Response NodeFault) (new : NodeState S) : Type 0 where
    pub after : Listed
    pub steps : NodeSteps Handed (node_with old g) i r (node_with new after)
    pub sure : IsSome new.up → after.unsure ≡ None

  record FailsWith (old : NodeState S) (m : ReplicaState) (g : Listed) (i : Input) (f : NodeFault) (b : Bool) (new : NodeState S) : Type 0
    where
      after : Listed
      fails : MatchBool b (StopsOnInput Handed (node_with old g) m i f (node_with new after))
          (RefusesInput (node_with old g) m i f (node_with new after))
      sure : IsSome new.up → after.unsure ≡ None

  fails_with : (old : NodeState S) (m : ReplicaState) (g : Listed) (i : Input) (f : NodeFault) (b : Bool) (new : NodeState S)
      → g.unsure ≡ None
      → MatchBool b (StopsOnInput storages old m i f new) (RefusesInput old m i f new) → FailsWith old m g i f b new
  fails_with old m g i f true new sure h =
      let s = stops_with old.storage new.storage g m i f sure h.storage in
      record {
        after = s.after;
        fails = record { storage = s.stops; leaves = ap (λ (n : NodeState S). node_with n s.after) h.leaves };
        sure = λ up. absurd (
            let down : new.up ≡ None = ap (λ (n : NodeState S). n.up) h.leaves in
            let bad : IsSome {T = ReplicaState} None = subst (λ (o : Option ReplicaState). IsSome o) down up in
            cc);
      }
  fails_with old m g i f false new sure h = record {
    after = g;
    fails = record { refused = h.refused; leaves = ap (λ (n : NodeState S). node_with n g) h.leaves };
    sure = λ up. sure;
  }

  -- a node that is up
  abbrev up_node : ℕ → ℕ → S → ReplicaState → NodeState S
  up_node id nodes s m = record { id = id; nodes = nodes; storage = s; up = Some m }

  up_steps : (id nodes : ℕ) (s : S) (m : ReplicaState) (g : Listed) (i : Input) (r : Result Response NodeFault) (new : NodeState S)
      → g.unsure ≡ None → NodeSteps storages (up_node id nodes s m) i r new → StepsWith (up_node id nodes s m) g i r new
  up_steps id nodes s m g i (Ok said) new sure h =
      let t : TakesInput storages (up_node id nodes s m) m i said new = h.taken in
      record {
        after = after_write t.made.write g;
        steps = record {
          down = λ e. absurd (none-some m (sym e));
          taken = record {
            replica = t.replica;
            takes = t.takes;
            made = record {
              write = t.made.write;
              made = t.made.made;
              leaves = written_with s new.storage t.made.write g sure t.made.leaves;
            };
            leaves = ap (λ (n : NodeState S). node_with n (after_write t.made.write g)) t.leaves;
          };
          refused = tt;
          ignored = λ ignores. (
            (h.ignored ignores).0,
            ap (λ (n : NodeState S). node_with n (after_write t.made.write g)) (h.ignored ignores).1
                ∙ ap (λ (w : OptionalWrite). node_with (up_node id nodes s m) (after_write w g))
                (ignored_writes m i t.made.write ignores t.made.made),
          );
          refuses_ = h.refuses_;
        };
        sure = λ up. written_sure t.made.write g sure;
      }
  up_steps id nodes s m g i (Err f) new sure h =
      let fails = fails_with (up_node id nodes s m) m g i f (is_stop_fault f) new sure h.refused in
      record {
        after = fails.after;
        steps = record {
          down = λ e. absurd (none-some m (sym e));
          taken = tt;
          refused = fails.fails;
          ignored = λ ignores. absurd (let e : ◌≡◌ {A = Result Response NodeFault} (Err f) (Ok silence) = (h.ignored ignores).0 in cc);
          refuses_ = h.refuses_;
        };
        sure = fails.sure;
      }

  pub steps_with : (old : NodeState S) (m : ReplicaState) (g : Listed) (i : Input) (r : Result Response NodeFault) (new : NodeState S)
      → old.up ≡ Some m → g.unsure ≡ None → NodeSteps storages old i r new → StepsWith old g i r new
  steps_with old m g i r new up sure h =
      let named : ◌≡◌ {A = NodeState S} (up_node old.id old.nodes old.storage m) old =
      ap (λ (o : Option ReplicaState). record { id = old.id; nodes = old.nodes; storage = old.storage; up = o }) (sym up) in
      subst (λ (n : NodeState S). StepsWith n g i r new) named
      (up_steps old.id old.nodes old.storage m g i r new sure (subst (λ (n : NodeState S). NodeSteps storages n i r new) (sym named) h))

  -- ---- a change that an input makes, after which the process is killed: as if memory had been wanting
  cut_steps : (id nodes : ℕ) (s : S) (m : ReplicaState) (g : Listed) (i : Input) (change : Change) (b : S) → g.unsure ≡ None
      → refuses m i ≡ None → Writes m i (Some change) → HoldsChanged storages s change b
      → StepsWith (up_node id nodes s m) g i (Err fault.Memory) (reopened (up_node id nodes s m) b)
  cut_steps id nodes s m g i change b sure unrefused makes leaves = record {
    after = after_write (Some change) g;
    steps = record {
      down = λ e. absurd (none-some m (sym e));
      taken = tt;
      refused = record {
        storage = inr (record { write = Some change; made = makes; leaves = changed_with s b change g sure leaves });
        leaves = refl;
      };
      ignored = λ ignores. absurd (none-some change (sym (ignored_writes m i (Some change) ignores makes)));
      refuses_ = subst (λ (o : Option NodeFault). IfSome o (λ f. ◌≡◌ {A = Result Response NodeFault} (Err fault.Memory) (Err f)))
          (sym unrefused) tt;
    };
    sure = λ up. absurd cc;
  }

  pub cut_with : (old : NodeState S) (g : Listed) (i : Input) (b : S) → (IsSome old.up → g.unsure ≡ None)
      → IsCutOff storages old i b → StepsWith old g i (Err fault.Memory) (reopened old b)
  cut_with old g i b sure h =
      let named : ◌≡◌ {A = NodeState S} (up_node old.id old.nodes old.storage h.replica) old =
      ap (λ (o : Option ReplicaState). record { id = old.id; nodes = old.nodes; storage = old.storage; up = o }) (sym h.up) in
      let settled : g.unsure ≡ None = sure (subst (λ (o : Option ReplicaState). IsSome o) (sym h.up) refl) in
      subst (λ (n : NodeState S). StepsWith n g i (Err fault.Memory) (reopened n b)) named
      (cut_steps old.id old.nodes old.storage h.replica g i h.change b settled h.unrefused h.makes h.leaves)

  -- ---- a load
  pub record LoadsWith (old : NodeState S) (g : Listed) (r : Result (Unit {0}) NodeFault) (new : NodeState S) : Type 0 where
    pub after : Listed
    pub restarts : Restarts Handed (node_with old g) r (node_with new after)
    pub settled : OnOk r (after.unsure ≡ None)
    pub sure : IsSome new.up → after.unsure ≡ None

  -- the unsure put is looked for
  looked_for : S → Listed → Listed
  looked_for s g = record g { writes = noted (shows_in (storages.contents s) g.unsure) g.writes g.unsure; unsure = None }

  pub loads_with : (old : NodeState S) (g : Listed) (r : Result (Unit {0}) NodeFault) (new : NodeState S)
      → Restarts storages old r new → LoadsWith old g r new
  unfolding looked_for
  loads_with old g (Ok x) new h =
      let looks : HoldsStill storages old.storage new.storage =
      read_still laws old.storage new.storage (laws.looks_reads old.storage new.storage h.up.1) in
      let after : Listed = looked_for old.storage g in
      record {
        after = after;
        restarts = record {
          leaves = ap (λ (n : NodeState S). node_with n after) h.leaves;
          own = h.own;
          fresh = h.fresh;
          up = (
            h.up.0,
            record {
              read = record {
                inner = (looks, refl);
                armed = refl;
                fired = refl;
                trimmed = refl;
                list = inr (record {
                  found = shows_in (storages.contents old.storage) g.unsure;
                  writes = refl;
                  unsure = refl;
                  shown = λ honest write e. shows_decides (storages.contents old.storage) g.unsure write e;
                });
              };
              unarmed = λ e. none-some _ e;
            },
          );
          loads = λ honest. h.loads honest.0;
          down = tt;
          sound = λ honest. h.sound honest.0;
          damaged = λ honest e. h.damaged honest.0 e;
          device = λ e. absurd cc;
          other = tt;
        };
        settled = refl;
        sure = λ up. refl;
      }
  loads_with old g (Err f) new h = elim h.other [
    | inl device ↦
        let after : Listed = record g { failures = g.failures + 1 } in
        record {
          after = after;
          restarts = record {
            leaves = ap (λ (n : NodeState S). node_with n after) h.leaves;
            own = h.own;
            fresh = h.fresh;
            up = tt;
            loads = λ honest. tt;
            down = h.down;
            sound = λ honest. tt;
            damaged = λ honest e. h.damaged honest.0 e;
            device = λ e. inr (record {
              between = with_list old.storage g;
              before = reads_with old.storage old.storage g (still storages old.storage);
              inner = (read_failed_still laws old.storage new.storage (h.device e), refl);
              after = refl;
            });
            other = inl device;
          };
          settled = tt;
          sure = λ up. absurd (let bad : IsSome {T = ReplicaState} None = subst (λ (o : Option ReplicaState). IsSome o) h.down up in cc);
        }
    | inr other ↦ record {
      after = g;
      restarts = record {
        leaves = ap (λ (n : NodeState S). node_with n g) h.leaves;
        own = h.own;
        fresh = h.fresh;
        up = tt;
        loads = λ honest. tt;
        down = h.down;
        sound = λ honest. tt;
        damaged = λ honest e. h.damaged honest.0 e;
        device = λ e. absurd (elim other.0 [ inl memory ↦ cc | inr damaged ↦ cc ]);
        other = inr (
          other.0,
          record {
            read = reads_with old.storage new.storage g (read_still laws old.storage new.storage (laws.looks_reads _ _ other.1));
            unarmed = λ e. none-some _ e;
          },
        );
      };
      settled = tt;
      sure = λ up. absurd (let bad : IsSome {T = ReplicaState} None = subst (λ (o : Option ReplicaState). IsSome o) h.down up in cc);
    }
  ]

  -- another process has opened the storage: a load for which memory was wanting
  pub opens_with : (old : NodeState S) (s : S) (g : Listed) → HoldsStill storages old.storage s
      → Restarts Handed (node_with old g) (Err fault.Memory) (node_with (record old { storage = s; up = None }) g)
  opens_with old s g h = record {
    leaves = refl;
    own = λ m e. absurd (none-some m e);
    fresh = λ m e. absurd (none-some m e);
    up = tt;
    loads = λ honest. tt;
    down = refl;
    sound = λ honest. tt;
    damaged = λ honest e. absurd cc;
    device = λ e. absurd cc;
    other = inr (inl refl, record { read = reads_with old.storage s g h; unarmed = λ e. none-some _ e });
  }
