-- What a process begins over a storage is what a load makes of a node that is down over it.
use Rattle.std.proofs.Common.{◌≡◌, ◌⊎◌, inl, inr, ℕ, Option, Some, None, IsSome, IfSome, Result, Ok, Err, refl, sym, subst}
use Rattle.std.proofs.lemmas.Option.{none-some, same_Some}
use Rattle.stable.specs.declared.stable.Stable.{Ghosts}
use Rattle.node_model.specs.declared.fault.NodeFault.{NodeFault}
use Rattle.node_model.specs.declared.fault.NodeFault.TheVariants as fault
use Rattle.node_model.specs.Loading.{IsFresh, Restarts}
use Rattle.node_model.specs.Nodes.{NodeState}
use Rattle.node_model.specs.Replicas.{ReplicaState}
use Rattle.world_model.specs.Lives.{HasBegun, down_over}

-- what holds of the one that is there holds of it by any name
of_value : {A : Type 0} (o : Option A) (P : A → Type 0) → IfSome o P → (x : A) → o ≡ Some x → P x
of_value None P h x e = absurd (none-some x e)
of_value (Some y) P h x e = subst P (same_Some y x e) h

module _ {S : Type 0} (storages : Ghosts S) (id nodes : ℕ) (storage : S) (n : NodeState S) (h : HasBegun storages id nodes storage n) where
  same_node : n ≡ record (down_over id nodes storage) { storage = n.storage; up = n.up }
  same_node = λ i. record { id = h.member.number i; nodes = h.member.of_all i; storage = n.storage; up = n.up }

  -- it is up
  loaded : IsSome n.up → Restarts storages (down_over id nodes storage) (Ok tt) n
  loaded up = record {
    leaves = same_node;
    own = h.member.up;
    fresh = of_value n.up (IsFresh id nodes) h.fresh;
    up = (up, h.up up);
    loads = h.loads;
    down = tt;
    sound = λ honest. h.sound honest up;
    damaged = λ honest e. absurd cc;
    device = λ e. absurd cc;
    other = tt;
  }

  -- it is down, for want of memory or by a failure of the device
  failed : n.up ≡ None → storages.looks storage n.storage ⊎ storages.read_fails storage n.storage
      → (result : Result (Unit {0}) NodeFault) × Restarts storages (down_over id nodes storage) result n
  failed down (inl looks) = (
    Err fault.Memory,
    record {
      leaves = same_node;
      own = h.member.up;
      fresh = of_value n.up (IsFresh id nodes) h.fresh;
      up = tt;
      loads = λ honest. tt;
      down = down;
      sound = λ honest. tt;
      damaged = λ honest e. absurd cc;
      device = λ e. absurd cc;
      other = inr (inl refl, looks);
    },
  )
  failed down (inr fails) = (
    Err fault.Device,
    record {
      leaves = same_node;
      own = h.member.up;
      fresh = of_value n.up (IsFresh id nodes) h.fresh;
      up = tt;
      loads = λ honest. tt;
      down = down;
      sound = λ honest. tt;
      damaged = λ honest e. absurd cc;
      device = λ e. fails;
      other = inl refl;
    },
  )

  begun : (o : Option ReplicaState) → n.up ≡ o
      → (result : Result (Unit {0}) NodeFault) × Restarts storages (down_over id nodes storage) result n
  begun None down = failed down (h.down down)
  begun (Some m) up = (Ok tt, loaded (subst (λ (o : Option ReplicaState). IsSome o) (sym up) refl))

  pub start_loads : (result : Result (Unit {0}) NodeFault) × Restarts storages (down_over id nodes storage) result n
  start_loads = begun n.up refl
