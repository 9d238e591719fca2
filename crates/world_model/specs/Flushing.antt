-- Frames that are delivered one after the other, the lowest first; and the world with which a run begins.
use Rattle.std.specs.Prelude.{◌≡◌, ℕ, zero, suc, ◌<◌, List, [], length, slice_get, Some, None, IfSome}
use Rattle.stable.specs.Records.{no_records}
use Rattle.stable.specs.Script.{Script, IsUnarmed}
use Rattle.stable.specs.declared.stable.Stable.{Ghosts}
use Rattle.node_model.specs.Loading.{IsFresh, IsLoaded, IsMember}
use Rattle.node_model.specs.States.{NodeState}
use Rattle.world_model.specs.Waiting.{IsLowestWaiting}
use Rattle.world_model.specs.Worlds.{WorldState, DeliversFrame}

-- so many frames are delivered one after the other, each the lowest that waits then
pub data Delivers {S : Type 0} (storages : Ghosts (Script S)) (old : WorldState S) : ℕ → WorldState S → Type 0 where
  none : Delivers storages old zero old
  more : (n k : ℕ) (between new : WorldState S) → Delivers storages old n between
      → IsLowestWaiting between.waiting k → DeliversFrame storages between k new
      → Delivers storages old (suc n) new

-- fewer than so many frames are delivered
pub record DeliversSome {S : Type 0} (storages : Ghosts (Script S)) (old : WorldState S) (most : ℕ) (new : WorldState S) : Type 0 where
  pub delivered : ℕ
  pub fewer : delivered < most
  pub delivers : Delivers storages old delivered new

-- ---- the start
module _ {S : Type 0} (storages : Ghosts (Script S)) where
  -- no record was ever written, no put is made to fail, and none is listed
  pub record IsUnused (storage : Script S) : Type 0 where
    pub empty : storages.IsHonest storage → storages.contents storage ≡ no_records
    pub no_stray : storages.IsHonest storage → ¬ (storages.HasStrayKey storage)
    pub unarmed : IsUnarmed storage.armed
    pub no_puts : storage.writes ≡ []
    pub sure : storage.unsure ≡ None
    pub unfired : storage.fired ≡ Some 0

  -- a node of so many that has started on no records: it holds what these leave, or it is down
  pub record IsStarted (id nodes : ℕ) (n : NodeState (Script S)) : Type 0 where
    pub member : IsMember id nodes n
    pub unused : IsUnused n.storage
    pub fresh : IfSome n.up (IsFresh id nodes)
    pub up : storages.IsHonest n.storage → IfSome n.up (IsLoaded no_records id nodes)

  -- the first nodes of a run of so many have started
  pub record HaveStarted (first count : ℕ) (nodes : List (NodeState (Script S))) : Type 0 where
    pub all : length nodes ≡ first
    pub each : (i : ℕ) (n : NodeState (Script S)) → slice_get nodes i ≡ Some n → IsStarted i count n

  -- so many nodes have started, and nothing has happened yet
  pub record IsStart (count : ℕ) (w : WorldState S) : Type 0 where
    pub nodes : HaveStarted count count w.nodes
    pub nothing : w ≡ record {
      nodes = w.nodes;
      submitted = [];
      frames = [];
      waiting = [];
      learnt = [];
      replies = [];
      answers = [];
      outcomes = [];
    }
