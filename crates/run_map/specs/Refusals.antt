-- Why there is no map, and of which fleet there is one.
use Rattle.std.specs.Prelude.{◌≡◌, ◌⊎◌, ◌≤◌, ◌<◌, ⊤, ℕ, List, Option, Some, None}
use Rattle.mfjson.specs.declared.feature.Feature.{Feature}
use Rattle.stable.specs.Script.{Script}
use Rattle.stable.specs.declared.stable.Stable.{Ghosts}
use Rattle.world_model.specs.Worlds.{WorldState}
use Rattle.schedule.specs.Causes.{memory}
use Rattle.schedule.specs.Schedules.{IsParseRefusal}
use Rattle.schedule.specs.declared.replay_fault.ReplayFault.{ReplayFault}
use Rattle.run_map.specs.Endings.{IsRunOf, fleet_at}
use Rattle.run_map.specs.declared.fault.MapFault.{MapFault}
use Rattle.run_map.specs.declared.fault.MapFault.TheVariants.{Schedule, NoSuchNode, Down, Memory}

-- of so many nodes this one isn't there, or it holds nothing in the world in which the run ended
abbrev pub IsNoFleet : {S : Type 0} → ℕ → WorldState S → ℕ → MapFault → Type 0
IsNoFleet nodes end node (NoSuchNode n) = (n ≡ node) × (nodes ≤ node)
IsNoFleet nodes end node (Down n) = (n ≡ node) × (node < nodes) × (fleet_at end node ≡ None)
IsNoFleet nodes end node (Schedule fault) = ⊥
IsNoFleet nodes end node Memory = ⊥

module _ {S : Type 0} (storages : Ghosts (Script S)) where
  -- the run that the bytes spell, which ends with the fault of a line or without one, leaves the node with these features
  pub record LeavesFleet (bytes : List ℕ) (node : ℕ) (fault : Option ReplayFault) (features : List Feature) : Type 0 where
    pub nodes : ℕ
    pub end : WorldState S
    pub runs : IsRunOf storages bytes nodes fault end
    pub held : fleet_at end node ≡ Some features

  -- it leaves the node with some features, or with none, but not with nothing
  abbrev pub HasFleet : List ℕ → ℕ → Option ReplayFault → Type 0
  HasFleet bytes node fault = (features : List Feature) × LeavesFleet bytes node fault features

  -- the run that the bytes spell leaves the node with nothing, for this reason
  pub record LeavesNoFleet (bytes : List ℕ) (node : ℕ) (why : MapFault) : Type 0 where
    pub nodes : ℕ
    pub fault : Option ReplayFault
    pub end : WorldState S
    pub runs : IsRunOf storages bytes nodes fault end
    pub refused : IsNoFleet nodes end node why

  -- the bytes are no schedule, or memory was wanting; or their run leaves the node with nothing
  abbrev pub IsMapFault : List ℕ → ℕ → MapFault → Type 0
  IsMapFault bytes node (Schedule fault) = IsParseRefusal bytes fault ⊎ (fault.cause ≡ memory)
  IsMapFault bytes node Memory = ⊤
  IsMapFault bytes node why = LeavesNoFleet bytes node why
