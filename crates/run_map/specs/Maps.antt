-- What the map shows that a run leaves at a node.
use Rattle.std.specs.Prelude.{◌≡◌, ⊤, ℕ, List, ◌++◌, Option, Some, None, codes, decimal}
use Rattle.fleetmap.specs.Pages.{ShowsFleet}
use Rattle.mfjson.specs.Datetime.{IsDatetime}
use Rattle.mfjson.specs.declared.feature.Feature.{Feature}
use Rattle.stable.specs.Script.{Script}
use Rattle.stable.specs.declared.stable.Stable.{Ghosts}
use Rattle.run_map.specs.Refusals.{LeavesFleet}
use Rattle.run_map.specs.declared.node_map.FleetMap.{FleetMap}

-- which instant is shown, and of which node: `The fleet at 2020-01-01T00:00:01.000Z, as node 0 has it`
pub record IsTitle (t node : ℕ) (title : List ℕ) : Type 0 where
  pub datetime : List ℕ
  pub is : IsDatetime datetime t
  pub told : title ≡ (codes "The fleet at " ++ datetime) ++ (codes ", as node " ++ (decimal node ++ codes " has it"))

-- the instant is the one that was asked for, if one was
abbrev pub IsAsked : Option ℕ → ℕ → Type 0
IsAsked None t = ⊤
IsAsked (Some at) t = t ≡ at

-- the page shows the features at the instant, below a title that names it and the node
pub record IsPage (features : List Feature) (t node : ℕ) (text : List ℕ) : Type 0 where
  pub title : List ℕ
  pub is_title : IsTitle t node title
  pub shows : ShowsFleet features t title text

module _ {S : Type 0} (storages : Ghosts (Script S)) where
  -- the map shows what the run of the bytes leaves the node with, at the instant that was asked for
  pub record IsMap (bytes : List ℕ) (at : Option ℕ) (node : ℕ) (drawn : FleetMap) : Type 0 where
    pub features : List Feature
    pub left : LeavesFleet storages bytes node drawn.end features
    pub t : ℕ
    pub asked : IsAsked at t
    pub page : IsPage features t node drawn.text.items
