-- What is promised of the world that a call leaves, whatever the call answered.
use Rattle.stable.specs.Script.{Script}
use Rattle.stable.specs.declared.stable.Stable.{Ghosts}
use Rattle.world_model.specs.Fired.{AreHonestInside}
use Rattle.world_model.specs.Reaching.{AreHonest}
use Rattle.world_model.specs.Safety.{IsSafe}
use Rattle.world_model.specs.Worlds.{WorldState}

-- every storage is honest, and the world is safe
pub record IsSafeOver {S : Type 0} (storages : Ghosts (Script S)) (w : WorldState S) : Type 0 where
  pub honest : AreHonest storages.IsHonest w.nodes
  pub safe : ∥ IsSafe w ∥₁

-- where every storage inside is honest, so is each scripted one, and the world is safe
abbrev pub StaysSafe : {S : Type 0} → Ghosts (Script S) → (S → Type 0) → WorldState S → Type 0
StaysSafe storages IsHonest w = AreHonestInside IsHonest w.nodes → IsSafeOver storages w
