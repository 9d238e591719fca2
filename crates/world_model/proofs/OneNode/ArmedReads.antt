-- A restart over an armed reading: it looks, or its device fails; and no look passes over what is armed.
use Rattle.std.proofs.Common.{◌≡◌, Some, None, Result, Ok, Err, ap, sym, subst, inl, inr, ◌∙◌}
use Rattle.std.proofs.lemmas.Option.{same_Some}
use Rattle.stable.specs.Script.{Script}
use Rattle.stable.specs.Storages.{scripted}
use Rattle.stable.specs.declared.scripted.Failing.TheVariants.{Read}
use Rattle.stable.specs.declared.stable.Stable.{Ghosts}
use Rattle.node_model.specs.Loading.{Restarts}
use Rattle.node_model.specs.States.{NodeState}
use Rattle.node_model.specs.declared.fault.NodeFault.{NodeFault}
use Rattle.node_model.specs.declared.fault.NodeFault.TheVariants as fault
use Rattle.world_model.specs.Progress.{ArmedReadsFire}
use Rattle.world_model.specs.Worlds.{with_node, with_outcome, restart_outcome}
use Rattle.world_model.proofs.OneNode.RestartLemmas.{failed_with}

module _ {S : Type 0} (storages : Ghosts S) where
  -- it ends with the device's failure, and the node is down
  ends : (old new : NodeState (Script S)) (result : Result (Unit {0}) NodeFault) → Restarts (scripted storages) old result new
      → old.storage.armed ≡ Some Read → (result ≡ Err fault.Device) × (new.up ≡ None)
  ends old new (Ok x) h armed = absurd (h.up.1.unarmed armed)
  ends old new (Err f) h armed = elim h.other [
    | inl device ↦ (ap failed_with device, h.down)
    | inr other ↦ absurd (other.1.unarmed armed)
  ]

  pub armed_reads_fire : ArmedReadsFire (scripted storages)
  armed_reads_fire old node new before h here armed =
      let same = same_Some _ _ (sym here ∙ h.here) in
      let end = ends h.before h.after h.result h.restarts (subst (λ (n : NodeState (Script S)). n.storage.armed ≡ Some Read) same armed) in
      (h.after, end.1, h.leaves ∙ ap (λ r. with_outcome (with_node old node h.after) (restart_outcome node r)) end.0)
