-- What an event names that is not there.
use Rattle.std.specs.Prelude.{ℕ, ◌≤◌}
use Rattle.events.specs.declared.event.Event.{Event}
use Rattle.events.specs.declared.event.Event.TheVariants as event

-- of so many frames, the event names one that was never sent
abbrev pub NamesNoFrame : ℕ → Event → Type 0
NamesNoFrame frames (event.Deliver k) = frames ≤ k
NamesNoFrame frames (event.Drop k) = frames ≤ k
NamesNoFrame frames other = ⊥

-- of so many nodes, the event names one that the run doesn't have
abbrev pub NamesNoNode : ℕ → Event → Type 0
NamesNoNode nodes (event.Submit node submission) = nodes ≤ node
NamesNoNode nodes (event.Deliver k) = ⊥
NamesNoNode nodes (event.Drop k) = ⊥
NamesNoNode nodes (event.Timeout node) = nodes ≤ node
NamesNoNode nodes (event.Tick node) = nodes ≤ node
NamesNoNode nodes (event.Checkpoint node) = nodes ≤ node
NamesNoNode nodes (event.Trim node) = nodes ≤ node
NamesNoNode nodes (event.Restart node) = nodes ≤ node
NamesNoNode nodes (event.Fault node failing) = nodes ≤ node
NamesNoNode nodes (event.Query node query) = nodes ≤ node
