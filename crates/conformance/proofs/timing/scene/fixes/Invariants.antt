use Rattle.conformance.specs.Scenes.{AreFixes}
use Rattle.conformance.proofs.timing.scene.fixes.Given as goal

abbrev pub invariant-loop-k : goal.invariant-loop-k
invariant-loop-k l = AreFixes l.k l.points.items
