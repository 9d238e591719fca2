use Rattle.std.proofs.Common.{◌≡◌, vec_len}
use Rattle.store.specs.Blocks.{BlocksHold}
use Rattle.store.proofs.blocks.Blocks.push_missing.Given as goal

abbrev pub invariant-loop-block : goal.invariant-loop-block
invariant-loop-block l = (l.block ≡ vec_len l.self.bounds) × (BlocksHold l.initial.self.bounds.items l.points → BlocksHold l.self.bounds.items l.points)
