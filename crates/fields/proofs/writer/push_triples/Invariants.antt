use Rattle.std.proofs.Common.{◌≡◌, ◌++◌, take, All}
use Rattle.std.specs.Prelude.{pos}
use Rattle.std.specs.List.{flat_map}
use Rattle.tpoint.specs.Instants.{IsInstant}
use Rattle.fields.specs.Spelling.{triple_bytes}
use Rattle.fields.proofs.writer.push_triples.Given as goal

abbrev pub invariant-loop-point : goal.invariant-loop-point
invariant-loop-point l =
    (l.out.items ≡ l.initial.out.items ++ flat_map triple_bytes (take l.point-index l.points)) × All
    (λ p. IsInstant (pos p.t)) (take l.point-index l.points)
