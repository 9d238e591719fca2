use Rattle.std.proofs.Common.{◌≡◌, ◌+◌, ◌++◌, length}
use Rattle.std.specs.Prelude.{All}
use Rattle.std.specs.List.{flat_map}
use Rattle.sessions.specs.Snapshots.{ClientFits, client_bytes, held, held_from}
use Rattle.sessions.proofs.snapshot.push_each_client.Given as goal

abbrev pub invariant-loop-rest : goal.invariant-loop-rest
invariant-loop-rest l =
    (l.out.items ++ flat_map client_bytes (held_from l.client l.rest) ≡ l.initial.out.items ++ flat_map client_bytes (held l.fn.places))
    × ((l.client + length l.rest ≡ length l.fn.places)
    × (All ClientFits (held_from l.client l.rest) → All ClientFits (held l.fn.places)))

abbrev pub decreases-loop-rest : goal.decreases-loop-rest
decreases-loop-rest l = length l.rest
