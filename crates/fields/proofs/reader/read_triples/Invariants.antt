use Rattle.std.proofs.Common.{◌≡◌, ◌-◌}
use Rattle.fields.specs.Reading.{triples_at}
use Rattle.fields.proofs.LoopLemmas.{with_front}
use Rattle.fields.proofs.reader.read_triples.Given as goal

abbrev pub invariant-loop : goal.invariant-loop
invariant-loop l = with_front l.points.items (triples_at (l.count - l.counter) l.from l.input) ≡ triples_at l.count 0 l.initial.input
