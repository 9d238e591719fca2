use Rattle.std.proofs.Common.{◌≡◌, ◌-◌, length}
use Rattle.wire.specs.FrameReading.{entries_at}
use Rattle.fields.proofs.LoopLemmas.{with_front}
use Rattle.wire.proofs.frames.promise_reader.read_entries.Given as goal

abbrev pub invariant-loop : goal.invariant-loop
invariant-loop l = record {
  so_far : with_front l.entries.items (entries_at l.nodes l.ballot l.last (l.count - l.counter) l.from l.input)
      ≡ entries_at l.nodes l.ballot l.last l.count l.fn.first l.initial.input;
  counted : length l.entries.items ≡ l.counter;
}
