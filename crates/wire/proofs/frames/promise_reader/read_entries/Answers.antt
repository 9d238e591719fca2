use Rattle.std.proofs.Common.{rules, arith}
use Rattle.std.proofs.lemmas.Result.{err_from_is_err_and}
use Rattle.wire.specs.FrameReading.{entries_at}
use Rattle.wire.proofs.EntryLemmas.{entries_go_on, entries_end, entries_done}
use Rattle.wire.proofs.WantLemmas.{entries_want}
use Rattle.wire.proofs.frames.promise_reader.read_entries.Goals as goal

-- an entry could not be read
pub returns-in_err-vote-clause-read : goal.returns-in_err-vote-clause-read
returns-in_err-vote-clause-read c =
    let p = err_from_is_err_and c.from_residual-in_err-vote.result c.from_residual-in_err-vote.ensures.1 in
    rw (p.1, p.2) (entries_end c.args.nodes c.args.ballot c.args.last c.in_err-vote.field-0.0 c.loop.entries.items c.args.count
    c.loop.counter c.loop.from c.loop.input (entries_at c.args.nodes c.args.ballot c.args.last c.args.count c.args.first
    c.args.input.now) c.loop-test.true c.in_err-vote.ensures.read c.loop.invariant.so_far)

pub returns-in_err-vote-clause-memory : goal.returns-in_err-vote-clause-memory
returns-in_err-vote-clause-memory c = λ wanted.
    entries_want c.args.nodes c.args.ballot c.args.last c.args.count c.args.first c.args.input.now
    (λ none. omega (arith, none, c.loop-test.true))

-- no room for the entries
pub returns-in_err-entries-clause-memory : goal.returns-in_err-entries-clause-memory
returns-in_err-entries-clause-memory c = λ wanted.
    entries_want c.args.nodes c.args.ballot c.args.last c.args.count c.args.first c.args.input.now
    (λ none. let ok = c.with_capacity.ensures.succeeds (search (rules, none)) in search rules)

pub returns-in_err-push-clause-memory : goal.returns-in_err-push-clause-memory
returns-in_err-push-clause-memory c = λ wanted.
    entries_want c.args.nodes c.args.ballot c.args.last c.args.count c.args.first c.args.input.now
    (λ none. omega (arith, none, c.loop-test.true))

-- one entry more
pub loop-preserved : goal.loop-preserved
loop-preserved c = record {
  so_far =
      rw (c.in_ok-push.ensures.items, c.new.ensures, c.after-from.ensures)
      (entries_go_on c.args.nodes c.args.ballot c.args.last c.loop.entries.items c.args.count c.loop.counter c.loop.from
      c.loop.input c.in_ok-vote.vote c.read_entry.new.input
      (entries_at c.args.nodes c.args.ballot c.args.last c.args.count c.args.first c.args.input.now) c.loop-test.true
      c.in_ok-vote.ensures.read c.loop.invariant.so_far);
  counted = search (rules, c.in_ok-push.ensures.len, c.loop.invariant.counted);
}

-- all of them
pub returns-clause-read : goal.returns-clause-read
returns-clause-read c =
    entries_done c.args.nodes c.args.ballot c.args.last c.loop.entries.items c.args.count c.loop.counter c.loop.from c.loop.input
    (entries_at c.args.nodes c.args.ballot c.args.last c.args.count c.args.first c.args.input.now) c.loop-test.false
    c.loop.invariant.so_far
