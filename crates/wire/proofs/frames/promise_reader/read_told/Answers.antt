use Rattle.wire.proofs.EntryLemmas.{told_of, few_of}
use Rattle.wire.specs.declared.frames.promise.TheConstants.{MOST_ENTRIES}
use Rattle.wire.proofs.frames.promise_reader.read_told.Goals as goal

pub returns-clause-few : goal.returns-clause-few
returns-clause-few c = few_of (λ x. x.items) MOST_ENTRIES c.args.nodes c.args.ballot c.args.last c.in_ok-count.count c.args.first _ _
    c.read_entries.result c.in_ok-count.ensures.few c.read_entries.ensures.read

pub returns-clause-told : goal.returns-clause-told
returns-clause-told c = told_of (λ x. x.items) c.args.nodes c.args.ballot c.args.last c.in_ok-count.count c.args.first _ _
    c.read_entries.result c.read_entries.ensures.read
