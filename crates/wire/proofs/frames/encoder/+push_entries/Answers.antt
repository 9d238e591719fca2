use Rattle.wire.specs.FrameSpelling.{entry_bytes}
use Rattle.wire.proofs.PushLemmas.{push_front}
use Rattle.wire.proofs.frames.encoder.+push_entries.Goals as goal

-- an entry, and the others behind it
pub returns-in_ok-push_entry-in-len1-up-clause-spelled : goal.returns-in_ok-push_entry-in-len1-up-clause-spelled
returns-in_ok-push_entry-in-len1-up-clause-spelled m c =
    push_front entry_bytes c.push_entries.result c.args.entries.now c.entry-item.result c.vote.result.now c.args.out.now.items
    c.push_entry.new.out.items c.push_entries.new.out.items c.in-len1-up.len_at_least c.entry-item.is c.vote.ensures
    c.in_ok-push_entry-in-len1-up.ensures.spelled c.push_entries.ensures.spelled
