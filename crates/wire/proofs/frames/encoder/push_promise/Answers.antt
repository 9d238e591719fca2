use Rattle.std.proofs.Common.{◌++◌, ◌∷◌, [], length}
use Rattle.std.specs.List.{flat_map}
use Rattle.wire.specs.Spelling.{ballot_bytes, slot_bytes}
use Rattle.wire.specs.FrameSpelling.{entry_bytes}
use Rattle.fields.proofs.PushLemmas.{after_push}
use Rattle.wire.proofs.PushLemmas.{both_pushed}
use Rattle.wire.proofs.frames.encoder.push_promise.Goals as goal

pub returns-clause-spelled : goal.returns-clause-spelled
returns-clause-spelled c =
    let p = c.args.promise.now in
    let told = length p.entries ∷ flat_map entry_bytes p.entries in
    let range = slot_bytes p.first ++ slot_bytes p.last in
    let counted =
    after_push c.push_entries.result c.push_slot-2.new.out.items c.push.new.self.items c.push_entries.new.out.items
    (length p.entries ∷ []) (flat_map entry_bytes p.entries)
    (rw (← c.entries-entries.ensures.value) c.in_ok-push.ensures.items)
    (rw (← c.entries-entries.ensures.value) c.push_entries.ensures.spelled) in
    let ranged =
    both_pushed c.push_ballot.new.out.items c.push_slot.new.out.items c.push_slot-2.new.out.items (slot_bytes p.first)
    (slot_bytes p.last) (rw (← c.first.ensures) c.in_ok-push_slot.ensures.spelled)
    (rw (← c.last.ensures.value) c.in_ok-push_slot-2.ensures.spelled) in
    after_push c.push_entries.result c.args.out.now.items c.push_ballot.new.out.items c.push_entries.new.out.items
    (ballot_bytes p.ballot) (range ++ told)
    (rw (← c.ballot.ensures) c.in_ok-push_ballot.ensures.spelled)
    (after_push c.push_entries.result c.push_ballot.new.out.items c.push_slot-2.new.out.items c.push_entries.new.out.items
    range told ranged counted)
