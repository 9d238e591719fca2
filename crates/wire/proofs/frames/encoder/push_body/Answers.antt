use Rattle.wire.specs.Spelling.{ballot_bytes, slot_bytes}
use Rattle.fields.proofs.PushLemmas.{after_push}
use Rattle.wire.proofs.frames.encoder.push_body.Goals as goal

pub returns-in_ok-push_ballot-in-Prepare-clause-spelled : goal.returns-in_ok-push_ballot-in-Prepare-clause-spelled
returns-in_ok-push_ballot-in-Prepare-clause-spelled c =
    rw c.in-Prepare.is
    (after_push c.push_slot.result c.args.out.now.items c.push_ballot.new.out.items c.push_slot.new.out.items
    (ballot_bytes c.in-Prepare.ballot) (slot_bytes c.in-Prepare.first) c.in_ok-push_ballot-in-Prepare.ensures.spelled
    c.push_slot.ensures.spelled)
