use Rattle.std.proofs.Common.{◌≡◌, ◌++◌, OnOk, subst}
use Rattle.sessions.specs.declared.command.Command.{Command}
use Rattle.wire.specs.Spelling.{ballot_bytes, slot_bytes, command_bytes}
use Rattle.fields.proofs.PushLemmas.{after_push}
use Rattle.wire.proofs.frames.encoder.push_vote.Goals as goal

pub returns-clause-spelled : goal.returns-clause-spelled
returns-clause-spelled c =
    let vote = c.args.vote.now in
    let told = subst (λ (x : Command). OnOk c.push_command.result
    (c.push_command.new.out.items ≡ c.push_slot.new.out.items ++ command_bytes x)) c.command.ensures c.push_command.ensures.spelled in
    after_push c.push_command.result c.args.out.now.items c.push_ballot.new.out.items c.push_command.new.out.items
    (ballot_bytes vote.ballot) (slot_bytes vote.slot ++ command_bytes vote.command) c.in_ok-push_ballot.ensures.spelled
    (after_push c.push_command.result c.push_ballot.new.out.items c.push_slot.new.out.items c.push_command.new.out.items
    (slot_bytes vote.slot) (command_bytes vote.command) c.in_ok-push_slot.ensures.spelled told)
