use Rattle.std.proofs.Common.{rules, ◌≡◌, ℕ, List, Ok, drop, ap, ◌∙◌, ◌++◌}
use Rattle.std.proofs.lemmas.List.{take_rest}
use Rattle.wire.specs.Reading.{slot_at}
use Rattle.wire.specs.Spelling.{slot_bytes, command_bytes}
use Rattle.wire.proofs.BallotLaws.{slot_again}
use Rattle.wire.proofs.frames.frame.slot_of_vote.Goals as goal

-- behind the ballot stands the slot, whatever follows it
pub returns-in-len9-up : goal.returns-in-len9-up
returns-in-len9-up c vote fits spelled =
    let rest : drop 9 c.args.body.now ≡ slot_bytes vote.slot ++ command_bytes vote.command = ap (λ (l : List ℕ). drop 9 l) spelled in
    let all : c.new.result ≡ drop 9 c.args.body.now = c.new.ensures ∙ take_rest c.args.body.now 9 in
    let read : slot_at c.new.result ≡ Ok (vote.slot, command_bytes vote.command) =
    ap slot_at (all ∙ rest) ∙ slot_again vote.slot (command_bytes vote.command) fits.slot in
    let told = rw read at c.read_slot.ensures in
    search (rules, told)
