use Rattle.std.proofs.Common.{rules, ◌≡◌, Some}
use Rattle.stable.specs.declared.key.Key.TheVariants as key
use Rattle.wire.specs.RecordForms.{IsVoteRecord}
use Rattle.acceptor.specs.AcceptedValues.{vote_at}
use Rattle.acceptor.proofs.RecordLemmas.{vote_of_its_form}
use Rattle.acceptor.proofs.records.voted.Goals as goal

-- the record spells the vote that was read
pub returns-in_ok-command-in-Some-2-clause-form : goal.returns-in_ok-command-in-Some-2-clause-form
returns-in_ok-command-in-Some-2-clause-form g c = λ honest.
    let told = c.in_ok-bytes.ensures.told honest in
    let bytes = c.in-Some.bytes.now in
    let choice = c.in-Some-2.choice in
    let found : g.S.Stable.contents c.args.storage.now (key.Vote c.args.slot) ≡ Some bytes = search rules in
    let read : IsVoteRecord bytes choice.0 choice.1 = search rules in
    let vote = vote_at c.args.slot (record { ballot = choice.0; command = choice.1 }) in
    vote_of_its_form _ c.args.slot bytes vote found (record { ballot = read.ballot; command = read.command }) read.spelled

-- a way out is answered whole: its clauses are found together
pub returns-in_err-bytes : goal.returns-in_err-bytes
returns-in_err-bytes g c = search rules

pub returns-in_default : goal.returns-in_default
returns-in_default g c = search rules

pub returns-in_err-command-in-Some-2 : goal.returns-in_err-command-in-Some-2
returns-in_err-command-in-Some-2 g c = search rules

pub returns-in_err-choice : goal.returns-in_err-choice
returns-in_err-choice g c = search rules

pub returns-in-None : goal.returns-in-None
returns-in-None g c = search rules
