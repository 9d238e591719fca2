use Rattle.std.proofs.Common.{rules, ◌≡◌, Some}
use Rattle.stable.specs.declared.key.Key.TheVariants as key
use Rattle.acceptor.proofs.RecordLemmas.{promise_of_its_form}
use Rattle.acceptor.proofs.records.promised.Goals as goal

-- the record spells the ballot that was read
pub returns-in-Some-ballot_of_record-clause-form : goal.returns-in-Some-ballot_of_record-clause-form
returns-in-Some-ballot_of_record-clause-form g c = λ honest.
    let told = c.in_ok-bytes.ensures.told honest in
    let found : g.S.Stable.contents c.args.storage.now key.Promise ≡ Some c.in-Some.bytes.items = search rules in
    let read = c.in-Some-ballot_of_record.ensures.spelled in
    promise_of_its_form _ c.in-Some.bytes.items c.in-Some-ballot_of_record.ballot found read.fits (search rules)

-- a way out is answered whole: its clauses are found together
pub returns-in_err-bytes : goal.returns-in_err-bytes
returns-in_err-bytes g c = search rules

pub returns-in_default : goal.returns-in_default
returns-in_default g c = search rules

pub returns : goal.returns
returns g c = search rules
