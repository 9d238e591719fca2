use Rattle.std.proofs.Common.{◌∙◌, sym, arith}
use Rattle.std.proofs.lemmas.Result.{err_from_is_err_and}
use Rattle.sessions.proofs.TextLaws.{restored_is, none_has, no_value, same_error}
use Rattle.sessions.proofs.Snapshots.{stands_for}
use Rattle.sessions.proofs.machine.Machine.restore.Goals as goal

-- the bytes could not be read
pub returns-in_err-db-clause-damaged : goal.returns-in_err-db-clause-damaged
returns-in_err-db-clause-damaged c is =
    let p = err_from_is_err_and c.from_residual.result c.from_residual.ensures.1 in
    let told = rw p.1 at is in
    none_has c.args.bytes.now (no_value c.in_err-db.field-0.0 _ (sym p.2 ∙ same_error told) c.in_err-db.ensures.read)

-- what was read is a machine with these bytes
pub returns-clause-restored : goal.returns-clause-restored
returns-clause-restored c =
    (restored_is c.args.bytes.now c.in_ok-db.db c.in_ok-db.sessions (λ i. omega (arith, c.type_inv.bytes i))
    c.in_ok-db.ensures.read c.in_ok-db.ensures.clients c.in_ok-db.ensures.database).0

pub returns-clause-fits : goal.returns-clause-fits
returns-clause-fits c =
    (restored_is c.args.bytes.now c.in_ok-db.db c.in_ok-db.sessions (λ i. omega (arith, c.type_inv.bytes i))
    c.in_ok-db.ensures.read c.in_ok-db.ensures.clients c.in_ok-db.ensures.database).1

pub returns-clause-stands : goal.returns-clause-stands
returns-clause-stands c =
    let it = restored_is c.args.bytes.now c.in_ok-db.db c.in_ok-db.sessions (λ i. omega (arith, c.type_inv.bytes i))
    c.in_ok-db.ensures.read c.in_ok-db.ensures.clients c.in_ok-db.ensures.database in
    record { stands = λ l x. stands_for _ l c.args.bytes.now x it.1 it.0 }
