-- The words after `round`: too few, or one that names no leader.
use Rattle.std.proofs.Common.{arith}
use Rattle.schedule.proofs.Told.{err_told}
use Rattle.schedule.proofs.RowLemmas.{leader_fault, short_round}
use Rattle.schedule.proofs.rows.round_row.Goals as goal

pub returns-in_err-target : goal.returns-in_err-target
returns-in_err-target c =
    let short = c.in_err-target.ensures in
    err_told _ _ _ _ c.from_residual.ensures.1
    (rw short.0 (short_round c.args.nodes c.args.words (rw short.1 (omega arith))))

pub returns-in_err-members : goal.returns-in_err-members
returns-in_err-members c =
    let short = c.in_err-members.ensures in
    err_told _ _ _ _ c.from_residual-in_err-members.ensures.1
    (rw short.0 (short_round c.args.nodes c.args.words (rw (c.in_ok-target.ensures, short.1) (omega arith))))

pub returns-in-None : goal.returns-in-None
returns-in-None c =
    rw (c.in_ok-target.ensures, c.in_ok-members.ensures)
    (leader_fault c.args.nodes c.in_ok-target.target.now c.in_ok-members.members.now c.in-None.ensures)
