use Rattle.audit.proofs.code_lines.restore_row.Goals as goal

pub returns-in_err-node_number : goal.returns-in_err-node_number
returns-in_err-node_number c = rw c.from_residual.ensures (rw c.from.ensures at c.in_err-node_number.ensures)
