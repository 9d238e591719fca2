-- The words after `submit`, as far as the word that says what is asked for.
use Rattle.std.proofs.Common.{ap, ◌∙◌}
use Rattle.schedule.proofs.Told.{err_told}
use Rattle.schedule.specs.Keywords.{operation_text}
use Rattle.schedule.specs.declared.keyword.Operation.TheVariants.{Put, Append, Remove}
use Rattle.schedule.proofs.RowLemmas.{short_submit, submit_result}
use Rattle.schedule.proofs.submits.submit_row.Goals as goal

pub returns-in_err-asking : goal.returns-in_err-asking
returns-in_err-asking c =
    err_told _ _ _ _ c.from_residual.ensures.1
    (rw c.in_err-asking.ensures.0 (short_submit c.args.nodes c.args.words c.in_err-asking.ensures.1))

pub returns-in-Put : goal.returns-in-Put
returns-in-Put c =
    submit_result c.args.nodes Put c.in_ok-asking.asking c.in_ok-asking.word.now c.args.words _ c.put_row.result
    c.in_ok-asking.ensures (c.in-Some.ensures ∙ ap operation_text c.in-Put.is) c.put_row.ensures

pub returns-in-Append : goal.returns-in-Append
returns-in-Append c =
    submit_result c.args.nodes Append c.in_ok-asking.asking c.in_ok-asking.word.now c.args.words _ c.append_row.result
    c.in_ok-asking.ensures (c.in-Some.ensures ∙ ap operation_text c.in-Append.is) c.append_row.ensures

pub returns-in-Remove : goal.returns-in-Remove
returns-in-Remove c =
    submit_result c.args.nodes Remove c.in_ok-asking.asking c.in_ok-asking.word.now c.args.words _ c.remove_row.result
    c.in_ok-asking.ensures (c.in-Some.ensures ∙ ap operation_text c.in-Remove.is) c.remove_row.ensures
