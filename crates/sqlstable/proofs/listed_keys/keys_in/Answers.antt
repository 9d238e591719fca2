use Rattle.std.proofs.Common.{rules, arith}
use Rattle.std.proofs.lemmas.Grind.{common_steps}
use Rattle.sqlite_rules.proofs.ListLemmas.{has_at}
use Rattle.sqlstable.proofs.listed_keys.keys_in.Goals as goal

pub returns-in_err-key-clause-damaged : goal.returns-in_err-key-clause-damaged
returns-in_err-key-clause-damaged c is = (
  c.row-item.result,
  has_at c.args.rows.now c.loop-row.row-index c.row-item.result (search rules) (search rules),
  c.in_err-key.ensures.damaged (search rules),
)

pub loop-row-preserved : goal.loop-row-preserved
loop-row-preserved c = grind (arith, common_steps)

pub returns-clause-told : goal.returns-clause-told
returns-clause-told c = grind (arith, common_steps)
