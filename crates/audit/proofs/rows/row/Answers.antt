use Rattle.audit.proofs.rows.row.Goals as goal

pub returns-in-Learn : goal.returns-in-Learn
returns-in-Learn c = rw c.in-Learn.is (c.learnt.ensures c.args.is_last)

pub returns-in-Reply : goal.returns-in-Reply
returns-in-Reply c = rw c.in-Reply.is (c.replied.ensures c.args.is_last)

pub returns-in-Answer : goal.returns-in-Answer
returns-in-Answer c = rw c.in-Answer.is (c.answered.ensures c.args.is_last)

pub returns-in-Restore : goal.returns-in-Restore
returns-in-Restore c = rw c.in-Restore.is (c.restored.ensures c.args.is_last)
