use Rattle.std.proofs.Common.{refl}
use Rattle.story.proofs.account.tell.Goals as goal

-- the run that was followed is told
pub returns-in-Ok-clause-told : goal.returns-in-Ok-clause-told
returns-in-Ok-clause-told g c = (c.in_ok-ledger.ledger, c.in_ok-ledger.ensures.run, record { fault = refl; text = c.in-Ok.ensures })
