use Rattle.audit.specs.Files.{a_learn, another}
use Rattle.audit.proofs.FileLemmas.{read_as}
use Rattle.audit.proofs.transcripts.read_one.Goals as goal

pub returns-in_ok-push-in-Learn : goal.returns-in_ok-push-in-Learn
returns-in_ok-push-in-Learn c = λ before read.
    rw c.in_ok-push-in-Learn.ensures.items
    (a_learn before _ _ _ c.in-Learn.slot c.in-Learn.name read
    (read_as c.args.nodes c.args.is_last c.args.line.text.now _ _ c.in-Learn.is c.in_ok-slot.ensures))

pub returns-in_ok-push-in-Told : goal.returns-in_ok-push-in-Told
returns-in_ok-push-in-Told c = λ before read.
    rw c.in_ok-push-in-Told.ensures.items
    (another before _ _ _ c.in-Told.told read
    (read_as c.args.nodes c.args.is_last c.args.line.text.now _ _ c.in-Told.is c.in_ok-slot.ensures))
