use Rattle.sqlite.specs.State.{State}
use Rattle.sqlite.specs.Files.{file_state, image_of}
use Rattle.sqlstable.proofs.Calls.{settled_is}
use Rattle.sqlstable.proofs.FoundLemmas.{closed_holds, handed_on}
use Rattle.sqlstable.proofs.file_storage.SqlStable+FileStore+D.close_files.Goals as goal

pub returns-clause-usable : goal.returns-clause-usable
returns-clause-usable g c = handed_on c.close_files.result c.or_fault.result c.or_fault.ensures.given c.close_files.ensures.usable
    (λ files usable. usable)

pub returns-clause-closed : goal.returns-clause-closed
returns-clause-closed g c =
    handed_on c.close_files.result c.or_fault.result c.or_fault.ensures.given c.close_files.ensures.copied (λ files held clean.
    let last : State = file_state {g = g.D.Disk} c.args.self.connection in
    let copied = held clean in
    let sound = settled_is last c.args.self.settled copied.was_clean copied.was_open in
    closed_holds (image_of g.D.Disk files) last sound copied.seen)

-- it was closed in order, so its disk was honest and its connection open
pub returns-clause-was_usable : goal.returns-clause-was_usable
returns-clause-was_usable g c =
    handed_on c.close_files.result c.or_fault.result c.or_fault.ensures.given c.close_files.ensures.copied
    (λ files held clean. ((held clean).was_clean, (held clean).was_open))
