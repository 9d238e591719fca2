use Rattle.std.proofs.Common.{refl}
use Rattle.schedule.proofs.Spelled.{no_document}
use Rattle.schedule.proofs.pending_line.feature_of.Goals as goal

pub returns-in_default : goal.returns-in_default
returns-in_default c = (
  refl,
  λ feature is.
      no_document c.read.result c.in-Err.fault feature c.in-Err.is c.in_default.not-Memory (c.read.ensures.document feature is),
)
