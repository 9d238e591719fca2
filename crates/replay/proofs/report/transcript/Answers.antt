use Rattle.std.proofs.Common.{Global, Vec, ℕ}
use Rattle.replay.proofs.Parts.{grows_by}
use Rattle.replay.proofs.report.transcript.Goals as goal

-- nothing was in the text, and nothing waited
pub returns-in-Ok : goal.returns-in-Ok
returns-in-Ok c =
    rw (c.new-text.ensures.items, c.new-part.ensures.items) at
    (grows_by (λ (v : Vec ℕ Global). v.items) c.new-text.result c.print_run.new.sink _ c.in-Ok.ensures.handed)
