use Rattle.std.proofs.Common.{◌==◌}
use Rattle.schedule.proofs.Cuts.{slice_split-at, slice_split-whole}
use Rattle.schedule.proofs.first_mark.cut.Goals as goal

pub returns-then-end-bytes : goal.returns-then-end-bytes
returns-then-end-bytes c =
    slice_split-at (λ b. b == c.args.mark) c.args.bytes.now 0 c.first_end-end.result c.first_end-end.ensures
    c.if-end-bytes.true

pub returns : goal.returns
returns c =
    slice_split-whole (λ b. b == c.args.mark) c.args.bytes.now 0 c.first_end-end.result c.first_end-end.ensures
    c.if-end-bytes.false
