use Rattle.std.proofs.Common.{◌==◌, arith}
use Rattle.std.proofs.lemmas.List.Splits.{length-slice_split}
use Rattle.std.proofs.lemmas.List.Sums.{count_by-le-length}
use Rattle.schedule.specs.Lines.{line_feed}
use Rattle.schedule.proofs.lines.Lines.of.Goals as goal

-- there is at most one line more than there are bytes
pub invariant_of-result : goal.invariant_of-result
invariant_of-result c =
    let bytes = c.args.bytes.now in
    omega (arith, length-slice_split (λ b. b == line_feed) bytes, count_by-le-length (λ b. b == line_feed) bytes, c.well_formed.0.1)
