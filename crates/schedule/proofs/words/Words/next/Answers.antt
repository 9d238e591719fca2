use Rattle.std.proofs.Common.{◌==◌, rules}
use Rattle.schedule.specs.Words.{blank}
use Rattle.schedule.proofs.Cuts.{slice_split-at, slice_split-whole}
use Rattle.schedule.proofs.words.Words.next.Goals as goal

pub returns-then-end-text : goal.returns-then-end-text
returns-then-end-text c =
    let first =
    slice_split-at (λ b. b == blank) c.in_ok-text.text.now 0 c.first_end-end.result c.first_end-end.ensures
    c.if-end-text.true in
    search (rules, first)

pub returns : goal.returns
returns c =
    let whole =
    slice_split-whole (λ b. b == blank) c.in_ok-text.text.now 0 c.first_end-end.result c.first_end-end.ensures
    c.if-end-text.false in
    search (rules, whole)
