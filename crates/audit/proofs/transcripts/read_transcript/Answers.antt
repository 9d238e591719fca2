use Rattle.std.proofs.Common.{◌≡◌, ◌≢◌, ◌++◌, ℕ, List, length, Some, sym, ap, ◌∙◌, subst, rules}
use Rattle.schedule.specs.Lines.{NumberedText, pieces, numbered, line_feed}
use Rattle.audit.specs.Files.{AreRead, placed_lines, transcript_lines}
use Rattle.audit.proofs.FileLemmas.{none_passed, passed_more, all_passed, nothing_passed, filled_lines}
use Rattle.audit.proofs.transcripts.read_transcript.Goals as goal

pub returns-then-is_empty : goal.returns-then-is_empty
returns-then-is_empty c = λ before read.
    let empty : length c.args.transcript.now ≡ 0 = search rules in
    nothing_passed c.args.nodes c.args.file c.args.transcript.now c.args.read.now empty before read

pub loop-line-init : goal.loop-line-init
loop-line-init c = none_passed c.args.nodes c.args.file _ _

pub loop-line-preserved : goal.loop-line-preserved
loop-line-preserved c =
    passed_more c.args.nodes c.args.file _ _ _ _ _ _ _ _ c.in-Some.ensures c.is_over-is_last.ensures c.in_ok-read_one.ensures
    c.loop-line.invariant

pub returns : goal.returns
returns c = λ before read.
    let filled : length c.args.transcript.now ≢ 0 = search rules in
    let texts : transcript_lines c.args.transcript.now ≡ c.of-lines.result =
    filled_lines c.args.transcript.now filled
    ∙ (ap (λ (bytes : List ℕ). numbered 1 (pieces line_feed (Some bytes))) (sym c.without_line_feed.ensures) ∙ sym c.of-lines.ensures) in
    let all = all_passed c.args.nodes c.args.file c.of-lines.result c.loop-line.lines c.args.read.now c.loop-line.read c.in_default.ensures.0
    c.loop-line.invariant before read in
    subst (λ (lines : List NumberedText). AreRead c.args.nodes (before ++ placed_lines c.args.file lines) c.loop-line.read.learns.items
    c.loop-line.read.told.items) (sym texts) all
