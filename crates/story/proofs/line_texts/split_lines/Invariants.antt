use Rattle.std.proofs.Common.{◌≡◌, ◌++◌, length, map}
use Rattle.schedule.specs.Lines.{NumberedText}
use Rattle.story.specs.Lines.{texts_in}
use Rattle.story.proofs.line_texts.split_lines.Given as goal

-- the texts so far, and behind them those that are left
abbrev pub invariant-loop-line : goal.invariant-loop-line
invariant-loop-line l = map (λ t. t.now) l.texts.items ++ map (λ (n : NumberedText). n.text) l.lines ≡ texts_in l.bytes

abbrev pub decreases-loop-line : goal.decreases-loop-line
decreases-loop-line l = length l.lines
