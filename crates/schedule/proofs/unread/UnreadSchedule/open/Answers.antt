use Rattle.std.proofs.Common.{◌≡◌, ℕ, List, Some, filter, sym, ap, ◌∙◌, refl}
use Rattle.schedule.specs.Lines.{NumberedText, pieces, numbered, is_filled, line_feed, lines_of}
use Rattle.schedule.specs.Schedules.{first_line}
use Rattle.schedule.proofs.unread.UnreadSchedule.open.Goals as goal

lines : (bytes : List ℕ) (all : List NumberedText) → all ≡ numbered 1 (pieces line_feed (Some bytes))
    → lines_of bytes ≡ filter is_filled all
lines bytes all e = ap (λ (texts : List NumberedText). filter is_filled texts) (sym e)

pub returns-in-Ok-clause-begun : goal.returns-in-Ok-clause-begun
returns-in-Ok-clause-begun c = record {
  line = record { number = c.in-Some.first.number; text = c.in-Some.first.text.now };
  lines = lines c.args.bytes.now c.of-lines.result c.of-lines.ensures ∙ c.in-Some.ensures;
  number = refl;
  nodes_line = c.in-Ok.ensures;
}

pub returns-in-Err-clause-refused : goal.returns-in-Err-clause-refused
returns-in-Err-clause-refused c =
    first_line _ _ (lines c.args.bytes.now c.of-lines.result c.of-lines.ensures ∙ c.in-Some.ensures) refl c.in-Err.ensures
