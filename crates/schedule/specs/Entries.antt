-- A line as its number and its bytes.
use Rattle.schedule.specs.Lines.{NumberedText}
use Rattle.schedule.specs.declared.lines.Line.{Line}

abbrev pub entry_of : Line → NumberedText
entry_of line = record { number = line.number; text = line.text.now }
