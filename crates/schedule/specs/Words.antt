-- The words of a line.
use Rattle.std.specs.Prelude.{ℕ, List, Some}
use Rattle.schedule.specs.Lines.{pieces}

abbrev pub blank : ℕ
blank = 32

-- the words of a line, parted by one blank each; a blank more makes an empty word
abbrev pub words_of : List ℕ → List (List ℕ)
words_of text = pieces blank (Some text)
