-- The lines of several transcripts, and what they tell.
use Rattle.std.specs.Prelude.{ℕ, ◌+◌, ◌==◌, Bool, List, [], ◌∷◌, ◌++◌, length, cond, Some}
use Rattle.schedule.specs.Lines.{NumberedText, pieces, numbered, line_feed}
use Rattle.verdicts.specs.declared.lines.LearnLine.{LearnLine}
use Rattle.verdicts.specs.declared.lines.Name.{Name}
use Rattle.verdicts.specs.declared.lines.Place.{Place}
use Rattle.verdicts.specs.declared.lines.Told.{Told}
use Rattle.verdicts.specs.declared.lines.ToldLine.{ToldLine}
use Rattle.audit.specs.Rows.{IsReadAs}
use Rattle.audit.specs.declared.line.Line.TheVariants as line

-- a line, where it stands, and whether it is the last one there
pub record PlacedText : Type 0 where
  pub place : Place
  pub is_last : Bool
  pub text : List ℕ

-- bytes without the line feed that ends them
abbrev pub without_end : List ℕ → List ℕ
without_end [] = []
without_end (byte ∷ []) = cond (byte == line_feed) [] (byte ∷ [])
without_end (byte ∷ next ∷ more) = byte ∷ without_end (next ∷ more)

-- the lines of a transcript. A line feed ends a line; the last line may lack it
abbrev pub transcript_lines : List ℕ → List NumberedText
transcript_lines [] = []
transcript_lines (first ∷ more) = numbered 1 (pieces line_feed (Some (without_end (first ∷ more))))

abbrev pub placed : ℕ → Bool → NumberedText → PlacedText
placed file is_last line = record { place = record { file = file; line = line.number }; is_last = is_last; text = line.text }

-- the lines of the transcript of this number, each at its place
abbrev pub placed_lines : ℕ → List NumberedText → List PlacedText
placed_lines file [] = []
placed_lines file (line ∷ more) = placed file (length more == 0) line ∷ placed_lines file more

-- the lines of transcripts, which are numbered from the given number on
abbrev pub texts_from : ℕ → List (List ℕ) → List PlacedText
texts_from file [] = []
texts_from file (bytes ∷ others) = placed_lines file (transcript_lines bytes) ++ texts_from (file + 1) others

-- the lines are read, in a run of so many nodes: lines `learn` as these, and all others as those, each in their order
pub data AreRead (nodes : ℕ) : List PlacedText → List LearnLine → List ToldLine → Type 0 where
  nothing : AreRead nodes [] [] []
  a_learn : (texts : List PlacedText) (learns : List LearnLine) (told : List ToldLine) (text : PlacedText) (slot : ℕ) (name : Name)
      → AreRead nodes texts learns told → IsReadAs nodes text.is_last text.text (line.Learn slot name)
      → AreRead nodes (texts ++ text ∷ []) (learns ++ record { place = text.place; slot = slot; name = name } ∷ []) told
  another : (texts : List PlacedText) (learns : List LearnLine) (told : List ToldLine) (text : PlacedText) (said : Told)
      → AreRead nodes texts learns told → IsReadAs nodes text.is_last text.text (line.Told said)
      → AreRead nodes (texts ++ text ∷ []) learns (told ++ record { place = text.place; told = said } ∷ [])
