-- The numbers and the texts of the faults.
use Rattle.std.specs.Prelude.{ℕ, ◌≤◌, List, ◌++◌, codes}
use Rattle.std.specs.Fmt.{decimal}
use Rattle.schedule.specs.declared.fault.ScheduleFault.{ScheduleFault}
use Rattle.schedule.specs.declared.fault.ScheduleFault.TheVariants.{NotPrintable, UnknownWord, NodesLine, WordCount, WordForm, Document}

abbrev pub code_of : ScheduleFault → ℕ
code_of NotPrintable = 1
code_of UnknownWord = 2
code_of NodesLine = 3
code_of WordCount = 4
code_of WordForm = 5
code_of Document = 6

-- of the faults that there are, this is the one of the lowest number
pub record IsLowestFault (Has : ScheduleFault → Type 0) (fault : ScheduleFault) : Type 0 where
  pub is_there : Has fault
  pub lowest : (other : ScheduleFault) → Has other → code_of fault ≤ code_of other

-- ---- what is printed
abbrev pub fault_text : ScheduleFault → List ℕ
fault_text NotPrintable = codes "a byte is not printable"
fault_text UnknownWord = codes "no line begins so"
fault_text NodesLine = codes "the line `nodes` is missing, or isn't right"
fault_text WordCount = codes "too few or too many words"
fault_text WordForm = codes "a word isn't what its place wants"
fault_text Document = codes "the document stands for no feature"

-- a line's number, and what is wrong with it
abbrev pub at_line : ℕ → List ℕ → List ℕ
at_line line text = codes "line " ++ (decimal line ++ (codes ": " ++ text))
