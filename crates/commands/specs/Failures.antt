-- How a run ends that prints nothing.
use Rattle.std.specs.Prelude.{ℕ, List, [], ◌++◌, Option, Some, None, codes}
use Rattle.std.specs.Fmt.{decimal}
use Rattle.mfjson.specs.Faults.{code_of, index_of}
use Rattle.schedule.specs.Causes.{cause_code}
use Rattle.commands.specs.declared.failure.Failure.{Failure}
use Rattle.commands.specs.declared.failure.Failure.TheVariants.{Schedule, Document, NotEmpty, Usage, Device, Memory}

-- the exit status
abbrev pub status_of : Failure → ℕ
status_of (Schedule fault) = 1
status_of (Document fault) = 1
status_of NotEmpty = 1
status_of Usage = 2
status_of Device = 3
status_of Memory = 3

-- the element that a fault of a document tells of, where it tells of one
abbrev pub place_text : Option ℕ → List ℕ
place_text None = []
place_text (Some i) = codes " at " ++ decimal i

-- the line of standard error
abbrev pub line_text : Failure → List ℕ
line_text (Schedule fault) = codes "mfpx: line " ++ decimal fault.line
    ++ codes " fault " ++ decimal (cause_code fault.cause) ++ codes "\n"
line_text (Document fault) = codes "mfpx: document fault " ++ decimal (code_of fault) ++ place_text (index_of fault) ++ codes "\n"
line_text NotEmpty = codes "mfpx: fault 55\n"
line_text Usage = codes "mfpx: usage\n"
line_text Device = codes "mfpx: device\n"
line_text Memory = codes "mfpx: out of memory\n"
