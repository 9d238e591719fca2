-- What a report says of the bytes of a file.
use Rattle.std.specs.Prelude.{◌≡◌, ◌≢◌, ℕ, List, ◌++◌, Option, Some, None, codes}
use Rattle.std.specs.Fmt.{decimal}
use Rattle.mfjson.specs.Document.{IsDocumentOf}
use Rattle.mfjson.specs.Faults.{IsFaultOf, code_of as document_code, fault_text as document_text}
use Rattle.mfjson.specs.declared.fault.MfFault.{MfFault}
use Rattle.mfjson.specs.declared.fault.MfFault.TheVariants.{Memory}
use Rattle.mfjson.specs.declared.feature.Feature.{Feature}
use Rattle.schedule.specs.Codes.{code_of, fault_text}
use Rattle.schedule.specs.Schedules.{IsFirstFault, IsScheduleOf, Plan}
use Rattle.schedule.specs.declared.fault.ScheduleFault.{ScheduleFault}

-- ---- what is told of a fault
-- the file's name, a line and a column of it, and the fault by its number and its meaning, before what else is told
abbrev pub line_text : List ℕ → ℕ → ℕ → ScheduleFault → List ℕ → List ℕ
line_text name line column fault rest = name ++ (codes ":" ++ (decimal line ++ (codes ":" ++ (decimal column ++ (codes ": fault "
    ++ (decimal (code_of fault) ++ (codes ": " ++ (fault_text fault ++ (codes "\n" ++ rest)))))))))

-- the same of a document's fault
abbrev pub document_fault_text : List ℕ → ℕ → ℕ → MfFault → List ℕ → List ℕ
document_fault_text name line column fault rest = name ++ (codes ":" ++ (decimal line ++ (codes ":" ++ (decimal column
    ++ (codes ": document fault " ++ (decimal (document_code fault) ++ (codes ": " ++ (document_text fault ++ (codes "\n" ++ rest)))))))))

-- the text begins with the file's name, this line of it, a column of that, and this fault
pub record TellsLine (name : List ℕ) (line : ℕ) (fault : ScheduleFault) (text : List ℕ) : Type 0 where
  pub column : ℕ
  pub rest : List ℕ
  pub told : text ≡ line_text name line column fault rest

-- the text begins with the file's name, a line and a column of it, and this fault
pub record TellsDocument (name : List ℕ) (fault : MfFault) (text : List ℕ) : Type 0 where
  pub line : ℕ
  pub column : ℕ
  pub rest : List ℕ
  pub told : text ≡ document_fault_text name line column fault rest

-- ---- reports
-- the text tells the first faulty line of the bytes, and the lowest of its faults
pub record TellsFirst (name bytes text : List ℕ) : Type 0 where
  pub line : ℕ
  pub fault : ScheduleFault
  pub is_first : IsFirstFault bytes line fault
  pub tells : TellsLine name line fault text

-- no report is made of bytes that spell a schedule
abbrev pub IsScheduleReport : List ℕ → List ℕ → Option (List ℕ) → Type 0
IsScheduleReport name bytes None = (plan : Plan) × IsScheduleOf bytes plan
IsScheduleReport name bytes (Some text) = TellsFirst name bytes text

-- the text tells the fault of the bytes
pub record TellsItsFault (name bytes text : List ℕ) : Type 0 where
  pub fault : MfFault
  pub is_fault : IsFaultOf bytes fault
  pub cause : fault ≢ Memory
  pub tells : TellsDocument name fault text

-- no report is made of bytes that are the document of a feature
abbrev pub IsDocumentReport : List ℕ → List ℕ → Option (List ℕ) → Type 0
IsDocumentReport name bytes None = (feature : Feature) × IsDocumentOf bytes feature
IsDocumentReport name bytes (Some text) = TellsItsFault name bytes text
