-- What is printed of a verdict, and where there is none.
use Rattle.std.specs.Prelude.{ℕ, List, ◌++◌, Option, Some, None, codes, decimal, slice_get}
use Rattle.schedule.specs.Causes.{replay_text}
use Rattle.verdicts.specs.declared.verdict.Verdict.{Verdict}
use Rattle.verdicts.specs.declared.verdict.Verdict.TheVariants.{Explained, Contradicted, UnlearntSlot, TwoOperations}
use Rattle.verdicts.specs.declared.verdict.Why.{Why}
use Rattle.verdicts.specs.declared.verdict.Why.TheVariants.{TwoCommands, NotSubmitted, OtherReply, OtherAnswer, Foreign}
use Rattle.audit.specs.declared.fault.AuditFault.{AuditFault}
use Rattle.audit.specs.declared.fault.AuditFault.TheVariants.{Schedule, Memory}

-- why a line contradicts those before it
abbrev pub why_text : Why → List ℕ
why_text TwoCommands = codes "another command was learnt at this slot"
why_text NotSubmitted = codes "no `submit` line has this request"
why_text OtherReply = codes "at no slot has this request this reply"
why_text OtherAnswer = codes "no query of this node is answered so at this position"
why_text Foreign = codes "this is no line of a transcript"

-- the name, if there is one
abbrev pub name_or_mark : Option (List ℕ) → List ℕ
name_or_mark (Some name) = name
name_or_mark None = codes "?"

-- no list explains this line of the transcript of this name
abbrev pub contradiction_text : List ℕ → ℕ → Why → List ℕ
contradiction_text name line why = name ++ (codes ":" ++ (decimal line ++ (codes ": " ++ why_text why)))

-- nothing is claimed of the request
abbrev pub two_operations_text : ℕ → ℕ → List ℕ
two_operations_text client number =
    codes "undecided: " ++ (decimal client ++ (codes ":" ++ (decimal number ++ codes " is submitted with two operations")))

-- the verdict in one line, where the transcripts have these names
abbrev pub verdict_text : List (List ℕ) → Verdict → List ℕ
verdict_text names Explained = codes "explained"
verdict_text names (Contradicted place why) = contradiction_text (name_or_mark (slice_get names place.file)) place.line why
verdict_text names (UnlearntSlot slot) = codes "undecided: slot " ++ decimal slot
verdict_text names (TwoOperations client number) = two_operations_text client number

-- why there is no verdict
abbrev pub fault_text : AuditFault → List ℕ
fault_text (Schedule refused) = replay_text refused
fault_text Memory = codes "out of memory"
