-- The words that say what a line is.
use Rattle.std.specs.Prelude.{ℕ, List, codes}
use Rattle.stable.specs.declared.scripted.Failing.{Failing}
use Rattle.stable.specs.declared.scripted.Failing.TheVariants.{Old, New, Read}
use Rattle.schedule.specs.declared.keyword.Keyword.{Keyword}
use Rattle.schedule.specs.declared.keyword.Keyword.TheVariants.{Nodes, Deliver, Drop, Flush, Timeout, Tick, Checkpoint, Trim, Restart, Fault, Round}
use Rattle.schedule.specs.declared.keyword.Operation.{Operation}
use Rattle.schedule.specs.declared.keyword.Operation.TheVariants.{Put, Append, Remove}
use Rattle.schedule.specs.declared.keyword.Question.{Question}
use Rattle.schedule.specs.declared.keyword.Question.TheVariants.{At, Cut, Ever, Always, Within, Get, Count}

-- the word that a line begins with
abbrev pub text_of : Keyword → List ℕ
text_of Nodes = codes "nodes"
text_of Deliver = codes "deliver"
text_of Drop = codes "drop"
text_of Flush = codes "flush"
text_of Timeout = codes "timeout"
text_of Tick = codes "tick"
text_of Checkpoint = codes "checkpoint"
text_of Trim = codes "trim"
text_of Restart = codes "restart"
text_of Fault = codes "fault"
text_of Round = codes "round"

-- the word after `submit NODE CLIENT NUMBER`
abbrev pub operation_text : Operation → List ℕ
operation_text Put = codes "put"
operation_text Append = codes "append"
operation_text Remove = codes "remove"

-- the word after `fault NODE`
abbrev pub failing_text : Failing → List ℕ
failing_text Old = codes "old"
failing_text New = codes "new"
failing_text Read = codes "read"

-- the word after `query NODE`
abbrev pub question_text : Question → List ℕ
question_text At = codes "at"
question_text Cut = codes "cut"
question_text Ever = codes "ever"
question_text Always = codes "always"
question_text Within = codes "within"
question_text Get = codes "get"
question_text Count = codes "count"
