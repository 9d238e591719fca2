-- The line of each answer to a client, ended by a line feed.
use Rattle.std.specs.Prelude.{ℕ, List, ◌++◌, codes, decimal, Option, Some, None}
use Rattle.clients.specs.declared.answer.ClientAnswer.{ClientAnswer}
use Rattle.clients.specs.declared.answer.ClientAnswer.TheVariants as answer
use Rattle.clients.specs.declared.answer.Status.{Status}

-- a request by its client and number, as 7:1, and what follows it
abbrev pub request_text : ℕ → ℕ → List ℕ → List ℕ
request_text client number rest = decimal client ++ (codes ":" ++ (decimal number ++ (codes " " ++ rest)))

abbrev pub leader_text : Option ℕ → List ℕ
leader_text None = codes "none"
leader_text (Some node) = decimal node

abbrev pub status_line : Status → List ℕ
status_line status = codes "status node " ++ (decimal status.node ++ (codes " position " ++ (decimal status.position
    ++ (codes " horizon " ++ (decimal status.horizon ++ (codes " leader " ++ (leader_text status.leader
    ++ (codes " waiting " ++ (decimal status.waiting ++ codes "\n")))))))))

abbrev pub text_line : ℕ → List ℕ → List ℕ
text_line position text = codes "answer " ++ (decimal position ++ (codes " " ++ (text ++ codes "\n")))

abbrev pub answer_line : ClientAnswer → List ℕ
answer_line (answer.Reply client number code position) =
    codes "reply " ++ request_text client number (decimal code ++ (codes " " ++ (decimal position ++ codes "\n")))
answer_line (answer.Refused client number code) = codes "refuse " ++ request_text client number (decimal code ++ codes "\n")
answer_line (answer.Text position text) = text_line position text.now
answer_line (answer.Last client number) = codes "last " ++ (decimal client ++ (codes " " ++ (decimal number ++ codes "\n")))
answer_line (answer.Status status) = status_line status
answer_line (answer.Fault code) = codes "fault " ++ (decimal code ++ codes "\n")
