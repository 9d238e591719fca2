-- What is told of a run: the line of each outcome.
use Rattle.std.specs.Prelude.{ℕ, List, [], ◌∷◌, ◌++◌, codes, decimal, drop, flat_map, take}
use Rattle.sessions.specs.SessionReplies.{outcome_code}
use Rattle.sessions.specs.declared.command.Command.{Command}
use Rattle.sessions.specs.declared.command.Command.TheVariants.{NoOp, Request}
use Rattle.node_model.specs.Faults.{node_code}
use Rattle.node_model.specs.declared.fault.NodeFault.{NodeFault}
use Rattle.world_model.specs.declared.lists.LearntEntry.{LearntEntry}
use Rattle.world_model.specs.declared.lists.Replied.{Replied}
use Rattle.world_model.specs.declared.lists.Answered.{Answered}
use Rattle.world_model.specs.declared.lists.StepOutcome.{StepOutcome}
use Rattle.world_model.specs.declared.lists.StepOutcome.TheVariants as outcome
use Rattle.world_model.specs.declared.round_end.RoundEnd.{RoundEnd}
use Rattle.world_model.specs.declared.round_end.RoundEnd.TheVariants.{NotAQuorum, Down, Behind, Refused, Stopped, TooLow, Decided}
use Rattle.synod.specs.declared.ballot.Ballot.{Ballot}

-- a request by its client and number, as 7:1
abbrev pub request_text : ℕ → ℕ → List ℕ
request_text client number = decimal client ++ codes ":" ++ decimal number

abbrev pub command_text : Command → List ℕ
command_text NoOp = codes "noop"
command_text (Request asked) = request_text asked.client asked.number

-- ---- each line, ended by a line feed
abbrev pub learn_line : LearntEntry → List ℕ
learn_line learnt = codes "learn " ++ decimal learnt.node ++ codes " " ++ decimal learnt.slot
    ++ codes " " ++ command_text learnt.command ++ codes "\n"

abbrev pub reply_line : Replied → List ℕ
reply_line replied = codes "reply " ++ decimal replied.node ++ codes " "
    ++ request_text replied.client replied.number ++ codes " "
    ++ decimal (outcome_code replied.reply) ++ codes "\n"

abbrev pub answer_line : Answered → List ℕ
answer_line answered = codes "answer " ++ decimal answered.node ++ codes " "
    ++ decimal answered.position ++ codes " " ++ answered.text ++ codes "\n"

-- a node that restored the text of the checkpoint at the position
abbrev pub restore_line : ℕ → ℕ → List ℕ
restore_line node position =
    codes "restore " ++ decimal node ++ codes " " ++ decimal position ++ codes "\n"

abbrev pub refuse_line : ℕ → NodeFault → List ℕ
refuse_line node fault =
    codes "refuse " ++ decimal node ++ codes " " ++ decimal (node_code fault) ++ codes "\n"

abbrev pub stop_line : ℕ → NodeFault → List ℕ
stop_line node fault =
    codes "stop " ++ decimal node ++ codes " " ++ decimal (node_code fault) ++ codes "\n"

-- a ballot by its round and node, as 3.0
abbrev pub ballot_text : Ballot → List ℕ
ballot_text ballot = decimal ballot.round ++ codes "." ++ decimal ballot.node

-- how a round by hand ended
abbrev pub end_text : RoundEnd → List ℕ
end_text NotAQuorum = codes "noquorum"
end_text (Down member) = codes "down " ++ decimal member
end_text (Behind member) = codes "behind " ++ decimal member
end_text (Refused fault) = codes "refused " ++ decimal (node_code fault)
end_text (Stopped member) = codes "stopped " ++ decimal member
end_text (TooLow promised) = codes "low " ++ ballot_text promised
end_text (Decided slot) = codes "decided " ++ decimal slot

abbrev pub round_line : ℕ → RoundEnd → List ℕ
round_line node end =
    codes "round " ++ decimal node ++ codes " " ++ end_text end ++ codes "\n"

-- ---- a run is told outcome by outcome
-- what was learnt, replied and answered, each in the order of the steps
pub record Entries : Type 0 where
  pub learnt : List LearntEntry
  pub replies : List Replied
  pub answers : List Answered

-- the lines of the first entries, so many; for those that are missing, nothing
abbrev pub first_lines : {T : Type 0} → (T → List ℕ) → ℕ → List T → List ℕ
first_lines line count entries = flat_map line (take count entries)

-- the lines of an outcome that brought the first of these entries
abbrev pub lines_of_outcome : StepOutcome → Entries → List ℕ
lines_of_outcome (outcome.Done learnt replies) entries =
    first_lines learn_line learnt entries.learnt ++ first_lines reply_line replies entries.replies
lines_of_outcome (outcome.Restored node position replies) entries =
    restore_line node position ++ first_lines reply_line replies entries.replies
lines_of_outcome outcome.Answered entries = first_lines answer_line 1 entries.answers
lines_of_outcome outcome.Lost entries = []
lines_of_outcome (outcome.Refused node fault) entries = refuse_line node fault
lines_of_outcome (outcome.Stopped node fault) entries = stop_line node fault
lines_of_outcome (outcome.Round node end) entries = round_line node end

-- the entries that later outcomes brought
abbrev pub entries_after : StepOutcome → Entries → Entries
entries_after (outcome.Done learnt replies) entries = record entries {
  learnt = drop learnt entries.learnt;
  replies = drop replies entries.replies;
}
entries_after (outcome.Restored node position replies) entries =
    record entries { replies = drop replies entries.replies }
entries_after outcome.Answered entries = record entries { answers = drop 1 entries.answers }
entries_after outcome.Lost entries = entries
entries_after (outcome.Refused node fault) entries = entries
entries_after (outcome.Stopped node fault) entries = entries
entries_after (outcome.Round node end) entries = entries

-- the transcript of these outcomes, which brought these entries
abbrev pub transcript_of : List StepOutcome → Entries → List ℕ
transcript_of [] entries = []
transcript_of (first ∷ later) entries =
    lines_of_outcome first entries ++ transcript_of later (entries_after first entries)
