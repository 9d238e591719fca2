-- What is said of each happening as members of a JSON object.
use Rattle.std.specs.Prelude.{ℕ, List, [], ◌++◌, codes, decimal, Option, Some, None}
use Rattle.std.specs.Str.Lossy.{utf8_lossy}
use Rattle.diagram.specs.Facts.{kind_text}
use Rattle.diagram.specs.declared.facts.Facts.{Facts}
use Rattle.node_model.specs.Faults.{fault_text, node_code}
use Rattle.node_model.specs.declared.fault.NodeFault.{NodeFault}
use Rattle.replay.specs.Transcripts.{ballot_text, command_text, request_text}
use Rattle.serde_json.specs.Data.{string}
use Rattle.serde_json.specs.Written.{compact_text}
use Rattle.sessions.specs.SessionReplies.{outcome_code}
use Rattle.synod.specs.declared.ballot.Ballot.{Ballot}
use Rattle.world_model.specs.declared.lists.Replied.{Replied}
use Rattle.story.specs.Happenings.{Happening, answer_given, frame_lost, frame_sent, node_refused, node_stopped, reply_given, round_ended, slot_learnt, text_restored}
use Rattle.story.specs.Wordings.{end_words, meaning_of}

-- a text as JSON has it; where it is no UTF-8, by its replacements
abbrev pub json_text : List ℕ → List ℕ
json_text text = compact_text (string (utf8_lossy text))

-- the slot of which a frame speaks, if it speaks of one, and the ballot
abbrev pub slot_member : Option ℕ → List ℕ
slot_member None = []
slot_member (Some slot) = codes ",\"slot\":" ++ decimal slot

abbrev pub ballot_member : Option Ballot → List ℕ
ballot_member None = []
ballot_member (Some ballot) = codes ",\"ballot\":\"" ++ (ballot_text ballot ++ codes "\"")

-- a number and what it means
abbrev pub code_members : ℕ → List ℕ → List ℕ
code_members code meaning = codes ",\"code\":" ++ (decimal code ++ (codes ",\"meaning\":\"" ++ (meaning ++ codes "\"")))

abbrev pub fault_members : NodeFault → List ℕ
fault_members fault = code_members (node_code fault) (fault_text fault)

-- to which request a reply is, and what it says
abbrev pub reply_members : Replied → List ℕ
reply_members e = codes ",\"request\":\"" ++ request_text e.client e.number
    ++ (codes "\"" ++ code_members (outcome_code e.reply) (meaning_of e.reply))

-- a frame: its number, its kind and its way, and of what it speaks
abbrev pub frame_members : (number from to : ℕ) → Facts → List ℕ
frame_members number from to facts = codes ",\"frame\":" ++ (decimal number ++ (codes ",\"kind\":\""
    ++ (kind_text facts.kind ++ (codes "\",\"from\":" ++ (decimal from ++ (codes ",\"to\":" ++ (decimal to ++ (slot_member facts.slot
    ++ ballot_member facts.ballot))))))))

-- from its kind on
abbrev pub members_of : Happening → List ℕ
members_of (frame_sent number from to facts) = codes "\"frame\"" ++ frame_members number from to facts
members_of (slot_learnt e) = codes "\"learn\",\"node\":" ++ (decimal e.node ++ (codes ",\"slot\":" ++ (decimal e.slot
    ++ codes ",\"command\":\"")))
    ++ (command_text e.command ++ codes "\"")
members_of (reply_given e) = codes "\"reply\",\"node\":" ++ decimal e.node ++ reply_members e
members_of (answer_given e) = codes "\"answer\",\"node\":" ++ (decimal e.node ++ (codes ",\"position\":" ++ (decimal e.position
    ++ (codes ",\"text\":" ++ json_text e.text))))
members_of (text_restored node position) = codes "\"restore\",\"node\":" ++ (decimal node ++ (codes ",\"position\":" ++ decimal position))
members_of (frame_lost number from to facts) = codes "\"lost\"" ++ frame_members number from to facts
members_of (node_refused node fault) = codes "\"refuse\",\"node\":" ++ (decimal node ++ fault_members fault)
members_of (node_stopped node fault) = codes "\"stop\",\"node\":" ++ (decimal node ++ fault_members fault)
members_of (round_ended node how) = codes "\"round\",\"node\":" ++ (decimal node ++ codes ",\"meaning\":\"") ++ (end_words how
    ++ codes "\"")
