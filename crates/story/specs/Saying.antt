-- What each line says.
use Rattle.std.specs.Prelude.{ℕ, ◌-◌, List, [], ◌∷◌, ◌++◌, codes, decimal, length, replicate}
use Rattle.events.specs.declared.fault.WorldFault.{WorldFault}
use Rattle.events.specs.declared.fault.WorldFault.TheVariants.{NoSuchFrame, NoSuchNode, FlushLimit, Memory, NotEmpty}
use Rattle.schedule.specs.Causes.{cause_code, cause_text}
use Rattle.schedule.specs.declared.replay_fault.ReplayCause.{ReplayCause}
use Rattle.schedule.specs.declared.replay_fault.ReplayCause.TheVariants.{Schedule, World}
use Rattle.schedule.specs.declared.replay_fault.ReplayFault.{ReplayFault}
use Rattle.story.specs.Happenings.{Happening}
use Rattle.story.specs.Lines.{Saying, whole}
use Rattle.story.specs.Members.{json_text, members_of}
use Rattle.story.specs.Ranges.{range_pairs, ranges_words}
use Rattle.story.specs.Wordings.{words_of}
use Rattle.story.specs.declared.ranges.Range.{Range}
use Rattle.story.specs.declared.writer.Form.{Form}
use Rattle.story.specs.declared.writer.Form.TheVariants.{Words, Json}

-- ---- a line of the schedule
-- a number of at most six digits ends where the sixth column does
abbrev pub right_aligned : ℕ → List ℕ
right_aligned number = replicate (6 - length (decimal number)) 32 ++ decimal number

-- how an object of a line begins
abbrev pub object_begin : ℕ → List ℕ
object_begin line = codes "{\"line\":" ++ (decimal line ++ codes ",\"what\":")

-- its number and its text
abbrev pub line_said : Form → ℕ → List ℕ → Saying
line_said Words number text = whole (right_aligned number ++ (codes "  " ++ text))
line_said Json number text = whole (object_begin number ++ (codes "\"line\",\"text\":" ++ (json_text text ++ codes "}")))

-- ---- what came of it
abbrev pub item_said : Form → ℕ → Happening → Saying
item_said Words line h = whole (codes "        " ++ words_of h)
item_said Json line h = whole (object_begin line ++ (members_of h ++ codes "}"))

-- how many frames were sent, from the first of them on
abbrev pub count_said : Form → ℕ → ℕ → ℕ → Saying
count_said Words line first count = whole (codes "        frames sent: " ++ (decimal count ++ (codes ", from number "
    ++ (decimal first ++ codes " on"))))
count_said Json line first count = whole (object_begin line ++ (codes "\"frames\",\"first\":" ++ (decimal first
    ++ (codes ",\"count\":" ++ (decimal count ++ codes "}")))))

-- ---- the fault that ended the run
abbrev pub ending_words : ReplayFault → List ℕ
ending_words fault = codes "fault " ++ (decimal (cause_code fault.cause) ++ (codes " at line " ++ (decimal fault.line ++ (codes ": "
    ++ cause_text fault.cause))))

-- the object has behind it which frames wait
abbrev pub ending_members : ReplayFault → ℕ → List ℕ
ending_members fault frames = codes "\"fault\",\"code\":" ++ (decimal (cause_code fault.cause) ++ (codes ",\"meaning\":\""
    ++ (cause_text fault.cause ++ (codes "\",\"frames\":" ++ (decimal frames ++ codes ",\"waiting\":[")))))

abbrev pub way_out : List ℕ
way_out = codes "        a way out: `timeout N` of a node that is up and `flush` again, which catches up with four slots each time"

-- in words also what helps: how many frames there are, or which ones wait and a way out
abbrev pub world_help : WorldFault → ℕ → List Range → List Saying
world_help NoSuchFrame frames waiting = whole (codes "        frames so far: " ++ (decimal frames ++ codes ", numbered from 0")) ∷ []
world_help FlushLimit frames waiting = whole (codes "        frames that wait: " ++ ranges_words waiting) ∷ whole way_out ∷ []
world_help NoSuchNode frames waiting = []
world_help Memory frames waiting = []
world_help NotEmpty frames waiting = []

abbrev pub help : ReplayCause → ℕ → List Range → List Saying
help (Schedule fault) frames waiting = []
help (World fault) frames waiting = world_help fault frames waiting

abbrev pub fault_said : Form → ReplayFault → ℕ → List Range → List Saying
fault_said Words fault frames waiting = whole (ending_words fault) ∷ help fault.cause frames waiting
fault_said Json fault frames waiting = whole (object_begin fault.line ++ (ending_members fault frames ++ (range_pairs waiting
    ++ codes "]}"))) ∷ []
