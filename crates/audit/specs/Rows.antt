-- The lines of transcripts: which words each has.
--
-- Nodes are numbered from 0; a slot is below `SLOTS`, a position at most that. All numbers are decimal, without leading zeros.
-- A line `strangers` is a loopback's last: no line of its transcript follows it.
use Rattle.std.specs.Prelude.{◌≡◌, ◌⊎◌, ℕ, ◌+◌, ◌<◌, ◌≤◌, ◌^◌, Bool, IsTrue, List, [], ◌∷◌, Some, codes, decimal}
use Rattle.schedule.specs.Lines.{pieces}
use Rattle.schedule.specs.Words.{words_of}
use Rattle.synod.specs.declared.slot.TheConstants.{SLOTS}
use Rattle.verdicts.specs.declared.lines.Name.{Name}
use Rattle.verdicts.specs.declared.lines.Name.TheVariants.{NoOp, Request}
use Rattle.verdicts.specs.declared.lines.Told.TheVariants.{Reply, Answer, Restore, Other, Foreign}
use Rattle.audit.specs.Kinds.{kind_text, end_text}
use Rattle.audit.specs.declared.kind.Kind.{Kind}
use Rattle.audit.specs.declared.kind.Kind.TheVariants as kind
use Rattle.audit.specs.declared.kind.End.{End}
use Rattle.audit.specs.declared.kind.End.TheVariants as end
use Rattle.audit.specs.declared.line.Line.{Line}
use Rattle.audit.specs.declared.line.Line.TheVariants as line

-- ---- words
abbrev pub colon : ℕ
colon = 58

abbrev pub full_stop : ℕ
full_stop = 46

-- a request by its client and number, as 7:1
pub record IsRequest (word : List ℕ) (client number : ℕ) : Type 0 where
  pub parts : pieces colon (Some word) ≡ decimal client ∷ decimal number ∷ []
  pub of_client : client < 256
  pub least : 1 ≤ number
  pub in_range : number < 2 ^ 64

-- what a command is called: a request, or `noop`
abbrev pub IsName : List ℕ → Name → Type 0
IsName word NoOp = word ≡ codes "noop"
IsName word (Request client number) = IsRequest word client number

-- a ballot by its round and node, as 3.0
pub record IsBallot (nodes : ℕ) (word : List ℕ) (round node : ℕ) : Type 0 where
  pub parts : pieces full_stop (Some word) ≡ decimal round ∷ decimal node ∷ []
  pub least : 1 ≤ round
  pub in_range : round < 2 ^ 64
  pub of_node : node < nodes

-- a request is done, not done by the database, or was never to be executed
abbrev pub IsReplyCode : ℕ → Type 0
IsReplyCode code = (code ≡ 0) ⊎ (21 ≤ code) × (code ≤ 24) ⊎ (code ≡ 31) ⊎ (code ≡ 32)

-- a node refuses an event or a query
abbrev pub IsRefusalCode : ℕ → Type 0
IsRefusalCode code = (41 ≤ code) × (code ≤ 45) ⊎ (code ≡ 47) ⊎ (code ≡ 49)

-- a node stops
abbrev pub IsStopCode : ℕ → Type 0
IsStopCode code = (46 ≤ code) × (code ≤ 48)

-- a node may not start a campaign
abbrev pub IsCampaignCode : ℕ → Type 0
IsCampaignCode code = (code ≡ 42) ⊎ (code ≡ 43)

-- ---- rows of words, after the one that says what the line is
-- one number
pub record IsNumber (limit : ℕ) (words : List (List ℕ)) (value : ℕ) : Type 0 where
  pub row : words ≡ decimal value ∷ []
  pub below : value < limit

-- a node and a number
pub record IsNodeNumber (nodes limit : ℕ) (words : List (List ℕ)) (value : ℕ) : Type 0 where
  pub node : ℕ
  pub row : words ≡ decimal node ∷ decimal value ∷ []
  pub there : node < nodes
  pub below : value < limit

-- after `learn`: a node, a slot, and what the command there is called
pub record IsLearn (nodes : ℕ) (words : List (List ℕ)) (slot : ℕ) (name : Name) : Type 0 where
  pub node : ℕ
  pub name_word : List ℕ
  pub row : words ≡ decimal node ∷ decimal slot ∷ name_word ∷ []
  pub there : node < nodes
  pub in_log : slot < SLOTS
  pub named : IsName name_word name

-- after `reply`: a node, a request, and the reply's number
pub record IsReply (nodes : ℕ) (words : List (List ℕ)) (client number code : ℕ) : Type 0 where
  pub node : ℕ
  pub request_word : List ℕ
  pub row : words ≡ decimal node ∷ request_word ∷ decimal code ∷ []
  pub there : node < nodes
  pub request : IsRequest request_word client number
  pub of_reply : IsReplyCode code

-- after `answer`: a node, a position, and the text of the answer with its blanks
pub record IsAnswer (nodes : ℕ) (words : List (List ℕ)) (node position : ℕ) (text : List ℕ) : Type 0 where
  pub row : words ≡ decimal node ∷ decimal position ∷ words_of text
  pub there : node < nodes
  pub in_log : position ≤ SLOTS

-- after `round NODE` and the word that says how it ended
abbrev pub EndSays : ℕ → End → List (List ℕ) → Type 0
EndSays nodes end.Decided words = (slot : ℕ) × IsNumber SLOTS words slot
EndSays nodes end.Low words = (word : List ℕ) × (words ≡ word ∷ []) × ((round : ℕ) × (node : ℕ) × IsBallot nodes word round node)
EndSays nodes end.NoQuorum words = words ≡ []
EndSays nodes end.Down words = (member : ℕ) × IsNumber nodes words member
EndSays nodes end.Behind words = (member : ℕ) × IsNumber nodes words member
EndSays nodes end.Refused words = (code : ℕ) × IsNumber 256 words code × IsCampaignCode code
EndSays nodes end.Stopped words = (member : ℕ) × IsNumber nodes words member

-- after `round`
pub record IsRound (nodes : ℕ) (words : List (List ℕ)) : Type 0 where
  pub node : ℕ
  pub how : End
  pub others : List (List ℕ)
  pub row : words ≡ decimal node ∷ end_text how ∷ others
  pub there : node < nodes
  pub says : EndSays nodes how others

-- ---- the table
-- what the words say after the one that the line begins with, in a run of so many nodes, where the line is the last one or isn't
abbrev pub Says : ℕ → Bool → Kind → List (List ℕ) → Line → Type 0
Says nodes is_last kind.Learn words (line.Learn slot name) = IsLearn nodes words slot name
Says nodes is_last kind.Reply words (line.Told (Reply client number code)) = IsReply nodes words client number code
Says nodes is_last kind.Answer words (line.Told (Answer node position text)) = IsAnswer nodes words node position text.items
Says nodes is_last kind.Restore words (line.Told (Restore position)) = IsNodeNumber nodes (SLOTS + 1) words position
Says nodes is_last kind.Refuse words (line.Told Other) = (code : ℕ) × IsNodeNumber nodes 256 words code × IsRefusalCode code
Says nodes is_last kind.Stop words (line.Told Other) = (code : ℕ) × IsNodeNumber nodes 256 words code × IsStopCode code
Says nodes is_last kind.Round words (line.Told Other) = IsRound nodes words
Says nodes is_last kind.Strangers words (line.Told Other) = IsTrue is_last × ((count : ℕ) × IsNumber (2 ^ 64) words count)
Says _ _ _ _ _ = ⊥

-- the words after the first one are read as what they say; as `Foreign` where the line of this kind has other words
abbrev pub IsRow : ℕ → Bool → Kind → List (List ℕ) → Line → Type 0
IsRow nodes is_last of words (line.Told Foreign) = (other : Line) → ¬ (Says nodes is_last of words other)
IsRow nodes is_last of words said = Says nodes is_last of words said

-- the text is a line of the table that says this
pub record Spells (nodes : ℕ) (is_last : Bool) (text : List ℕ) (said : Line) : Type 0 where
  pub kind : Kind
  pub others : List (List ℕ)
  pub words : words_of text ≡ kind_text kind ∷ others
  pub says : Says nodes is_last kind others said

-- the text is read as what it spells; as `Foreign` where it is no line of the table
abbrev pub IsReadAs : ℕ → Bool → List ℕ → Line → Type 0
IsReadAs nodes is_last text (line.Told Foreign) = (other : Line) → ¬ (Spells nodes is_last text other)
IsReadAs nodes is_last text said = Spells nodes is_last text said
