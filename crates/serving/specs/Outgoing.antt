-- What a process lets out in one go: each frame, packet and text is what the life handed out, or what a client wrote.
use Rattle.std.specs.Prelude.{◌≡◌, ℕ, ◌+◌, List, [], ◌∷◌, ◌++◌, All, Contains, Option, ⊤}
use Rattle.sessions.specs.SessionReplies.{outcome_code}
use Rattle.wire.specs.FrameSpelling.{IsFrame}
use Rattle.wire.specs.declared.frames.envelope.Envelope.{Envelope}
use Rattle.world_model.specs.declared.lists.Answered.{Answered}
use Rattle.world_model.specs.declared.lists.Replied.{Replied}
use Rattle.clients.specs.AnswerLines.{answer_line, text_line}
use Rattle.clients.specs.declared.answer.ClientAnswer.TheVariants as answer
use Rattle.serving.specs.declared.claims.Claim.{Claim}
use Rattle.serving.specs.HandingOn.{IsHandedTo}
use Rattle.serving.specs.Serving.{ServerState}
use Rattle.serving.specs.Tapes.{Carried, Sent, Talk, Told}
use Rattle.serving.specs.Turns.{handed_on}

-- one of these frames goes to its receiver
pub record SpellsOneOf (frames : List Envelope) (to : ℕ) (bytes : List ℕ) : Type 0 where
  pub frame : Envelope
  pub listed : Contains frames frame
  pub receiver : frame.to ≡ to
  pub spelled : IsFrame 7 bytes frame

abbrev pub IsFrameOf : List Envelope → Carried → Type 0
IsFrameOf frames (Sent to bytes) = SpellsOneOf frames to bytes
IsFrameOf frames other = ⊥

-- each of these frames goes to its receiver: once, in their order
pub data AreFramesOf : List Envelope → List Carried → Type 0 where
  none : AreFramesOf [] []
  next : (frames : List Envelope) (sent : List Carried) (frame : Envelope) (x : Carried) → AreFramesOf frames sent
      → IsFrameOf (frame ∷ []) x → AreFramesOf (frames ++ frame ∷ []) (sent ++ x ∷ [])

-- this packet goes to a node to which requests are handed on
abbrev pub IsPacketOf : Option ℕ → ℕ → List ℕ → Carried → Type 0
IsPacketOf leader own packet (Sent to bytes) = (bytes ≡ packet) × IsHandedTo leader own to
IsPacketOf leader own packet other = ⊥

-- of so many nodes, it goes to each to which requests are handed on: once, in the order of their numbers
pub data ArePacketsOf (leader : Option ℕ) (own : ℕ) (packet : List ℕ) : ℕ → List Carried → Type 0 where
  none : ArePacketsOf leader own packet 0 []
  sends_to : (node : ℕ) (sent : List Carried) → ArePacketsOf leader own packet node sent → IsHandedTo leader own node
      → ArePacketsOf leader own packet (node + 1) (sent ++ Sent node packet ∷ [])
  passes_by : (node : ℕ) (sent : List Carried) → ArePacketsOf leader own packet node sent → ¬ IsHandedTo leader own node
      → ArePacketsOf leader own packet (node + 1) sent

-- it came, or nothing did
abbrev pub IsArrival : Carried → Type 0
IsArrival (Sent to bytes) = ⊥
IsArrival other = ⊤

-- a request that is sent goes to a node to which requests are handed on
abbrev pub IsRightlySent : Option ℕ → ℕ → Carried → Type 0
IsRightlySent leader own (Sent to bytes) = (line : List ℕ) → bytes ≡ handed_on line → IsHandedTo leader own to
IsRightlySent leader own other = ⊤

-- one of these replies is told to a connection that waits for it by one of these claims
pub record SettlesOneOf (replies : List Replied) (claims : List Claim) (connection : ℕ) (text : List ℕ) : Type 0 where
  pub replied : Replied
  pub listed : Contains replies replied
  pub claim : Claim
  pub waits : Contains claims claim
  pub receiver : claim.connection ≡ connection
  pub client : claim.client ≡ replied.client
  pub number : claim.number ≡ replied.number
  pub spelled : text ≡ answer_line (answer.Reply replied.client replied.number (outcome_code replied.reply) replied.position)

abbrev pub IsReplyIn : List Replied → List Claim → Talk → Type 0
IsReplyIn replies claims (Told connection text) = SettlesOneOf replies claims connection text
IsReplyIn replies claims other = ⊥

-- the connection is told this answer
abbrev pub IsTextTo : ℕ → Answered → Talk → Type 0
IsTextTo connection answered (Told to text) = (to ≡ connection) × (text ≡ text_line answered.position answered.text)
IsTextTo connection answered other = ⊥

-- what a process keeps of what waits, it had
pub record KeepsLess {S : Type 0} (old new : ServerState S) : Type 0 where
  pub claims : All (Contains old.waiting.claims) new.waiting.claims
  pub questions : All (Contains old.waiting.questions) new.waiting.questions
  pub due : All (Contains old.waiting.due) new.waiting.due
  pub requests : All (Contains old.requests) new.requests
