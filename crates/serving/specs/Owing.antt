-- What a process owes its clients: one text for each line.
use Rattle.std.specs.Prelude.{◌≡◌, ℕ, ◌==◌, ◌+◌, ◌<◌, ◌≤◌, ⊤, Bool, false, List, ◌++◌, map, Contains, count_by}
use Rattle.std.specs.List.{filter}
use Rattle.sessions.specs.SessionReplies.{outcome_code}
use Rattle.world_model.specs.declared.lists.Replied.{Replied}
use Rattle.clients.specs.AnswerLines.{answer_line}
use Rattle.clients.specs.declared.answer.ClientAnswer.TheVariants as answer
use Rattle.serving.specs.declared.claims.Claim.{Claim}
use Rattle.serving.specs.declared.claims.TheConstants.{MOST_CLAIMS}
use Rattle.serving.specs.Claiming.{is_for, is_of}
use Rattle.serving.specs.Tapes.{Talk, Heard, Went, Told}
use Rattle.serving.specs.Waitings.{WaitingState, is_asked_by, is_told_to}

-- ---- by connection
-- a line that it wrote
abbrev pub is_line_of : ℕ → Talk → Bool
is_line_of connection (Heard by text) = by == connection
is_line_of connection other = false

-- a text that it was told
abbrev pub is_text_to : ℕ → Talk → Bool
is_text_to connection (Told to text) = to == connection
is_text_to connection other = false

-- so many of its lines wait for their texts
abbrev pub owed_to : ℕ → WaitingState → ℕ
owed_to connection waiting = count_by (is_for connection) waiting.claims + count_by (is_asked_by connection) waiting.questions
    + count_by (is_told_to connection) waiting.due

-- a line that is read is one of a connection of which fewer wait than may
abbrev pub HasRoom : WaitingState → Talk → Type 0
HasRoom waiting (Heard connection text) = owed_to connection waiting < MOST_CLAIMS
HasRoom waiting other = ⊤

-- ---- one text for each line
-- each line of a connection that hasn't gone was answered by one text, or waits for it
pub record AnswersEach (talk : List Talk) (waiting : WaitingState) : Type 0 where
  pub each : (connection : ℕ) → ¬ Contains talk (Went connection)
      → count_by (is_line_of connection) talk ≡ count_by (is_text_to connection) talk + owed_to connection waiting

-- a part of a turn in which this was said leaves that as it was
pub record KeepsEach (said : List Talk) (old new : WaitingState) : Type 0 where
  pub keeps : (talk : List Talk) → AnswersEach talk old → AnswersEach (talk ++ said) new

-- no line of a connection that hasn't gone was answered by more than one text
pub record AnswersAtMost (talk : List Talk) : Type 0 where
  pub each : (connection : ℕ) → ¬ Contains talk (Went connection)
      → count_by (is_text_to connection) talk ≤ count_by (is_line_of connection) talk

-- so it is after a part of a turn that broke off once this was said
pub record BreaksOff (said : List Talk) (old : WaitingState) : Type 0 where
  pub at_most : (talk : List Talk) → AnswersEach talk old → AnswersAtMost (talk ++ said)

-- over a desk, as far as its tape tells
pub record BreaksOffOver {D : Type 0} (tape : D → List Talk) (Tells : D → Type 0) (old : WaitingState) (desk desk' : D) : Type 0 where
  pub at_most : Tells desk' → AnswersEach (tape desk) old → AnswersAtMost (tape desk')

pub record KeepsEachOver {D : Type 0} (tape : D → List Talk) (Tells : D → Type 0) (old : WaitingState) (desk : D)
    (new : WaitingState) (desk' : D) : Type 0 where
  pub keeps : Tells desk' → AnswersEach (tape desk) old → AnswersEach (tape desk') new

-- ---- replies
abbrev pub reply_line : Replied → List ℕ
reply_line replied = answer_line (answer.Reply replied.client replied.number (outcome_code replied.reply) replied.position)

-- the reply is told once to each who waits for it by these claims, in their order
abbrev pub reply_told : Replied → List Claim → List Talk
reply_told replied claims =
    map (λ claim. Told claim.connection (reply_line replied)) (filter (is_of replied.client replied.number) claims)
