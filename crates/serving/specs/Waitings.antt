-- What connections wait for.
use Rattle.std.specs.Prelude.{◌≡◌, ℕ, ◌==◌, ◌||◌, ◌<◌, ◌≤◌, Bool, List, [], ◌∷◌, ◌++◌, All, map, true, false}
use Rattle.std.specs.List.{list_any}
use Rattle.serving.specs.declared.claims.Claim.{Claim}
use Rattle.serving.specs.declared.waiting.Question.{Question}
use Rattle.serving.specs.declared.waiting.Due.{Due}
use Rattle.serving.specs.declared.waiting.Due.TheVariants as due
use Rattle.serving.specs.Claiming.{is_for}

pub record WaitingState : Type 0 where
  -- who waits for which reply, in the order of the requests
  pub claims : List Claim
  -- the queries that are held back, in the order of their lines
  pub questions : List Question
  -- what is told at the end of the turn, in the order of the lines
  pub due : List Due

-- ---- whose they are
abbrev pub is_asked_by : ℕ → Question → Bool
is_asked_by connection question = question.connection == connection

abbrev pub receiver_of : Due → ℕ
receiver_of (due.Answer question) = question.connection
receiver_of (due.Line receiver line) = receiver

abbrev pub is_told_to : ℕ → Due → Bool
is_told_to connection what = receiver_of what == connection

-- the connection of each line that waits
abbrev pub lines_of : WaitingState → List ℕ
lines_of waiting = map (λ claim. claim.connection) waiting.claims
    ++ map (λ question. question.connection) waiting.questions
    ++ map receiver_of waiting.due

-- the connection waits for something
abbrev pub is_waiting : ℕ → WaitingState → Bool
is_waiting connection waiting = list_any (is_for connection) waiting.claims
    || list_any (is_asked_by connection) waiting.questions
    || list_any (is_told_to connection) waiting.due

-- anything is in the list
abbrev pub has_any : {A : Type 0} → List A → Bool
has_any [] = false
has_any (x ∷ xs) = true

-- ---- queries that are held back
-- the node isn't where the query is to be asked
abbrev pub IsHeldBack : ℕ → Question → Type 0
IsHeldBack position question = position < question.from

-- the question is the first that is held back no more at this position, and these are the others, in their order
pub record IsFirstRipe (position : ℕ) (questions others : List Question) (question : Question) : Type 0 where
  pub before : List Question
  pub after : List Question
  pub split : questions ≡ before ++ question ∷ after
  pub held_back : All (IsHeldBack position) before
  pub ripe : question.from ≤ position
  pub rest : others ≡ before ++ after
