-- What passes between a process, the other nodes and its clients.
use Rattle.std.specs.Prelude.{◌≡◌, ⊤, ℕ, Bool, true, false, List, [], ◌∷◌, ◌++◌, Option, Some, None, Result, Ok, Err}
use Rattle.std.specs.Global.{Vec}
use Rattle.serving.specs.declared.desk.Came.{Came}
use Rattle.serving.specs.declared.desk.Came.TheVariants as came

-- ---- between nodes
pub data Carried : Type 0 where
  -- to this node these bytes were sent
  Sent : ℕ → List ℕ → Carried
  -- these bytes came
  Arrived : List ℕ → Carried
  -- a poll found that nothing had come
  NothingCame : Carried
  -- a poll failed
  PollFailed : Carried

-- what a send tells: nothing is sent where it fails
abbrev pub sent_in : {E : Type 0} → ℕ → List ℕ → Result (Unit {0}) E → List Carried
sent_in to bytes (Ok done) = Sent to bytes ∷ []
sent_in to bytes (Err fault) = []

-- what a poll tells
abbrev pub came_in : {E : Type 0} → Result (Option (Vec ℕ)) E → List Carried
came_in (Ok (Some bytes)) = Arrived bytes.items ∷ []
came_in (Ok None) = NothingCame ∷ []
came_in (Err fault) = PollFailed ∷ []

-- whether something came, where this is a poll that went well
abbrev pub polled : Carried → Option Bool
polled (Arrived bytes) = Some true
polled NothingCame = Some false
polled PollFailed = None
polled (Sent to bytes) = None

-- ---- with clients, by connection
pub data Talk : Type 0 where
  -- a line was read
  Heard : ℕ → List ℕ → Talk
  -- it went
  Went : ℕ → Talk
  -- it was told these bytes
  Told : ℕ → List ℕ → Talk
  -- no client had done anything that may be read, where lines of these connections waited
  NothingHeard : List ℕ → Talk
  -- a reading failed
  ReadingFailed : Talk

-- what a telling tells: nothing is told where it fails
abbrev pub told_in : {E : Type 0} → ℕ → List ℕ → Result (Unit {0}) E → List Talk
told_in connection text (Ok done) = Told connection text ∷ []
told_in connection text (Err fault) = []

-- what a client did
abbrev pub heard : Came → Talk
heard (came.Line connection text) = Heard connection text.items
heard (came.Gone connection) = Went connection

-- what a reading tells, where lines of these connections wait
abbrev pub heard_in : {E : Type 0} → List ℕ → Result (Option Came) E → List Talk
heard_in waiting (Ok (Some what)) = heard what ∷ []
heard_in waiting (Ok None) = NothingHeard waiting ∷ []
heard_in waiting (Err fault) = ReadingFailed ∷ []

-- whether a client did something, where this is a reading that went well
abbrev pub read : Talk → Option Bool
read (Heard connection text) = Some true
read (Went connection) = Some true
read (NothingHeard waiting) = Some false
read ReadingFailed = None
read (Told connection text) = None

-- the connection is told nothing
abbrev pub IsHeard : Talk → Type 0
IsHeard (Told connection text) = ⊥
IsHeard other = ⊤

-- ---- what passes in a call
-- where the tape tells afterwards it told before, and this is what passed; of any tape, by what it lists and whether it tells
pub record HasPassed {T A : Type 0} (tape : T → List A) (Tells : T → Type 0) (old : T) (passed : List A) (new : T) : Type 0 where
  pub told : Tells new → Tells old
  pub passed_ : Tells new → tape new ≡ tape old ++ passed
