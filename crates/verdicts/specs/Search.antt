-- Which lists of commands a search among choices has left behind, and what comes of it.
use Rattle.std.specs.Prelude.{◌≡◌, ◌≢◌, ℕ, ◌+◌, ◌-◌, ◌<◌, ◌≤◌, ◌==◌, ◌&&◌, count_by, List, [], ◌∷◌, length, map, take, slice_get, All, AllPairs, Any, Contains, Option, Some, None, Bool, true, false}
use Rattle.std.specs.Option.{option_map}
use Rattle.sessions.specs.declared.submission.Submission.{Submission}
use Rattle.sessions.specs.declared.command.Command.{Command}
use Rattle.sessions.specs.declared.command.Command.TheVariants as command
use Rattle.verdicts.specs.Explaining.{IsAmong, HasTold, name_of}
use Rattle.verdicts.specs.RequestIndex.{IsOf, IsAmbiguous}
use Rattle.verdicts.specs.Verdicts.{AreNotEnough, AreOpen, IsInReach}
use Rattle.verdicts.specs.declared.examination.Contradiction.{Contradiction}
use Rattle.verdicts.specs.declared.lines.Name.{Name}
use Rattle.verdicts.specs.declared.lines.Name.TheVariants.{Request}
use Rattle.verdicts.specs.declared.lines.Place.{Place}
use Rattle.verdicts.specs.declared.lines.Question.{Question}
use Rattle.verdicts.specs.declared.lines.ToldLine.{ToldLine}
use Rattle.verdicts.specs.declared.search.Branch.{Branch}
use Rattle.verdicts.specs.declared.search.Search.{Search}
use Rattle.verdicts.specs.declared.verdict.Verdict.{Verdict}
use Rattle.verdicts.specs.declared.verdict.Verdict.TheVariants.{Explained, Contradicted, UnlearntSlot, TwoOperations}

-- ---- lists
-- each slot has a no-op or one of the requests, of the slot's name where one is known
pub record IsPossible (requests : List Submission) (names : List (Option Name)) (l : List Command) : Type 0 where
  pub slots : length l ≡ length names
  pub among : All (IsAmong requests) l
  pub named : (slot : ℕ) (wanted : Name) → slice_get names slot ≡ Some (Some wanted)
      → option_map name_of (slice_get l slot) ≡ Some wanted

abbrev pub HasAllTold : List Question → List ToldLine → List Command → Type 0
HasAllTold questions told l = All (λ (line : ToldLine). HasTold questions l line.told) told

-- some possible list explains the lines
pub record IsSolved (requests : List Submission) (names : List (Option Name)) (questions : List Question) (told : List ToldLine)
    : Type 0 where
  pub list : List Command
  pub possible : IsPossible requests names list
  pub explains : HasAllTold questions told list

-- some possible list begins with the commands
pub record AreBegun (requests : List Submission) (names : List (Option Name)) (commands : List Command) : Type 0 where
  pub list : List Command
  pub possible : IsPossible requests names list
  pub begins : take (length commands) list ≡ commands

-- ---- choices
-- a request of the client and number stands at the place
pub record IsOperation (requests : List Submission) (client number place : ℕ) : Type 0 where
  pub request : Submission
  pub there : slice_get requests place ≡ Some request
  pub is_of : IsOf client number request

-- the request stands at one of the places
pub record IsListed (requests : List Submission) (places : List ℕ) (r : Submission) : Type 0 where
  pub place : ℕ
  pub listed : Contains places place
  pub there : slice_get requests place ≡ Some r

-- at each of the places, and at no others, stand requests of the client and number
pub record AreOperations (requests : List Submission) (client number : ℕ) (places : List ℕ) : Type 0 where
  pub each : All (IsOperation requests client number) places
  pub whole : (r : Submission) → Contains requests r → IsOf client number r → IsListed requests places r

-- none of the places has the request
abbrev pub IsUnlisted : List Submission → List ℕ → Submission → Type 0
IsUnlisted requests places r = All (λ (place : ℕ). slice_get requests place ≢ Some r) places

-- no two of the places have the same request
abbrev pub AreUnlike : List Submission → List ℕ → Type 0
AreUnlike requests places = AllPairs (λ (a b : ℕ). slice_get requests a ≢ slice_get requests b) places

-- ---- the order of choices
-- the request is known by this client and number
abbrev pub is_known_by : ℕ → ℕ → Submission → Bool
is_known_by client number r = (r.client == client) && (r.number == number)

-- the command is a request that is known so
abbrev pub is_command_of : ℕ → ℕ → Command → Bool
is_command_of client number command.NoOp = false
is_command_of client number (command.Request r) = is_known_by client number r

-- at the place stands a request of the client and number, and before it so many others of them
pub record StandsBehind (requests : List Submission) (client number before place : ℕ) : Type 0 where
  pub operation : IsOperation requests client number place
  pub others : count_by (is_known_by client number) (take place requests) ≡ before

-- where there are more requests of the client and number than the commands have, the last place is that of the first one more
abbrev pub IsLikeliestLast : List Submission → List Command → ℕ → ℕ → List ℕ → Type 0
IsLikeliestLast requests commands client number places =
    count_by (is_command_of client number) commands < count_by (is_known_by client number) requests
    → (place : ℕ) × StandsBehind requests client number (count_by (is_command_of client number) commands) place
    × (slice_get places (length places - 1) ≡ Some place)

-- ---- choices at slots
-- the slot has the name of requests with several operations, and this is one of them; the commands reach the slot
pub record IsChoice (requests : List Submission) (names : List (Option Name)) (reached : ℕ) (b : Branch) : Type 0 where
  pub request : Submission
  pub there : slice_get requests b.place ≡ Some request
  pub within : b.slot ≤ reached
  pub named : slice_get names b.slot ≡ Some (Some (Request request.client request.number))
  pub ambiguous : IsAmbiguous requests request.client request.number

abbrev pub branch_at : ℕ → ℕ → Branch
branch_at slot place = record { slot = slot; place = place }

abbrev pub branches_at : ℕ → List ℕ → List Branch
branches_at slot places = map (branch_at slot) places

-- the branch's place is one of the requests'
abbrev pub IsBehind : List Submission → Branch → Type 0
IsBehind requests b = b.place < length requests

-- the slots never fall
abbrev pub AreAscending : List Branch → Type 0
AreAscending [] = Unit {0}
AreAscending (b ∷ more) = All (λ (c : Branch). b.slot ≤ c.slot) more × AreAscending more

-- below the branch's slot the list has these commands, and at the slot the branch's request
pub record Follows (requests : List Submission) (commands : List Command) (l : List Command) (b : Branch) : Type 0 where
  pub request : Submission
  pub there : slice_get requests b.place ≡ Some request
  pub begins : take b.slot l ≡ take b.slot commands
  pub takes : slice_get l b.slot ≡ Some (command.Request request)

-- ---- commands of which there is no choice
-- commands are added that each possible list has, if it begins with the first ones
pub record IsExtended (requests : List Submission) (names : List (Option Name)) (old new : List Command) : Type 0 where
  pub grows : length old ≤ length new
  pub within : length new ≤ length names
  pub keeps : take (length old) new ≡ old
  pub forced : (l : List Command) → IsPossible requests names l → take (length old) l ≡ old → take (length new) l ≡ new

-- of the slot no line tells, or its name is that of requests with several operations
abbrev pub IsStop : List Submission → List (Option Name) → ℕ → Option (ℕ × ℕ) → Type 0
IsStop requests names slot None = slot < length names → slice_get names slot ≡ Some None
IsStop requests names slot (Some key) = (slice_get names slot ≡ Some (Some (Request key.0 key.1)))
    × IsAmbiguous requests key.0 key.1

-- ---- what is left behind
-- the latest contradiction: some list explains the lines before it
abbrev pub IsLatest : List Submission → List (Option Name) → List Question → List ToldLine → Option Contradiction → Type 0
IsLatest requests names questions told None = Unit {0}
IsLatest requests names questions told (Some c) = (c.at < length told) × IsSolved requests names questions (take c.at told)

-- the list doesn't explain the lines up to that one
abbrev pub IsRefuted : List Question → List ToldLine → Option Contradiction → List Command → Type 0
IsRefuted questions told None l = ⊥
IsRefuted questions told (Some c) l = HasAllTold questions (take (c.at + 1) told) l → ⊥

-- a line tells of each slot below this one
abbrev pub AreLearnt : List (Option Name) → ℕ → Type 0
AreLearnt names size = (slot : ℕ) → slot < size → slice_get names slot ≢ Some None

-- of the slot no line tells, and of each below it one does; and commands that end there are open
pub record IsNeededSlot (requests : List Submission) (names : List (Option Name)) (questions : List Question) (told : List ToldLine)
    (slot : ℕ) : Type 0 where
  pub unlearnt : slice_get names slot ≡ Some None
  pub learnt : AreLearnt names slot
  pub commands : List Command
  pub ends_there : length commands ≡ slot
  pub begun : AreBegun requests names commands
  pub open_there : AreOpen questions (length names) told commands

abbrev pub IsUnlearnt : List Submission → List (Option Name) → List Question → List ToldLine → Option ℕ → Type 0
IsUnlearnt requests names questions told None = Unit {0}
IsUnlearnt requests names questions told (Some slot) = IsNeededSlot requests names questions told slot

-- the list is refuted, or is one of a choice that was not tried yet
pub data IsLeft (requests : List Submission) (questions : List Question) (told : List ToldLine) (s : Search) (l : List Command)
    : Type 0 where
  is_refuted : IsRefuted questions told s.latest l → IsLeft requests questions told s l
  is_untried : (b : Branch) → Contains s.untried.items b → Follows requests s.commands.items l b → IsLeft requests questions told s l

-- or it begins with the commands
pub data IsEntered (requests : List Submission) (questions : List Question) (told : List ToldLine) (s : Search) (l : List Command)
    : Type 0 where
  is_left : IsLeft requests questions told s l → IsEntered requests questions told s l
  is_begun : take (length s.commands.items) l ≡ s.commands.items → IsEntered requests questions told s l

-- unless a choice needs a slot of which no line tells, each possible list is so
abbrev pub AreAll : List Submission → List (Option Name) → Option ℕ → (List Command → Type 0) → Type 0
AreAll requests names unlearnt P = unlearnt ≡ None → (l : List Command) → IsPossible requests names l → P l

pub record IsSearch (requests : List Submission) (names : List (Option Name)) (questions : List Question) (told : List ToldLine)
    (s : Search) : Type 0 where
  pub begun : AreBegun requests names s.commands.items
  pub learnt : AreLearnt names (length s.commands.items)
  pub choices : All (IsChoice requests names (length s.commands.items)) s.untried.items
  pub ascending : AreAscending s.untried.items
  pub latest : IsLatest requests names questions told s.latest
  pub unlearnt : IsUnlearnt requests names questions told s.unlearnt

-- a search that is to look at its commands
pub record IsEntering (requests : List Submission) (names : List (Option Name)) (questions : List Question) (told : List ToldLine)
    (s : Search) : Type 0 where
  pub state : IsSearch requests names questions told s
  pub entered : AreAll requests names s.unlearnt (IsEntered requests questions told s)

-- a search that has looked at them
pub record IsLeaving (requests : List Submission) (names : List (Option Name)) (questions : List Question) (told : List ToldLine)
    (s : Search) : Type 0 where
  pub state : IsSearch requests names questions told s
  pub left : AreAll requests names s.unlearnt (IsLeft requests questions told s)

-- ---- what was tried
-- a choice that was tried: commands as far as the names leave no other, which don't explain the lines
pub record IsTried (requests : List Submission) (names : List (Option Name)) (questions : List Question) (told : List ToldLine)
    (commands : List Command) : Type 0 where
  pub begun : AreBegun requests names commands
  pub learnt : AreLearnt names (length commands)
  pub next : Option (ℕ × ℕ)
  pub stops : IsStop requests names (length commands) next
  pub fails : AreNotEnough questions (length names) told commands

-- no list is of both choices
abbrev pub AreApart : List Submission → List Command → Branch → Branch → Type 0
AreApart requests commands b c = (l : List Command) → Follows requests commands l b → ¬ (Follows requests commands l c)

-- so many choices were tried, no two alike, and none is of a choice that is left, which is in their reach
pub record HasTried (requests : List Submission) (names : List (Option Name)) (questions : List Question) (told : List ToldLine)
    (count : ℕ) (commands : List Command) (untried : List Branch) : Type 0 where
  pub choices : List (List Command)
  pub counted : length choices ≡ count
  pub unlike : AllPairs (λ (a b : List Command). a ≢ b) choices
  pub tried : All (IsTried requests names questions told) choices
  pub apart : AllPairs (AreApart requests commands) untried
  pub left : All (λ (b : Branch). All (λ (l : List Command). ¬ (Follows requests commands l b)) choices) untried
  pub in_reach : All (λ (b : Branch). (l : List Command) → Follows requests commands l b
      → IsInReach questions (length names) told choices l) untried

-- and the commands are a further choice in their reach: none of those begins with them, nor does any list of a choice that is left
pub record IsNext (requests : List Submission) (names : List (Option Name)) (questions : List Question) (told : List ToldLine)
    (count : ℕ) (commands : List Command) (untried : List Branch) : Type 0 where
  pub has_tried : HasTried requests names questions told count commands untried
  pub fresh : All (λ (l : List Command). take (length commands) l ≢ commands) has_tried.choices
  pub in_reach : IsInReach questions (length names) told has_tried.choices commands
  pub aside : All (λ (b : Branch). (l : List Command) → take (length commands) l ≡ commands → ¬ (Follows requests commands l b)) untried

-- with a next choice, or with none
abbrev pub AfterStep : List Submission → List (Option Name) → List Question → List ToldLine → Bool → Search → Type 0
AfterStep requests names questions told true s = IsEntering requests names questions told s
AfterStep requests names questions told false s = IsLeaving requests names questions told s

-- the contradiction is of one of the lines
abbrev pub IsWithin : List ToldLine → Option Contradiction → Type 0
IsWithin told None = Unit {0}
IsWithin told (Some c) = c.at < length told

-- ---- the outcome
-- no possible list explains the lines up to the one at this place, and one explains those before
pub record IsLast (requests : List Submission) (names : List (Option Name)) (questions : List Question) (told : List ToldLine)
    (place : Place) : Type 0 where
  pub before : ℕ
  pub line : ToldLine
  pub there : slice_get told before ≡ Some line
  pub at_place : place ≡ line.place
  pub solved : IsSolved requests names questions (take before told)
  pub unsolved : ¬ (IsSolved requests names questions (take (before + 1) told))

-- the slot has the name of these requests, which have several operations
pub record IsUndecided (requests : List Submission) (names : List (Option Name)) (client number : ℕ) : Type 0 where
  pub slot : ℕ
  pub named : slice_get names slot ≡ Some (Some (Request client number))
  pub ambiguous : IsAmbiguous requests client number

-- more than 65,536 choices were tried
pub record HasTriedMany (requests : List Submission) (names : List (Option Name)) (questions : List Question) (told : List ToldLine)
    (commands : List Command) (untried : List Branch) : Type 0 where
  pub count : ℕ
  pub many : 65536 < count
  pub has_tried : HasTried requests names questions told count commands untried

-- more than 65,536 choices were tried, and these commands, which have a request of the client and number, are a further one
pub record AreManyTried (requests : List Submission) (names : List (Option Name)) (questions : List Question) (told : List ToldLine)
    (client number : ℕ) : Type 0 where
  pub count : ℕ
  pub many : 65536 < count
  pub commands : List Command
  pub untried : List Branch
  pub begun : AreBegun requests names commands
  pub learnt : AreLearnt names (length commands)
  pub next : IsNext requests names questions told count commands untried
  pub has_request : Any (λ (c : Command). name_of c ≡ Request client number) commands

abbrev pub IsOutcome : List Submission → List (Option Name) → List Question → List ToldLine → Verdict → Type 0
IsOutcome requests names questions told Explained = IsSolved requests names questions told
IsOutcome requests names questions told (Contradicted place why) = IsLast requests names questions told place
IsOutcome requests names questions told (UnlearntSlot slot) = IsNeededSlot requests names questions told slot
IsOutcome requests names questions told (TwoOperations client number) =
    IsUndecided requests names client number × AreManyTried requests names questions told client number
