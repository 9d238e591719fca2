-- The requests of a node's clients that may be handed on.
use Rattle.std.specs.Prelude.{◌≡◌, ℕ, ◌==◌, ◌&&◌, ◌≤◌, ◌-◌, Bool, not, ⊤, Option, Some, None, List, [], ◌∷◌, ◌++◌, All, false, length, map, if◌then◌else◌}
use Rattle.std.specs.List.{filter, list_any}
use Rattle.world_model.specs.declared.lists.Replied.{Replied}
use Rattle.serving.specs.declared.hand_on.TheConstants.{HAND_ON_PERIOD}
use Rattle.serving.specs.declared.requests.TheConstants.{HANDED_ON}

pub record RequestState : Type 0 where
  pub client : ℕ
  pub number : ℕ
  -- what is sent: the mark, and the client's line
  pub packet : List ℕ
  -- when it was handed on last, if it was
  pub handed_on : Option ℕ

-- what is sent begins with the mark
abbrev pub is_marked : List ℕ → Bool
is_marked [] = false
is_marked (byte ∷ bytes) = byte == HANDED_ON

-- the client's request of this number
abbrev pub is_request : ℕ → ℕ → RequestState → Bool
is_request client number request = (request.client == client) && (request.number == number)

-- such a request waits
abbrev pub is_known : ℕ → ℕ → List RequestState → Bool
is_known client number requests = list_any (is_request client number) requests

-- a request as it comes
abbrev pub fresh_request : ℕ → ℕ → List ℕ → RequestState
fresh_request client number line =
    record { client = client; number = number; packet = HANDED_ON ∷ line; handed_on = None }

-- one that waits already keeps its place
abbrev pub with_request : ℕ → ℕ → List ℕ → List RequestState → List RequestState
with_request client number line requests =
    if is_known client number requests then requests else requests ++ fresh_request client number line ∷ []

-- it is to be handed on: it never was, or long ago
abbrev pub IsDueAt : ℕ → Option ℕ → Type 0
IsDueAt now None = ⊤
IsDueAt now (Some handed_on) = HAND_ON_PERIOD ≤ now - handed_on

abbrev pub IsDue : ℕ → RequestState → Type 0
IsDue now request = IsDueAt now request.handed_on

-- none is
abbrev pub NoneIsDue : ℕ → List RequestState → Type 0
NoneIsDue now requests = All (λ request. ¬ IsDue now request) requests

-- whose they are and what is sent of them, whenever that was
abbrev pub as_new : RequestState → RequestState
as_new request = record request { handed_on = None }

abbrev pub as_new_all : List RequestState → List RequestState
as_new_all requests = map as_new requests

-- the requests that none of these replies is to
abbrev pub is_replied : List Replied → RequestState → Bool
is_replied replies request = list_any (λ replied. is_request replied.client replied.number request) replies

abbrev pub unreplied : List Replied → List RequestState → List RequestState
unreplied replies requests = filter (λ request. not (is_replied replies request)) requests

-- the first request that is due, which stands at this place, is handed on now; nothing else changes
pub record HandsOnFirst (now place : ℕ) (old new : List RequestState) : Type 0 where
  pub before : List RequestState
  pub request : RequestState
  pub after : List RequestState
  pub was : old ≡ before ++ request ∷ after
  pub at_place : length before ≡ place
  pub waits : All (λ earlier. ¬ IsDue now earlier) before
  pub due : IsDue now request
  pub is : new ≡ before ++ record request { handed_on = Some now } ∷ after
