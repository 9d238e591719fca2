-- What a node fetches that missed what the others have forgotten: the snapshot text of a checkpoint, part by part.
use Rattle.std.specs.Prelude.{ℕ, zero, ◌==◌, ◌&&◌, ◌||◌, not, nat_lt, Bool, true, false, if◌then◌else◌}
use Rattle.std.specs.Prelude.{List, [], length, replicate, take_while, slice_get, slice_set, Option, Some, None, is_some, unwrap_or}
use Rattle.wire.specs.Parts.{Piece, parts_in, joined}
use Rattle.wire.specs.declared.frames.message.Message.{Message}
use Rattle.wire.specs.declared.frames.message.Message.TheVariants.{SnapPart}

pub record Fetching : Type 0 where
  -- the position of the checkpoint
  pub target : ℕ
  -- how many bytes its text has, as the parts that are held say; 0 while none is
  pub total : ℕ
  -- the parts by their numbers, where they are held; there are no places before the first has come
  pub held : List (Option Piece)

-- nothing of it is held yet
abbrev pub nothing_of : ℕ → Fetching
nothing_of target = record { target = target; total = zero; held = [] }

-- ---- which floors are worth fetching
abbrev pub is_above_target : Option Fetching → ℕ → Bool
is_above_target None floor = true
is_above_target (Some f) floor = nat_lt f.target floor

-- what is left to fetch for a node at this position: a target that is reached is given up
abbrev pub still_fetched : ℕ → Option Fetching → Option Fetching
still_fetched position None = None
still_fetched position (Some f) = if nat_lt position f.target then Some f else None

-- ---- which parts count
abbrev pub is_there : Option (Option Piece) → Bool
is_there None = false
is_there (Some part) = is_some part

-- the part of this number is held
abbrev pub is_held : Fetching → ℕ → Bool
is_held f number = is_there (slice_get f.held number)

-- its text is as long as those of the parts that are held
abbrev pub is_as_long : Fetching → Piece → Bool
is_as_long f p = f.total == zero || f.total == p.total

-- it is of the checkpoint that is fetched, as long as the others, and not held yet
abbrev pub is_wanted : Fetching → Piece → Bool
is_wanted f p = p.position == f.target && (is_as_long f p && not (is_held f p.number))

-- what is fetched by a node at this position wants the part
abbrev pub wants : Option Fetching → ℕ → Piece → Bool
wants None position p = false
wants (Some f) position p = nat_lt position f.target && is_wanted f p

-- ---- a part that counts is held
-- as many places as the text has parts
abbrev pub places : Fetching → ℕ → List (Option Piece)
places f total = if f.total == zero then replicate (parts_in total) None else f.held

abbrev pub with_part : Fetching → Piece → Fetching
with_part f p = record f { total = p.total; held = slice_set (places f p.total) p.number (Some p) }

-- how many parts are held before the first that is missing: its number
abbrev pub first_missing : Fetching → ℕ
first_missing f = length (take_while is_some f.held)

-- the lowest number of a part that is missing, if one is
abbrev pub missing : Fetching → Option ℕ
missing f = if nat_lt (first_missing f) (length f.held) then Some (first_missing f) else None

-- the part that is asked for next: the lowest that is missing, and the first while there are no places
abbrev pub next_part : Fetching → ℕ
next_part f = unwrap_or (missing f) zero

-- ---- the text that the parts make, once this message has brought its own
abbrev pub text_with : Option Fetching → Message → List ℕ
text_with (Some f) (SnapPart p) = joined (with_part f p).held
text_with f other = []
