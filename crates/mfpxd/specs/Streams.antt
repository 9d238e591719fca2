-- What streams of bytes do.
use Rattle.std.specs.Prelude.{◌≡◌, ◌==◌, ◌+◌, ◌<◌, ◌≤◌, ℕ, Bool, List, ◌∷◌, ◌++◌, All, Option, length, false, take, ⊤}
use Rattle.std.specs.Io.KnownBytes.{Appends}
use Rattle.mfpxd.specs.declared.reading.Found.{Found}
use Rattle.mfpxd.specs.declared.reading.Found.TheVariants.{Bytes}
use Rattle.mfpxd.specs.declared.inbox.TheConstants.{LONGEST_LINE}

-- ---- to a stream
-- of what waited, the front was written, and the rest waits on; the stream holds what it held, and the front behind it
pub record Writes (waited waits : List ℕ) (held holds : Option (List ℕ)) : Type 0 where
  pub front : List ℕ
  pub parts : waited ≡ front ++ waits
  pub written : Appends held holds front

-- ---- from a stream
-- what a read that found this many bytes says of the room that it was given
abbrev pub ReadsSome : Found → ℕ → Type 0
ReadsSome (Bytes count) room = (1 ≤ count) × (count ≤ room)
ReadsSome _ room = ⊤

-- ---- from a stream, as lines
-- a line feed
abbrev pub FEED : ℕ
FEED = 10

abbrev pub is_feed : ℕ → Bool
is_feed byte = byte == FEED

-- none of the bytes is a line feed
abbrev pub HasNoFeed : List ℕ → Type 0
HasNoFeed = All (λ byte. is_feed byte ≡ false)

-- the bytes begin with this line, and these follow its line feed
pub record IsFirstLine (bytes line rest : List ℕ) : Type 0 where
  pub parts : bytes ≡ line ++ FEED ∷ rest
  pub is_one : HasNoFeed line

-- not all of the next line is there, and it may still end in time
pub record HasNoLine (bytes : List ℕ) : Type 0 where
  pub has_no_feed : HasNoFeed bytes
  pub fits : length bytes ≤ LONGEST_LINE

-- the next line is longer than any: its first bytes, one more than a line may have, are there, and none is a line feed
pub record IsTooLong (bytes : List ℕ) : Type 0 where
  pub is_there : LONGEST_LINE < length bytes
  pub has_no_feed : HasNoFeed (take (LONGEST_LINE + 1) bytes)
