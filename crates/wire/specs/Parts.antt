-- Parts of a snapshot text: it travels in pieces of one length, the last as long as what is left.
use Rattle.std.specs.Prelude.{◌≡◌, ℕ, ◌+◌, ◌-◌, ◌*◌, ◌/◌, ◌<◌, ◌≤◌, ◌&&◌, min, Bool, nat_le, nat_lt}
use Rattle.std.specs.Prelude.{List, [], ◌∷◌, ◌++◌, length, take, drop, Option, Some, None, if◌then◌else◌}
use Rattle.synod.specs.declared.slot.TheConstants.{SLOTS}
use Rattle.sessions.specs.declared.snapshot.TheConstants.{LONGEST_SNAPSHOT}
use Rattle.wire.specs.declared.frames.part.TheConstants.{PART, MOST_PARTS}

-- a checkpoint may stand here: behind at least one entry of the log
pub record IsPosition (position : ℕ) : Type 0 where
  pub from_one : 1 ≤ position
  pub in_log : position ≤ SLOTS

-- parts are numbered from 0, and the longest text has this many
abbrev pub IsPartNumber : ℕ → Type 0
IsPartNumber number = number < MOST_PARTS

-- part `number` of the text of a checkpoint at the position, which has so many bytes in all
pub record Piece : Type 0 where
  pub position : ℕ
  pub total : ℕ
  pub number : ℕ
  pub bytes : List ℕ

-- the place in the text at which a part begins
abbrev pub offset_of : ℕ → ℕ
offset_of number = PART * number

-- a text may have so many bytes
abbrev pub is_total : ℕ → Bool
is_total total = nat_le 4 total && nat_le total LONGEST_SNAPSHOT

-- it is a part of some text: it begins within the text, and only the last is short
pub record IsPiece (p : Piece) : Type 0 where
  pub position : IsPosition p.position
  pub least : 4 ≤ p.total
  pub most : p.total ≤ LONGEST_SNAPSHOT
  pub begins : offset_of p.number < p.total
  pub whole : length p.bytes ≡ min PART (p.total - offset_of p.number)

-- the part of this number of a text
abbrev pub piece : ℕ → List ℕ → ℕ → Piece
piece position text number = record {
  position = position;
  total = length text;
  number = number;
  bytes = take PART (drop (offset_of number) text);
}

-- the same, where the text has such a part
abbrev pub has_part : List ℕ → ℕ → Bool
has_part text number = is_total (length text) && nat_lt (offset_of number) (length text)

abbrev pub piece_of : ℕ → List ℕ → ℕ → Option Piece
piece_of position text number = if has_part text number then Some (piece position text number) else None

-- ---- a text from its parts
-- how many parts a text of so many bytes has
abbrev pub parts_in : ℕ → ℕ
parts_in total = (total + PART - 1) / PART

-- the bytes of those that are there, one behind the other
abbrev pub joined : List (Option Piece) → List ℕ
joined [] = []
joined (None ∷ held) = joined held
joined (Some p ∷ held) = p.bytes ++ joined held
