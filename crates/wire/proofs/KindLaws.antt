-- The rows of the table of kinds: each is told apart by its version and its byte, and none has too long a body.
use Rattle.std.proofs.Common.{◌≡◌, ℕ, ◌+◌, true, leb, List, [], ◌∷◌, Some, refl}
use Rattle.wire.specs.FrameReading.{is_version, found_among}
use Rattle.wire.specs.Kinds.{BodyField, a_ballot, a_slot, a_command, a_vote, a_refusal, a_promise, a_position, a_part_number, a_part}
use Rattle.wire.specs.Kinds.{version_of, byte_of, fields_of, kinds}
use Rattle.wire.specs.declared.frames.kind.Kind.{Kind}
use Rattle.wire.specs.declared.frames.kind.Kind.TheVariants as kind
use Rattle.wire.specs.declared.frames.part.TheConstants.{PART}

-- how many bytes a field takes at most
abbrev pub most : BodyField → ℕ
most a_ballot = 9
most a_slot = 4
most a_command = 12367
most a_vote = 12380
most a_refusal = 18
most a_promise = 49538
most a_position = 4
most a_part_number = 4
most a_part = 14 + PART

abbrev pub most_in_all : List BodyField → ℕ
most_in_all [] = 0
most_in_all (field ∷ others) = most field + most_in_all others

-- what holds of each row
pub record RowHolds (k : Kind) : Type 0 where
  pub version : is_version (version_of k) ≡ true
  pub found : found_among kinds (version_of k) (byte_of k) ≡ Some k
  pub short : leb (most_in_all (fields_of k)) 49538 ≡ true

pub row_holds : (k : Kind) → RowHolds k
row_holds kind.Promise = record { version = refl; found = refl; short = refl }
row_holds k = record { version = refl; found = refl; short = refl }
