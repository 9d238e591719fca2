-- Places for the parts of a text that is fetched.
use Rattle.std.specs.Prelude.{◌≡◌, ◌≤◌, ℕ, List, length, Option}
use Rattle.wire.specs.Parts.{Piece, parts_in}
use Rattle.wire.specs.declared.frames.part.TheConstants.{MOST_PARTS}

-- once it is known how long the text is there are as many as it has parts, and never too many
pub record IsInPlaces (total : ℕ) (held : List (Option Piece)) : Type 0 where
  pub few : length held ≤ MOST_PARTS
  pub begun : 1 ≤ total → length held ≡ parts_in total
