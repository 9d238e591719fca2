-- The index of a cluster: of the frames of a run the lowest with each spelling.
use Rattle.std.specs.Prelude.{◌≡◌, ◌≢◌, ℕ, ◌<◌, ◌≤◌, List, length, map, nat_eq, slice_get, Option, Some, None}
use Rattle.std.specs.Cmp.Lexicographic.{pointwise}
use Rattle.std.specs.Global.{Vec}
use Rattle.std.specs.HashMap.{HashMap, get_by}
use Rattle.wire.specs.FrameSpelling.{spelling}
use Rattle.wire.specs.declared.frames.envelope.Envelope.{Envelope}

-- the frames as their bytes
abbrev pub spellings : List Envelope → List (List ℕ)
spellings frames = map spelling frames

-- what the map has for these bytes
abbrev pub number_of : {S : Type 0} → HashMap (Vec ℕ) ℕ S → List ℕ → Option ℕ
number_of numbers bytes = get_by (λ key. pointwise nat_eq bytes key.items) numbers

-- none of the first so many is this
abbrev pub NoneBelow : List (List ℕ) → List ℕ → ℕ → Type 0
NoneBelow spelled bytes end = (i : ℕ) → i < end → slice_get spelled i ≢ Some bytes

-- the k-th is this, and none below it
pub record IsFirstSpelled (spelled : List (List ℕ)) (bytes : List ℕ) (k : ℕ) : Type 0 where
  pub here : slice_get spelled k ≡ Some bytes
  pub first : NoneBelow spelled bytes k

-- the map has of the first so many the lowest with these bytes, and nothing else
pub record Indexes {S : Type 0} (spelled : List (List ℕ)) (numbers : HashMap (Vec ℕ) ℕ S) (indexed : ℕ) : Type 0 where
  pub within : indexed ≤ length spelled
  pub found : (bytes : List ℕ) (k : ℕ) → number_of numbers bytes ≡ Some k → IsFirstSpelled spelled bytes k
  pub absent : (bytes : List ℕ) → number_of numbers bytes ≡ None → NoneBelow spelled bytes indexed
