-- What a value says whose tokens stand at some place of a text.
use Rattle.std.specs.Prelude.{◌≡◌, ℕ, ◌≤◌, ℤ, Bool, List, [], ◌∷◌, codes, Option, Some, length, FitsSigned}
use Rattle.std.specs.Int.{w64}
use Rattle.fast_float.specs.Text.{Parts, IsInteger, digits_of, with_sign}
use Rattle.json.specs.Token.{Token}
use Rattle.json.specs.Json as json
use Rattle.json.specs.Tree as tree
use Rattle.json.specs.Find as find
use Rattle.json.specs.Find.{BeginsWith}
use Rattle.json.specs.Strict.{keys}
use Rattle.serde_json.specs.Data.{Data, Num, string, array}
use Rattle.serde_json.specs.Find.{as_i64}
use Rattle.serde_json.specs.Read.{of_json}
use Rattle.serde_json.specs.View.{items_of}
use Rattle.tpoint.specs.declared.interp.Interp.{Interp}
use Rattle.tpoint.specs.Interps.{interp_name}
use Rattle.mfjson.specs.Pairs.{Pairwise}
use Rattle.mfjson.specs.Document.{SaysInstant}
use Rattle.mfjson.specs.Faults.{SaysCoordinates, part}
use Rattle.mfjson.specs.Outline.{HasLists}

-- the value of the grammar is read as d, and arrays and objects nest in it no deeper than n
pub record Means (n : ℕ) (j : json.Json) (d : Data) : Type 0 where
  pub read : of_json j ≡ Some d
  pub nests : tree.depth j ≤ n

-- what the value is read as that the tokens begin with, and what it says, by R
pub record ValueIsTold {X : Type 0} (n : ℕ) (R : Data → X → Type 0) (j : json.Json) (x : X) : Type 0 where
  pub value : Data
  pub means : Means n j value
  pub says : R value x

-- the value that the tokens begin with says x
pub record TokensSay {X : Type 0} (n : ℕ) (R : Data → X → Type 0) (ts : List Token) (x : X) : Type 0 where
  pub told : (j : json.Json) → BeginsWith ts j → ValueIsTold n R j x

-- the member of that name, and what it says
pub record Member {X : Type 0} (n : ℕ) (R : Data → X → Type 0) (j : json.Json) (name : List ℕ) (x : X) : Type 0 where
  pub value : json.Json
  pub here : find.get name j ≡ Some value
  pub told : ValueIsTold n R value x

-- the member of that name, of the value that the tokens begin with, says x
pub record HasMember {X : Type 0} (n : ℕ) (R : Data → X → Type 0) (name : List ℕ) (ts : List Token) (x : X) : Type 0 where
  pub told : (j : json.Json) → BeginsWith ts j → Member n R j name x

abbrev pub IsText : Data → List ℕ → Type 0
IsText d text = d ≡ string text

-- a number that is whole and fits 64 bits
pub record IsWhole (number : Option Num) (z : ℤ) : Type 0 where
  pub n : Num
  pub is_number : number ≡ Some n
  pub whole : as_i64 n ≡ Some z

-- the numeral is whole digits, and z their number with this sign, which fits 64 bits
pub record IsSigned (minus : Bool) (p : Parts) (z : ℤ) : Type 0 where
  pub integer : IsInteger p
  pub fits : FitsSigned w64 (with_sign minus (digits_of p))
  pub value : z ≡ with_sign minus (digits_of p)

-- an array whose elements say these, one after another
pub record SaysEach {X : Type 0} (R : Data → X → Type 0) (d : Data) (xs : List X) : Type 0 where
  pub elements : List Data
  pub is_array : d ≡ array (items_of elements)
  pub each : Pairwise R elements xs

-- the items begin with some whose tokens are read as these, one after another, and then come the rest
abbrev pub ItemsAreRead : {X : Type 0} → (List Token → X → Type 0) → json.Items → List X → json.Items → Type 0
ItemsAreRead Reads all [] rest = all ≡ rest
ItemsAreRead Reads json.no_items (x ∷ xs) rest = ⊥
ItemsAreRead Reads (json.item j js) (x ∷ xs) rest = ((ts : List Token) × BeginsWith ts j × Reads ts x) × ItemsAreRead Reads js xs rest

-- an array whose elements are read as these, one after another
pub record IsReadEach {X : Type 0} (Reads : List Token → X → Type 0) (ts : List Token) (xs : List X) : Type 0 where
  pub read : (j : json.Json) → BeginsWith ts j → (all : json.Items) × (j ≡ json.array all) × ItemsAreRead Reads all xs json.no_items

-- an object of so many members
pub record HasCount (n : ℕ) (j : json.Json) : Type 0 where
  pub members : json.Members
  pub is_object : j ≡ json.object members
  pub count : length (keys members) ≡ n

pub record HasMembers (n : ℕ) (ts : List Token) : Type 0 where
  pub counted : (j : json.Json) → BeginsWith ts j → HasCount n j

-- the geometry of a moving point: its interpolation, its instants and its places
pub record SaysCourse (d : Data) (interp : Interp) (instants : List ℕ) (places : List (ℤ × ℤ)) : Type 0 where
  pub times : List Data
  pub coordinates : List Data
  pub lists : HasLists d times coordinates
  pub named : part (codes "interpolation") d ≡ string (interp_name interp)
  pub when : Pairwise SaysInstant times instants
  pub where_to : Pairwise SaysCoordinates coordinates places
