-- Why bytes are no document: for each fault the rule that is broken, and which fault is told.
use Rattle.std.specs.Prelude.{◌≡◌, ◌≢◌, ◌⊎◌, ℕ, ◌+◌, ◌<◌, ◌≤◌, ℤ, List, [], ◌∷◌, ◌++◌, length, codes, slice_get, Option, Some, None, IsSome}
use Rattle.std.specs.Prelude.{unwrap_or}
use Rattle.std.specs.Fmt.{decimal}
use Rattle.serde_json.specs.Data.{Data, Num, null, number, string, array, Items, no_items, item}
use Rattle.serde_json.specs.Find.{get, as_array, as_i64}
use Rattle.tpoint.specs.declared.interp.Interp.{Interp}
use Rattle.tpoint.specs.declared.seq.TheConstants.{MOST_POINTS}
use Rattle.tpoint.specs.Ids.{IsId}
use Rattle.tpoint.specs.Coordinates.{InRange}
use Rattle.mfjson.specs.declared.fault.MfFault.{MfFault}
use Rattle.mfjson.specs.declared.fault.MfFault.TheVariants.{NotJson, Members, NotFeature, Id, Geometry, Interpolation, Datetime}
use Rattle.mfjson.specs.declared.fault.MfFault.TheVariants.{Coordinates, Lengths, Empty, TooMany, Order, Memory}
use Rattle.tpoint.specs.Interps.{interp_name}
use Rattle.mfjson.specs.Document.{SaysInstant, TextShows, member_count}

-- ---- the parts of a value; where one is missing, null stands for it
abbrev pub part : List ℕ → Data → Data
part name d = unwrap_or (get name d) null

abbrev pub listed : Items → List Data
listed no_items = []
listed (item d ds) = d ∷ listed ds

abbrev pub elements_in : Option Items → List Data
elements_in None = []
elements_in (Some ds) = listed ds

-- the elements of an array; nothing else has any
abbrev pub elements : Data → List Data
elements d = elements_in (as_array d)

abbrev pub geometry : Data → Data
geometry d = part (codes "temporalGeometry") d

abbrev pub datetimes : Data → List Data
datetimes d = elements (part (codes "datetimes") (geometry d))

abbrev pub coordinates : Data → List Data
coordinates d = elements (part (codes "coordinates") (geometry d))

-- ---- the rules
-- an object with exactly three members
pub record HasFeatureMembers (d : Data) : Type 0 where
  pub three : member_count d ≡ 3
  pub kind : IsSome (get (codes "type") d)
  pub id : IsSome (get (codes "id") d)
  pub geometry : IsSome (get (codes "temporalGeometry") d)

abbrev pub SaysFeature : Data → Type 0
SaysFeature d = part (codes "type") d ≡ string (codes "Feature")

-- a text that is an id
pub record SaysId (d : Data) : Type 0 where
  pub text : List ℕ
  pub is_text : d ≡ string text
  pub is_id : IsId text

-- an object with exactly four members, of which one says `MovingPoint` and two are arrays
pub record IsMovingPoint (g : Data) : Type 0 where
  pub four : member_count g ≡ 4
  pub kind : get (codes "type") g ≡ Some (string (codes "MovingPoint"))
  pub interpolation : IsSome (get (codes "interpolation") g)
  pub datetimes : IsSome (as_array (part (codes "datetimes") g))
  pub coordinates : IsSome (as_array (part (codes "coordinates") g))

-- the name of an interpolation
pub record SaysInterp (d : Data) : Type 0 where
  pub interp : Interp
  pub is_name : d ≡ string (interp_name interp)

-- a text that is read as an instant
pub record IsInstantText (d : Data) : Type 0 where
  pub t : ℕ
  pub says : SaysInstant d t

-- a whole number in range
pub record SaysCoordinate (d : Data) (z : ℤ) : Type 0 where
  pub n : Num
  pub is_number : d ≡ number n
  pub whole : as_i64 n ≡ Some z
  pub fits : InRange z

-- an array of these two coordinates
pub record SaysCoordinates (d : Data) (p : ℤ × ℤ) : Type 0 where
  pub first : Data
  pub second : Data
  pub pair : d ≡ array (item first (item second no_items))
  pub says_x : SaysCoordinate first p.0
  pub says_y : SaysCoordinate second p.1

pub record IsPlaceValue (d : Data) : Type 0 where
  pub p : ℤ × ℤ
  pub says : SaysCoordinates d p

-- there is an element at i, and it is no P
pub record FailsAt (P : Data → Type 0) (ds : List Data) (i : ℕ) : Type 0 where
  pub element : Data
  pub here : slice_get ds i ≡ Some element
  pub fails : ¬ P element

-- the element at i is read as the instant t
pub record SaysAt (ds : List Data) (i t : ℕ) : Type 0 where
  pub element : Data
  pub here : slice_get ds i ≡ Some element
  pub says : SaysInstant element t

-- the instant at i is not later than the one before it
pub record FallsAt (ds : List Data) (i : ℕ) : Type 0 where
  pub before : ℕ
  pub next : i ≡ before + 1
  pub t : ℕ
  pub u : ℕ
  pub earlier : SaysAt ds before t
  pub later : SaysAt ds i u
  pub not_later : u ≤ t

-- ---- the table: the value breaks the rule of this fault
abbrev pub Breaks : Data → MfFault → Type 0
Breaks d NotJson = ⊥
Breaks d Members = ¬ HasFeatureMembers d
Breaks d NotFeature = ¬ SaysFeature d
Breaks d Id = ¬ SaysId (part (codes "id") d)
Breaks d Geometry = ¬ IsMovingPoint (geometry d)
Breaks d Interpolation = ¬ SaysInterp (part (codes "interpolation") (geometry d))
Breaks d (Datetime i) = FailsAt IsInstantText (datetimes d) i
Breaks d (Coordinates i) = FailsAt IsPlaceValue (coordinates d) i
Breaks d Lengths = length (datetimes d) ≢ length (coordinates d)
Breaks d Empty = length (datetimes d) ≡ 0
Breaks d TooMany = MOST_POINTS < length (datetimes d)
Breaks d (Order i) = FallsAt (datetimes d) i
Breaks d Memory = ⊥

-- ---- which fault is told
abbrev pub code_of : MfFault → ℕ
code_of NotJson = 1
code_of Members = 2
code_of NotFeature = 3
code_of Id = 4
code_of Geometry = 5
code_of Interpolation = 6
code_of (Datetime i) = 7
code_of (Coordinates i) = 8
code_of Lengths = 9
code_of Empty = 10
code_of TooMany = 11
code_of (Order i) = 12
code_of Memory = 13

-- the index that a fault tells
abbrev pub index_of : MfFault → Option ℕ
index_of (Datetime i) = Some i
index_of (Coordinates i) = Some i
index_of (Order i) = Some i
index_of _ = None

-- what is printed of a fault
abbrev pub fault_text : MfFault → List ℕ
fault_text NotJson = codes "the bytes are no JSON text"
fault_text Members = codes "the value hasn't exactly a feature's members"
fault_text NotFeature = codes "the type is not Feature"
fault_text Id = codes "the id is no id"
fault_text Geometry = codes "the geometry is no moving point's"
fault_text Interpolation = codes "the interpolation is unknown"
fault_text (Datetime i) = codes "datetime " ++ (decimal i ++ codes " is none")
fault_text (Coordinates i) = codes "coordinates " ++ (decimal i ++ codes " are no whole numbers in range")
fault_text Lengths = codes "there are not as many datetimes as coordinates"
fault_text Empty = codes "there are no datetimes"
fault_text TooMany = codes "there are too many datetimes"
fault_text (Order i) = codes "datetime " ++ (decimal i ++ codes " is not later than the one before it")
fault_text Memory = codes "out of memory"

abbrev pub place_of : MfFault → ℕ
place_of fault = unwrap_or (index_of fault) 0

-- its number is lower, or it has the same number and its index is lower
abbrev pub IsBefore : MfFault → MfFault → Type 0
IsBefore a b = (code_of a < code_of b) ⊎
    ((code_of a ≡ code_of b) × (place_of a < place_of b))

-- of the rules that the value breaks, this is the first
pub record IsFirstBroken (d : Data) (fault : MfFault) : Type 0 where
  pub broken : Breaks d fault
  pub first : (other : MfFault) → Breaks d other → ¬ IsBefore other fault

-- the fault of bytes that are no document; memory may be refused at any of them
abbrev pub IsFaultOf : List ℕ → MfFault → Type 0
IsFaultOf text NotJson = (d : Data) → ¬ TextShows text d
IsFaultOf text Memory = Unit {0}
IsFaultOf text fault = (d : Data) × TextShows text d × IsFirstBroken d fault
