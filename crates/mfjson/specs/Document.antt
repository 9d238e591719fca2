-- What a JSON value stands for, and the canonical document of a feature.
use Rattle.std.specs.Prelude.{◌≡◌, ℕ, ℤ, List, codes, Option, Some, None, IsUtf8}
use Rattle.serde_json.specs.Data.{Data, number, string, array, object, item, no_items, Members, member, no_members}
use Rattle.serde_json.specs.Find.{get, as_i64, as_object, of_integer}
use Rattle.serde_json.specs.Read.{read as read_text}
use Rattle.serde_json.specs.View.{items_of}
use Rattle.serde_json.specs.Events.{members_len}
use Rattle.serde_json.specs.Written.{compact_text}
use Rattle.serde_json.specs.Data.{Num}
use Rattle.tpoint.specs.declared.point.Point.{Point}
use Rattle.tpoint.specs.Ids.{IsId}
use Rattle.tpoint.specs.Interps.{interp_name}
use Rattle.tpoint.specs.Moving.{IsValid}
use Rattle.mfjson.specs.declared.feature.Feature.{Feature}
use Rattle.mfjson.specs.Datetime.{IsDatetime, ReadsAs}
use Rattle.mfjson.specs.Pairs.{Pairwise}

-- how many members an object has; nothing else has any
abbrev pub count_in : Option Members → ℕ
count_in None = 0
count_in (Some ms) = members_len ms

abbrev pub member_count : Data → ℕ
member_count d = count_in (as_object d)

-- the value is a text that may be read as the instant t
pub record SaysInstant (d : Data) (t : ℕ) : Type 0 where
  pub text : List ℕ
  pub is_text : d ≡ string text
  pub read : ReadsAs text t

abbrev pub SaysWhen : Data → Point → Type 0
SaysWhen d p = SaysInstant d p.t

-- the value is an array of two coordinates, each a whole number
pub record SaysPlace (d : Data) (px py : ℤ) : Type 0 where
  pub x : Num
  pub y : Num
  pub pair : d ≡ array (item (number x) (item (number y) no_items))
  pub x_is : as_i64 x ≡ Some px
  pub y_is : as_i64 y ≡ Some py

abbrev pub SaysWhere : Data → Point → Type 0
SaysWhere d p = SaysPlace d p.x p.y

-- the value is the geometry of a moving point with exactly four members
pub record IsGeometry (d : Data) (f : Feature) : Type 0 where
  pub times : List Data
  pub places : List Data
  pub four_members : member_count d ≡ 4
  pub kind : get (codes "type") d ≡ Some (string (codes "MovingPoint"))
  pub datetimes : get (codes "datetimes") d ≡ Some (array (items_of times))
  pub coordinates : get (codes "coordinates") d ≡ Some (array (items_of places))
  pub interpolation : get (codes "interpolation") d ≡ Some (string (interp_name f.seq.interp))
  pub when : Pairwise SaysWhen times f.seq.points
  pub where_to : Pairwise SaysWhere places f.seq.points

-- the value stands for the feature: an object with exactly three members
pub record IsFeatureValue (d : Data) (f : Feature) : Type 0 where
  pub geometry : Data
  pub three_members : member_count d ≡ 3
  pub kind : get (codes "type") d ≡ Some (string (codes "Feature"))
  pub id : get (codes "id") d ≡ Some (string f.id)
  pub temporal_geometry : get (codes "temporalGeometry") d ≡ Some geometry
  pub is_geometry : IsGeometry geometry f
  pub id_is : IsId f.id
  pub seq_is : IsValid f.seq

-- the bytes are a JSON text, in UTF-8, and this is its value
pub record TextShows (text : List ℕ) (d : Data) : Type 0 where
  pub utf8 : IsUtf8 text
  pub read : read_text text ≡ Some d

-- the bytes are the text of a value that stands for the feature
pub record IsDocumentOf (text : List ℕ) (f : Feature) : Type 0 where
  pub value : Data
  pub shown : TextShows text value
  pub stands : IsFeatureValue value f

-- and not of another feature
abbrev pub IsDocumentOfNoOther : List ℕ → Feature → Type 0
IsDocumentOfNoOther text f = (other : Feature) → IsDocumentOf text other → other ≡ f

-- ---- the canonical document: compact, its members in byte order, its datetimes with three digits
pub record WritesWhen (d : Data) (p : Point) : Type 0 where
  pub text : List ℕ
  pub is_text : d ≡ string text
  pub is_datetime : IsDatetime text p.t

abbrev pub position : ℤ → ℤ → Data
position x y = array (item (number (of_integer x)) (item (number (of_integer y)) no_items))

abbrev pub WritesWhere : Data → Point → Type 0
WritesWhere d p = d ≡ position p.x p.y

abbrev pub canonical : List ℕ → List ℕ → List Data → List Data → Data
canonical id interpolation times places =
    object (member (codes "id") (string id)
    (member (codes "temporalGeometry") (object
    (member (codes "coordinates") (array (items_of places))
    (member (codes "datetimes") (array (items_of times))
    (member (codes "interpolation") (string interpolation)
    (member (codes "type") (string (codes "MovingPoint")) no_members)))))
    (member (codes "type") (string (codes "Feature")) no_members)))

pub record IsCanonical (text : List ℕ) (f : Feature) : Type 0 where
  pub times : List Data
  pub places : List Data
  pub when : Pairwise WritesWhen times f.seq.points
  pub where_to : Pairwise WritesWhere places f.seq.points
  pub compact : text ≡ compact_text (canonical f.id (interp_name f.seq.interp) times places)
