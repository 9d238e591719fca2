-- What is found in a value before its lists are read.
use Rattle.std.specs.Prelude.{◌≡◌, ℕ, ◌≤◌, ℤ, List, map, codes}
use Rattle.serde_json.specs.Data.{Data, string}
use Rattle.tpoint.specs.declared.interp.Interp.{Interp}
use Rattle.tpoint.specs.declared.point.Point.{Point}
use Rattle.tpoint.specs.declared.faults.SeqFault.{SeqFault}
use Rattle.tpoint.specs.declared.faults.SeqFault.TheVariants as seq_fault
use Rattle.tpoint.specs.Ids.{IsId}
use Rattle.mfjson.specs.declared.fault.MfFault.{MfFault}
use Rattle.mfjson.specs.declared.fault.MfFault.TheVariants.{Coordinates, Empty, TooMany, Order}
use Rattle.tpoint.specs.Interps.{interp_name}
use Rattle.mfjson.specs.Faults.{HasFeatureMembers, SaysFeature, IsMovingPoint, FailsAt, part, elements, geometry}

-- a text that is this id
pub record SaysThisId (d : Data) (id : List ℕ) : Type 0 where
  pub is_text : d ≡ string id
  pub is_id : IsId id

-- a geometry, and the elements of its two arrays
pub record HasLists (g : Data) (times places : List Data) : Type 0 where
  pub is_moving_point : IsMovingPoint g
  pub times_are : times ≡ elements (part (codes "datetimes") g)
  pub places_are : places ≡ elements (part (codes "coordinates") g)

-- the rules of the first six faults are kept, with this id, interpolation and lists
pub record IsOutline (d : Data) (id : List ℕ) (interp : Interp) (times places : List Data) : Type 0
  where
    pub members : HasFeatureMembers d
    pub kind : SaysFeature d
    pub id_is : SaysThisId (part (codes "id") d) id
    pub lists : HasLists (geometry d) times places
    pub interp_is : part (codes "interpolation") (geometry d) ≡ string (interp_name interp)

-- the first element that is no P is at i
pub record FailsFirst (P : Data → Type 0) (ds : List Data) (i : ℕ) : Type 0 where
  pub fails : FailsAt P ds i
  pub before : (k : ℕ) → FailsAt P ds k → i ≤ k

-- the points have these instants, and are at these places
pub record AreTogether (points : List Point) (instants : List ℕ) (places : List (ℤ × ℤ)) : Type 0
  where
    pub when : map (λ (p : Point). p.t) points ≡ instants
    pub where_to : map (λ (p : Point). (p.x, p.y)) points ≡ places

-- what a list of points that is no sequence says of the document
abbrev pub list_fault : SeqFault → MfFault
list_fault seq_fault.Empty = Empty
list_fault seq_fault.TooMany = TooMany
list_fault (seq_fault.NotIncreasing i) = Order i
list_fault (seq_fault.Range i) = Coordinates i
