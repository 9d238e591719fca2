-- What a query is answered: the texts, over a database.
use Rattle.std.specs.Prelude.{◌≡◌, ◌⊎◌, ℕ, List, [], ◌∷◌, ◌++◌, codes, decimal, length, map, Bool, true, false, Option, Some, None}
use Rattle.std.specs.Prelude.{MatchOption}
use Rattle.std.specs.List.{flat_map}
use Rattle.tpoint.specs.Moving.{Sequence, At as HasPlace, moment}
use Rattle.tpoint.specs.Extents.{Span, Area}
use Rattle.tpoint.specs.Reduced.{Finds}
use Rattle.tpoint.specs.FracText.{frac_text}
use Rattle.tpoint.specs.declared.frac.Frac.{Frac}
use Rattle.tpoint.specs.declared.interp.Interp.{Interp}
use Rattle.restrict.specs.Cuts.{IsCut, HasNoCut, vertex_of}
use Rattle.predicates.specs.Predicates.{IsEver, IsAlways}
use Rattle.predicates.specs.declared.questions.Tri.{Tri}
use Rattle.predicates.specs.declared.questions.Tri.TheVariants.{Yes, No, None as NoValue}
use Rattle.tpoint.specs.Interps.{interp_name}
use Rattle.mfjson.specs.Document.{IsCanonical}
use Rattle.mfjson.specs.declared.feature.Feature.{Feature}
use Rattle.store.specs.Features.{feature_of}
use Rattle.store.specs.declared.query.Query.{Query}
use Rattle.store.specs.declared.query.Query.TheVariants.{At, Cut, Ever, Always, Within, Get, Count}

-- ---- where a feature is at an instant
abbrev pub value_text : Option (Frac × Frac) → List ℕ
value_text None = codes "none"
value_text (Some v) = frac_text v.0 ++ codes " " ++ frac_text v.1

pub record SaysValue (s : Sequence) (t : ℕ) (text : List ℕ) : Type 0 where
  pub value : Option (Frac × Frac)
  pub found : Finds (HasPlace s (moment t)) value
  pub spelling : text ≡ codes "at " ++ value_text value

-- ---- its cut to a period: interpolation, count, a mark where an end isn't in it, and after a bar each instant with its position
abbrev pub fix_text : ℕ × Frac × Frac → List ℕ
fix_text fix = codes " | " ++ decimal fix.0 ++ codes " " ++ frac_text fix.1 ++ codes " " ++ frac_text fix.2

abbrev pub mark_text : Bool → Bool → List ℕ
mark_text true true = []
mark_text true false = codes " [)"
mark_text false true = codes " (]"
mark_text false false = codes " ()"

abbrev pub part_text : Interp → Bool → Bool → List (ℕ × Frac × Frac) → List ℕ
part_text interp begin_in end_in fixes =
    codes "cut " ++ interp_name interp ++ codes " " ++ decimal (length fixes) ++ mark_text begin_in end_in
    ++ flat_map fix_text fixes

pub record SaysPart (s : Sequence) (p : Span) (text : List ℕ) : Type 0 where
  pub interp : Interp
  pub begin_in : Bool
  pub end_in : Bool
  pub fixes : List (ℕ × Frac × Frac)
  pub is_cut : IsCut s p (record { interp = interp; vertices = map vertex_of fixes; begin_in = begin_in; end_in = end_in })
  pub spelling : text ≡ part_text interp begin_in end_in fixes

pub record SaysNoPart (s : Sequence) (p : Span) (text : List ℕ) : Type 0 where
  pub has_none : HasNoCut s p
  pub spelling : text ≡ codes "cut none"

abbrev pub SaysCut : Sequence → Span → List ℕ → Type 0
SaysCut s p text = SaysPart s p text ⊎ SaysNoPart s p text

-- ---- whether it is ever, or always, in a rectangle
abbrev pub tri_text : Tri → List ℕ
tri_text Yes = codes "yes"
tri_text No = codes "no"
tri_text NoValue = codes "none"

pub record SaysEver (s : Sequence) (p : Span) (r : Area) (text : List ℕ) : Type 0 where
  pub answer : Tri
  pub is_ever : IsEver s p r answer
  pub spelling : text ≡ codes "ever " ++ tri_text answer

pub record SaysAlways (s : Sequence) (p : Span) (r : Area) (text : List ℕ) : Type 0 where
  pub answer : Tri
  pub is_always : IsAlways s p r answer
  pub spelling : text ≡ codes "always " ++ tri_text answer

-- ---- its document
pub record SaysDocument (f : Feature) (text : List ℕ) : Type 0 where
  pub document : List ℕ
  pub canonical : IsCanonical document f
  pub spelling : text ≡ codes "get " ++ document

-- ---- which features are ever in a rectangle
-- the ids of the features of which P holds, in their order
abbrev pub AreIdsOf : (Feature → Type 0) → List Feature → List (List ℕ) → Type 0
AreIdsOf P [] ids = ids ≡ []
AreIdsOf P (f ∷ fs) ids =
    ((rest : List (List ℕ)) × P f × (ids ≡ f.id ∷ rest) × AreIdsOf P fs rest)
    ⊎ ((¬ P f) × AreIdsOf P fs ids)

abbrev pub id_text : List ℕ → List ℕ
id_text id = codes " " ++ id

pub record SaysWithin (fs : List Feature) (p : Span) (r : Area) (text : List ℕ) : Type 0 where
  pub ids : List (List ℕ)
  pub are : AreIdsOf (λ f. IsEver f.seq p r Yes) fs ids
  pub spelling : text ≡ codes "within " ++ decimal (length ids) ++ flat_map id_text ids

-- ---- the answers
-- what is said of the feature that was looked for, and `absent` where there is none
abbrev pub OfKnown : Option Feature → (Feature → Type 0) → List ℕ → Type 0
OfKnown found Says text = MatchOption found (text ≡ codes "absent") Says

abbrev pub IsAnswer : List Feature → Query → List ℕ → Type 0
IsAnswer fs (At id t) text = OfKnown (feature_of fs id) (λ f. SaysValue f.seq t text) text
IsAnswer fs (Cut id p) text = OfKnown (feature_of fs id) (λ f. SaysCut f.seq p text) text
IsAnswer fs (Ever id p r) text = OfKnown (feature_of fs id) (λ f. SaysEver f.seq p r text) text
IsAnswer fs (Always id p r) text = OfKnown (feature_of fs id) (λ f. SaysAlways f.seq p r text) text
IsAnswer fs (Within p r) text = SaysWithin fs p r text
IsAnswer fs (Get id) text = OfKnown (feature_of fs id) (λ f. SaysDocument f text) text
IsAnswer fs Count text = text ≡ codes "count " ++ decimal (length fs)
