-- What is written of the lists in a document, piece by piece.
use Rattle.std.specs.Prelude.{◌≡◌, List, ◌∷◌, ◌++◌, ℕ, codes, flat_map}
use Rattle.std.specs.Fmt.{signed_decimal}
use Rattle.serde_json.specs.Data.{Data, array}
use Rattle.serde_json.specs.View.{items_of}
use Rattle.serde_json.specs.Written.{compact_text}
use Rattle.tpoint.specs.declared.point.Point.{Point}
use Rattle.mfjson.specs.declared.feature.Feature.{Feature}
use Rattle.mfjson.specs.Pairs.{Pairwise}
use Rattle.mfjson.specs.Document.{IsCanonical, IsDocumentOf}

-- [x,y]
abbrev pub position_text : Point → List ℕ
position_text p = codes "[" ++ signed_decimal p.x ++ codes "," ++ signed_decimal p.y ++ codes "]"

abbrev pub after_comma : Data → List ℕ
after_comma d = 44 ∷ compact_text d

-- the new text is the old one, and after it elements that stand for the points as R says, each after a comma
pub record Continues (R : Data → Point → Type 0) (ps : List Point) (old new : List ℕ) : Type 0 where
  pub elements : List Data
  pub pairs : Pairwise R elements ps
  pub spelling : new ≡ old ++ flat_map after_comma elements

-- the new text is the old one, and after it the array of such elements
pub record ListsPoints (R : Data → Point → Type 0) (ps : List Point) (old new : List ℕ) : Type 0 where
  pub elements : List Data
  pub pairs : Pairwise R elements ps
  pub spelling : new ≡ old ++ compact_text (array (items_of elements))

-- the text begins in this way, and the rest is the feature's canonical document
pub record IsWrittenAfter (start text : List ℕ) (f : Feature) : Type 0 where
  pub document : List ℕ
  pub spelling : text ≡ start ++ document
  pub canonical : IsCanonical document f
  pub of_this : IsDocumentOf document f
