-- The lists of a document, written piece by piece.
use Rattle.std.proofs.Common.{◌≡◌, ℕ, ℤ, pos, negsuc, ◌+◌, ◌<◌, List, [], ◌∷◌, ◌++◌, length, take, get_or, true, refl, ap, sym, ◌∙◌}
use Rattle.std.proofs.Common.{append_assoc, append-nil}
use Rattle.std.specs.Prelude.{flat_map}
use Rattle.std.specs.Fmt.{signed_decimal}
use Rattle.std.proofs.lemmas.List.{take_more, flat_map_more}
use Rattle.serde_json.specs.Data.{Data}
use Rattle.serde_json.specs.View.{items_of}
use Rattle.serde_json.specs.Find.{of_integer}
use Rattle.serde_json.specs.Written.{compact_text, items_text, number_text}
use Rattle.tpoint.specs.declared.point.Point.{Point}
use Rattle.mfjson.specs.Document.{position}
use Rattle.mfjson.specs.Texts.{Continues, ListsPoints, after_comma, position_text}
use Rattle.mfjson.proofs.PairLemmas.{pairwise_push}

-- nothing yet
pub none_yet : (R : Data → Point → Type 0) (old : List ℕ) → Continues R [] old old
none_yet R old = record { elements = []; pairs = tt; spelling = sym (append-nil old) }

-- one element more
pub one_more : (R : Data → Point → Type 0) (ps : List Point) (i : ℕ) (old mid new : List ℕ) (d : Data) (p : Point) → i < length ps →
    Continues R (take i ps) old mid → R d (get_or ps i p) → new ≡ mid ++ after_comma d → Continues R (take (i + 1) ps) old new
one_more R ps i old mid new d p h before r e =
    record {
      elements = before.elements ++ d ∷ [];
      pairs = rw (take_more ps i p h) (pairwise_push R before.elements (take i ps) d (get_or ps i p) before.pairs r);
      spelling = e ∙ ap (λ s. s ++ after_comma d) before.spelling ∙ flat_map_more after_comma old before.elements d;
    }

-- what follows the first element, and the bracket
follows : (ds : List Data) → items_text true (items_of ds) ≡ flat_map after_comma ds ++ 93 ∷ []
follows [] = refl
follows (d ∷ ds) = ap (λ s. 44 ∷ (compact_text d ++ s)) (follows ds)
    ∙ sym (append_assoc (after_comma d) (flat_map after_comma ds) (93 ∷ []))

-- the whole array
pub all_listed : (R : Data → Point → Type 0) (all : List Point) (p : Point) (ps : List Point) (old mid more new : List ℕ) (d : Data) →
    all ≡ p ∷ ps → R d p → mid ≡ old ++ 91 ∷ compact_text d → Continues R ps mid more → new ≡ more ++ 93 ∷ [] → ListsPoints R all old new
all_listed R all p ps old mid more new d parts r first rest last =
    record {
      elements = d ∷ rest.elements;
      pairs = rw parts (r, rest.pairs);
      spelling =
          last ∙ ap (λ s. s ++ 93 ∷ []) (rest.spelling ∙ ap (λ s. s ++ flat_map after_comma rest.elements) first)
          ∙ append_assoc (old ++ 91 ∷ compact_text d) (flat_map after_comma rest.elements) (93 ∷ [])
          ∙ ap (λ s. (old ++ 91 ∷ compact_text d) ++ s) (sym (follows rest.elements))
          ∙ append_assoc old (91 ∷ compact_text d) (items_text true (items_of rest.elements));
    }

pub none_listed : (R : Data → Point → Type 0) (old new : List ℕ) → new ≡ old ++ 91 ∷ 93 ∷ [] → ListsPoints R [] old new
none_listed R old new e = record { elements = []; pairs = tt; spelling = e }

-- ---- the elements
pub integer_spelled : (z : ℤ) → number_text (of_integer z) ≡ signed_decimal z
integer_spelled (pos n) = refl
integer_spelled (negsuc n) = refl

pub position_spelled : (p : Point) → position_text p ≡ compact_text (position p.x p.y)
position_spelled p = rw (integer_spelled p.x, integer_spelled p.y) (simp append_assoc)
