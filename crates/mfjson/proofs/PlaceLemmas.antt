-- Arrays of two coordinates.
use Rattle.std.proofs.Common.{◌≡◌, ◌↔◌, List, [], ◌∷◌, ℤ, length, None, Some, refl, sym, subst, ◌∙◌}
use Rattle.serde_json.specs.Data.{Data, array, item, no_items}
use Rattle.serde_json.specs.View.{items_of}
use Rattle.mfjson.specs.Faults.{IsPlaceValue, SaysCoordinate}

pub two_items : (ds : List Data) (d e : Data) → items_of ds ≡ item d (item e no_items) → length ds ≡ 2
two_items [] d e same = absurd (cc)
two_items (x ∷ []) d e same = absurd (cc)
two_items (x ∷ y ∷ []) d e same = refl
two_items (x ∷ y ∷ z ∷ ds) d e same = absurd (cc)

first_same : (a b d e : Data) → array (item a (item b no_items)) ≡ array (item d (item e no_items)) → d ≡ a
first_same a b d e same = cc

second_same : (a b d e : Data) → array (item a (item b no_items)) ≡ array (item d (item e no_items)) → e ≡ b
second_same a b d e same = cc

-- what a place says of the two elements
pub says_x : (v a b : Data) → v ≡ array (item a (item b no_items)) → (is : IsPlaceValue v) → SaysCoordinate a is.p.0
says_x v a b e is =
    subst (λ d. SaysCoordinate d is.p.0) (first_same a b is.says.first is.says.second (sym e ∙ is.says.pair)) is.says.says_x

pub says_y : (v a b : Data) → v ≡ array (item a (item b no_items)) → (is : IsPlaceValue v) → SaysCoordinate b is.p.1
says_y v a b e is =
    subst (λ d. SaysCoordinate d is.p.1) (second_same a b is.says.first is.says.second (sym e ∙ is.says.pair)) is.says.says_y

-- a value of which one element is no coordinate is no place
pub no_place : (v d : Data) → ((is : IsPlaceValue v) → (z : ℤ) × SaysCoordinate d z) → ((z : ℤ) → SaysCoordinate d z ↔ (None ≡ Some z))
    → ¬ IsPlaceValue v
no_place v d says none is =
    let said = says is in
    let gone = (none said.0).0 said.1 in
    absurd (cc)
