-- The parts of a value, and what is found under a name.
use Rattle.std.proofs.Common.{◌≡◌, ℕ, List, [], ◌∷◌, Some, None, Option, refl, ap, sym, ◌∙◌}
use Rattle.std.specs.Prelude.{IsSome, unwrap_or}
use Rattle.serde_json.specs.Data.{Data, null, boolean, number, string, array, object, Items, no_items, item}
use Rattle.serde_json.specs.Find.{get, as_array}
use Rattle.serde_json.specs.View.{items_of}
use Rattle.mfjson.specs.Faults.{part, listed, elements, elements_in}

pub listed_back : (ds : List Data) → listed (items_of ds) ≡ ds
listed_back [] = refl
listed_back (d ∷ ds) = ap (λ xs. d ∷ xs) (listed_back ds)

items_back : (ds : Items) → items_of (listed ds) ≡ ds
items_back no_items = refl
items_back (item d ds) = ap (λ xs. item d xs) (items_back ds)

-- what is found under a name is that part
pub part_found : (name : List ℕ) (d x : Data) → get name d ≡ Some x → part name d ≡ x
part_found name d x e = ap (λ o. unwrap_or o null) e

found_some : (o : Option Data) → IsSome o → o ≡ Some (unwrap_or o null)
found_some None h = absurd (cc)
found_some (Some x) h = refl

pub found : (name : List ℕ) (d : Data) → IsSome (get name d) → get name d ≡ Some (part name d)
found name d h = found_some (get name d) h

text_some : (o : Option Data) (text : List ℕ) → unwrap_or o null ≡ string text → o ≡ Some (string text)
text_some None text e = absurd (cc)
text_some (Some x) text e = ap Some e

pub text_found : (name : List ℕ) (d : Data) (text : List ℕ) → part name d ≡ string text → get name d ≡ Some (string text)
text_found name d text e = text_some (get name d) text e

array_some : (o : Option Data) → IsSome (as_array (unwrap_or o null)) → o ≡ Some (array (items_of (elements (unwrap_or o null))))
array_some None h = absurd (cc)
array_some (Some null) h = absurd (cc)
array_some (Some (boolean b)) h = absurd (cc)
array_some (Some (number n)) h = absurd (cc)
array_some (Some (string s)) h = absurd (cc)
array_some (Some (array ds)) h = ap (λ xs. Some (array xs)) (sym (items_back ds))
array_some (Some (object ms)) h = absurd (cc)

pub array_found : (name : List ℕ) (d : Data) → IsSome (as_array (part name d))
    → get name d ≡ Some (array (items_of (elements (part name d))))
array_found name d h = array_some (get name d) h

-- the array that is found under a name
pub array_here : (name : List ℕ) (d x : Data) (ds : Items) → get name d ≡ Some x → as_array x ≡ Some ds → as_array (part name d) ≡ Some ds
array_here name d x ds at is = ap as_array (part_found name d x at) ∙ is

pub elements_here : (name : List ℕ) (d : Data) (ds : List Data) → as_array (part name d) ≡ Some (items_of ds) → elements (part name d) ≡ ds
elements_here name d ds e = ap elements_in e ∙ listed_back ds
