-- Two lists, element by element.
use Rattle.std.specs.Prelude.{List, [], ◌∷◌}

-- the lists are as long as one another, and R holds of the elements at each place
abbrev pub Pairwise : {A B : Type 0} → (A → B → Type 0) → List A → List B → Type 0
Pairwise R [] [] = Unit {0}
Pairwise R [] (b ∷ bs) = ⊥
Pairwise R (a ∷ rest) [] = ⊥
Pairwise R (a ∷ rest) (b ∷ bs) = R a b × Pairwise R rest bs
