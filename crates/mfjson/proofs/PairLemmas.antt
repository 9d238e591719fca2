-- Two lists, element by element.
use Rattle.std.proofs.Common.{List, [], ◌∷◌, ◌++◌}
use Rattle.mfjson.specs.Pairs.{Pairwise}

pub pairwise_push : {A B : Type 0} (R : A → B → Type 0) (xs : List A) (ys : List B) (x : A) (y : B) →
    Pairwise R xs ys → R x y → Pairwise R (xs ++ x ∷ []) (ys ++ y ∷ [])
pairwise_push {A} {B} R [] [] x y p r = (r, tt)
pairwise_push {A} {B} R [] (b ∷ bs) x y p r = absurd p
pairwise_push {A} {B} R (a ∷ xs) [] x y p r = absurd p
pairwise_push {A} {B} R (a ∷ xs) (b ∷ bs) x y p r = (p.0, pairwise_push R xs bs x y p.1 r)
