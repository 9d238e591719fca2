-- Bytes that are pushed one part after the other.
use Rattle.std.proofs.Common.{◌≡◌, ℕ, List, ◌++◌, Result, Ok, Err, OnOk, ap, ◌∙◌, append_assoc}

-- where the first part is there, and the last call puts the rest behind it, it is the whole
pub after_push : {X E : Type 0} (r : Result X E) (start middle end first rest : List ℕ) → middle ≡ start ++ first
    → OnOk r (end ≡ middle ++ rest) → OnOk r (end ≡ start ++ (first ++ rest))
after_push (Ok x) start middle end first rest e h = h ∙ ap (λ (bytes : List ℕ). bytes ++ rest) e ∙ append_assoc start first rest
after_push (Err e) start middle end first rest pushed h = tt
