-- Texts that are added one behind another.
use Rattle.std.proofs.Common.{◌≡◌, ◌∙◌, ◌++◌, ℕ, List, [], ap, append_assoc}

-- to nothing
pub four_parts : (a b c d start one two three four : List ℕ) → start ≡ [] → one ≡ start ++ a → two ≡ one ++ b → three ≡ two ++ c
    → four ≡ three ++ d → four ≡ a ++ b ++ c ++ d
four_parts a b c d start one two three four e p q r s =
    s ∙ ap (λ (l : List ℕ). l ++ d) (r ∙ ap (λ (l : List ℕ). l ++ c) (q ∙ ap (λ (l : List ℕ). l ++ b) (p ∙ ap (λ (l : List ℕ). l ++ a) e)))

two_parts : (start a b one two : List ℕ) → one ≡ start ++ a → two ≡ one ++ b → two ≡ start ++ (a ++ b)
two_parts start a b one two p q = q ∙ ap (λ (l : List ℕ). l ++ b) p ∙ append_assoc start a b

-- to what is there
pub five_parts : (start a b c d e one two three four five : List ℕ) → one ≡ start ++ a → two ≡ one ++ b → three ≡ two ++ c
    → four ≡ three ++ d → five ≡ four ++ e → five ≡ start ++ (a ++ b ++ c ++ d ++ e)
five_parts start a b c d e one two three four five p q r s t =
    two_parts start (a ++ b ++ c ++ d) e four five
    (two_parts start (a ++ b ++ c) d three four (two_parts start (a ++ b) c two three (two_parts start a b one two p q) r) s) t
