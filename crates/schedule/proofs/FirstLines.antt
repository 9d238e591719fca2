-- The first line of a run: its three texts, each with its size.
use Rattle.std.proofs.Common.{◌≡◌, ◌⊎◌, ◌↔◌, ℕ, ◌<◌, ◌≤◌, ◌+◌, List, ◌∷◌, ◌++◌, [], length, get_or, Option, None, Some, IsSome, IfSome}
use Rattle.std.proofs.Common.{MatchOption, codes, drop, drop-cons, refl, sym, ◌∙◌, ap, subst, inl, inr, arith}
use Rattle.std.specs.Fmt.{decimal}
use Rattle.std.proofs.lemmas.Grind.{common_steps}
use Rattle.std.proofs.lemmas.Fmt.{decimal_digit, decimal_injective}
use Rattle.schedule.specs.Lines.{NumberedText}
use Rattle.schedule.specs.Table.{IsNodesLine, IsRunSize}

pub small_size : (n : ℕ) → IsRunSize n → n ≤ 7
small_size n (inl three) = omega (arith, three)
small_size n (inr (inl five)) = omega (arith, five)
small_size n (inr (inr seven)) = omega (arith, seven)

-- ---- what is spelled
spelled_three : codes "nodes " ++ decimal 3 ≡ codes "nodes 3"
spelled_three = ap (λ digits. codes "nodes " ++ digits) (decimal_digit 3 (omega arith))

spelled_five : codes "nodes " ++ decimal 5 ≡ codes "nodes 5"
spelled_five = ap (λ digits. codes "nodes " ++ digits) (decimal_digit 5 (omega arith))

spelled_seven : codes "nodes " ++ decimal 7 ≡ codes "nodes 7"
spelled_seven = ap (λ digits. codes "nodes " ++ digits) (decimal_digit 7 (omega arith))

-- the three texts are right
pub of_three : (text : List ℕ) → text ≡ codes "nodes 3" → IsNodesLine text 3
of_three text same = record { size = inl refl; spelled = same ∙ sym spelled_three }

pub of_five : (text : List ℕ) → text ≡ codes "nodes 5" → IsNodesLine text 5
of_five text same = record { size = inr (inl refl); spelled = same ∙ sym spelled_five }

pub of_seven : (text : List ℕ) → text ≡ codes "nodes 7" → IsNodesLine text 7
of_seven text same = record { size = inr (inr refl); spelled = same ∙ sym spelled_seven }

-- a text is known by its seven bytes
from_byte : (text rest : List ℕ) (k byte : ℕ) → k < length text → get_or text k 0 ≡ byte → drop (k + 1) text ≡ rest
    → drop k text ≡ byte ∷ rest
from_byte text rest k byte within at after = grind (arith, drop-cons)

pub seven_bytes : (text : List ℕ) (a b c d e f g : ℕ) → length text ≡ 7 → get_or text 0 0 ≡ a → get_or text 1 0 ≡ b
    → get_or text 2 0 ≡ c → get_or text 3 0 ≡ d → get_or text 4 0 ≡ e → get_or text 5 0 ≡ f → get_or text 6 0 ≡ g
    → text ≡ a ∷ b ∷ c ∷ d ∷ e ∷ f ∷ g ∷ []
seven_bytes text a b c d e f g long p q r s t u v =
    let none : drop 7 text ≡ [] = grind (arith, common_steps) in
    from_byte text _ 0 a (omega (arith, long)) p (from_byte text _ 1 b (omega (arith, long)) q
    (from_byte text _ 2 c (omega (arith, long)) r (from_byte text _ 3 d (omega (arith, long)) s
    (from_byte text _ 4 e (omega (arith, long)) t (from_byte text _ 5 f (omega (arith, long)) u
    (from_byte text _ 6 g (omega (arith, long)) v none))))))

-- and no others
abbrev pub IsRightText : List ℕ → Type 0
IsRightText text = (text ≡ codes "nodes 3") ⊎ (text ≡ codes "nodes 5") ⊎ (text ≡ codes "nodes 7")

text_of_size : (n : ℕ) → IsRunSize n → IsRightText (codes "nodes " ++ decimal n)
text_of_size n (inl three) = inl (rw three spelled_three)
text_of_size n (inr (inl five)) = inr (inl (rw five spelled_five))
text_of_size n (inr (inr seven)) = inr (inr (rw seven spelled_seven))

pub right_text : (text : List ℕ) (n : ℕ) → IsNodesLine text n → IsRightText text
right_text text n line = rw line.spelled (text_of_size n line.size)

-- the nodes that are made of a right line's size are that line's
pub nodes_of : (text : List ℕ) (n : ℕ) (made : Option ℕ) → IsNodesLine text n → (IsSome made ↔ IsRunSize n)
    → IfSome made (λ nodes. nodes ≡ n) → MatchOption made ((m : ℕ) → ¬ (IsNodesLine text m)) (IsNodesLine text)
nodes_of text n None line valid value = let some : IsSome {T = ℕ} None = valid.1 line.size in cc
nodes_of text n (Some nodes) line valid value = subst (λ (m : ℕ). IsNodesLine text m) (sym value) line

-- ---- one line has one size
pub one_size : (a b : NumberedText) (m n : ℕ) → a ≡ b → IsNodesLine a.text m → IsNodesLine b.text n → m ≡ n
one_size a b m n same la lb =
    let text : a.text ≡ b.text = ap (λ (l : NumberedText). l.text) same in
    let digits : decimal m ≡ decimal n = ap (drop 6) (sym la.spelled ∙ text ∙ lb.spelled) in
    decimal_injective m n (omega (arith, small_size m la.size)) (omega (arith, small_size n lb.size)) digits
