-- A row of numbers says one thing.
use Rattle.std.proofs.Common.{◌≡◌, ◌≢◌, ◌==◌, length, Option, Some, ap, ℕ, ◌<◌, ◌≤◌, ◌^◌, Bool, List, [], ◌∷◌, IsTrue, ◌↔◌, sym, ◌∙◌, subst, arith, decimal}
use Rattle.std.proofs.lemmas.Fmt.{decimal_injective}
use Rattle.std.proofs.lemmas.List.Splits.{length-slice_split}
use Rattle.std.specs.Borrow.{Bor}
use Rattle.std.specs.Option.{option_copied}
use Rattle.schedule.specs.Lines.{pieces}
use Rattle.schedule.specs.Numbers.{WritesNumber}
use Rattle.audit.specs.Rows.{IsNumber, IsNodeNumber, IsReplyCode}

pub one_number : (limit : ℕ) (words : List (List ℕ)) (a b : ℕ) → limit ≤ 2 ^ 64 → IsNumber limit words a → IsNumber limit words b
    → a ≡ b
one_number limit words a b small one other =
    let texts : decimal a ≡ decimal b = let rows = sym one.row ∙ other.row in cc in
    decimal_injective a b (omega (arith, one.below)) (omega (arith, other.below)) texts

pub one_node_number : (nodes limit : ℕ) (words : List (List ℕ)) (a b : ℕ) → limit ≤ 2 ^ 64 → IsNodeNumber nodes limit words a
    → IsNodeNumber nodes limit words b → a ≡ b
one_node_number nodes limit words a b small one other =
    let texts : decimal a ≡ decimal b = let rows = sym one.row ∙ other.row in cc in
    decimal_injective a b (omega (arith, one.below)) (omega (arith, other.below)) texts

-- the test of the one code decides whether some code passes it
pub code_decides : (IsCode : ℕ → Type 0) (nodes : ℕ) (words : List (List ℕ)) (code : ℕ) (test : Bool)
    → IsNodeNumber nodes 256 words code → IsTrue test ↔ IsCode code
    → IsTrue test ↔ ((c : ℕ) × IsNodeNumber nodes 256 words c × IsCode c)
code_decides IsCode nodes words code test is decides = (
  λ e. (code, is, decides.0 e),
  λ told. decides.1 (subst IsCode (one_node_number nodes 256 words told.0 code (omega arith) told.1 is) told.2),
)

pub number_decides : (IsCode : ℕ → Type 0) (words : List (List ℕ)) (code : ℕ) (test : Bool)
    → IsNumber 256 words code → IsTrue test ↔ IsCode code
    → IsTrue test ↔ ((c : ℕ) × IsNumber 256 words c × IsCode c)
number_decides IsCode words code test is decides = (
  λ e. (code, is, decides.0 e),
  λ told. decides.1 (subst IsCode (one_number 256 words told.0 code (omega arith) told.1 is) told.2),
)

pub some_piece : (mark : ℕ) (text : List ℕ) → pieces mark (Some text) ≢ []
some_piece mark text e = omega (arith, length-slice_split (λ b. b == mark) text, ap length e)

-- a word of two marks has no two parts
pub other_parts : (mark : ℕ) (word first_part second_part : List ℕ) (after : Option (Bor (List ℕ))) (more : Bor (List ℕ))
    (after_more : Option (Bor (List ℕ))) (others : Bor (List ℕ))
    → pieces mark (Some word) ≡ first_part ∷ pieces mark (option_copied after) → after ≡ Some more
    → pieces mark (Some more.now) ≡ second_part ∷ pieces mark (option_copied after_more) → after_more ≡ Some others
    → (first second : List ℕ) → pieces mark (Some word) ≢ first ∷ second ∷ []
other_parts mark word first_part second_part after more after_more others one is two is_more first second e =
    let one_cut = rw is at one in
    let two_cut = rw is_more at two in
    let none : pieces mark (Some others.now) ≡ [] = cc in some_piece mark others.now none

reply_code_small : (code : ℕ) → IsReplyCode code → code < 256
reply_code_small code is = omega arith

-- the word writes one number
pub same_code : (word : List ℕ) (one code : ℕ) → WritesNumber 0 256 word one → word ≡ decimal code → IsReplyCode code → code ≡ one
same_code word one code w text is =
    decimal_injective code one (omega (arith, reply_code_small code is)) (omega (arith, w.below)) (sym text ∙ w.text)
