-- Words say one value for each place.
use Rattle.std.proofs.Common.{◌≡◌, ℕ, ◌≤◌, ◌^◌, true, List, [], ◌∷◌, drop, refl, sym, ◌∙◌, subst, arith}
use Rattle.std.specs.Str.{bytes_eq}
use Rattle.std.proofs.lemmas.Fmt.{decimal_injective}
use Rattle.std.proofs.lemmas.Slice.Eq.{bytes_eq-Decides}
use Rattle.mfjson.specs.Document.{IsDocumentOf}
use Rattle.mfjson.proofs.OneText.{instant_of_one}
use Rattle.mfjson.proofs.OneFeature.{document_of_one}
use Rattle.stable.specs.declared.scripted.Failing.{Failing}
use Rattle.stable.specs.declared.scripted.Failing.TheVariants.{Old}
use Rattle.schedule.specs.Keywords.{failing_text}
use Rattle.schedule.specs.Numbers.{WritesNumber}
use Rattle.schedule.specs.Table.{Place, the_word, a_run_size, a_node, a_client, a_request_number, a_frame_number, a_failing, an_id}
use Rattle.schedule.specs.Table.{a_datetime, a_coordinate, a_period, a_rectangle, a_document, some_nodes}
use Rattle.schedule.specs.Table.{Value, PlaceSays, Values, SayEach, NameEach, width, words_at}
use Rattle.schedule.proofs.Coordinates.{one_coordinate, one_rect, one_period}
use Rattle.schedule.proofs.FirstLines.{small_size}
use Rattle.schedule.proofs.Spelled.{same_text}

-- a word is the text of one number
one_number : (least limit : ℕ) (word other : List ℕ) (m n : ℕ) → limit ≤ 2 ^ 64 → word ≡ other
    → WritesNumber least limit word m → WritesNumber least limit other n → m ≡ n
one_number least limit word other m n small same a b =
    decimal_injective m n (omega (arith, a.below)) (omega (arith, b.below)) (sym a.text ∙ same ∙ b.text)

-- no two ways to fail have one text
failings_differ : (a b : Failing) → bytes_eq (failing_text a) (failing_text b) ≡ true → a ≡ b
failings_differ Old Old same = cc
failings_differ _ Old same = cc
failings_differ _ _ same = cc

failing_text-injective : (a b : Failing) → failing_text a ≡ failing_text b → a ≡ b
failing_text-injective a b same = failings_differ a b ((bytes_eq-Decides (failing_text a) (failing_text b)).1 same)

-- words name one list of nodes
one_naming : (n : ℕ) (words : List (List ℕ)) (a b : List ℕ) → n ≤ 2 ^ 64 → NameEach n words a → NameEach n words b → a ≡ b
one_naming n [] [] [] small p q = refl
one_naming n [] [] (y ∷ ys) small p q = absurd q
one_naming n [] (x ∷ xs) b small p q = absurd p
one_naming n (word ∷ words) [] b small p q = absurd p
one_naming n (word ∷ words) (x ∷ xs) [] small p q = absurd q
one_naming n (word ∷ words) (x ∷ xs) (y ∷ ys) small p q =
    let first : x ≡ y = one_number 0 n word word x y small refl p.0 q.0 in
    let rest : xs ≡ ys = one_naming n words xs ys small p.1 q.1 in
    cc

-- words say one value for a place
one_value : (n : ℕ) (place : Place) (words : List (List ℕ)) (v w : Value place) → n ≤ 2 ^ 64 → PlaceSays n place words v
    → PlaceSays n place words w → v ≡ w
one_value n (the_word wanted) words v w small s r = refl
one_value n a_run_size (word ∷ []) v w small s r =
    decimal_injective v w (omega (arith, small_size v s.0)) (omega (arith, small_size w r.0)) (sym s.1 ∙ r.1)
one_value n a_node (word ∷ []) v w small s r = one_number 0 n word word v w small refl s r
one_value n a_client (word ∷ []) v w small s r = one_number 0 256 word word v w (omega arith) refl s r
one_value n a_request_number (word ∷ []) v w small s r = one_number 1 (2 ^ 64) word word v w (omega arith) refl s r
one_value n a_frame_number (word ∷ []) v w small s r = one_number 0 (2 ^ 64) word word v w (omega arith) refl s r
one_value n a_failing (word ∷ []) v w small s r = failing_text-injective v w (sym s ∙ r)
one_value n an_id (word ∷ []) v w small s r = s.0 ∙ sym r.0
one_value n a_datetime (word ∷ []) v w small s r = instant_of_one word v w s r
one_value n a_coordinate (word ∷ []) v w small s r = one_coordinate word v w s r
one_value n a_period (begin ∷ end ∷ []) v w small s r = one_period begin end v w s r
one_value n a_rectangle (x0 ∷ y0 ∷ x1 ∷ y1 ∷ []) v w small s r = one_rect x0 y0 x1 y1 v w s r
one_value n a_document words v w small (document, same, is) (other, also, it) =
    let one : document ≡ other = same_text document other (sym same ∙ also) in
    document_of_one other v w (subst (λ (text : List ℕ). IsDocumentOf text v) one is) it
one_value n some_nodes words v w small s r = one_naming n words v w small s r
one_value n _ _ v w small s r = absurd s

-- and one list of values
pub one_values : (n : ℕ) (at : List Place) (words : List (List ℕ)) (v w : Values at) → n ≤ 2 ^ 64 → SayEach n at words v
    → SayEach n at words w → v ≡ w
one_values n [] words v w small s r = refl
one_values n (place ∷ others) words v w small s r =
    let first = one_value n place (words_at place words) v.0 w.0 small s.0 r.0 in
    let rest = one_values n others (drop (width place) words) v.1 w.1 small s.1 r.1 in
    λ i. (first i, rest i)
