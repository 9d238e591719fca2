-- Texts of three numbers with a mark between them.
use Rattle.std.proofs.Common.{◌≡◌, ◌↔◌, ℕ, ◌+◌, ◌^◌, ◌<◌, ◌≤◌, List, [], ◌∷◌, ◌++◌, length, get_or, Option, Some, arith, ap, ◌∙◌}
use Rattle.std.proofs.lemmas.Option.{same_Some}
use Rattle.std.specs.List.{slice_range}
use Rattle.mfjson.specs.Digits.{digits, IsNumber, AreNumbers}
use Rattle.mfjson.proofs.DigitsLemmas.{number_spelling, number_is, number_unique, part_length, drop_part, drop_byte, drop_end}

-- two texts that spell three numbers
pub numbers_made : (wide mark : ℕ) (text rest : List ℕ) (a b c : ℕ) → text ≡ digits wide a →
    rest ≡ mark ∷ (digits 2 b ++ (mark ∷ digits 2 c)) → a < 10 ^ wide → b < 100 → c < 100 → AreNumbers mark text rest a b c
numbers_made wide mark text rest a b c front back a_fits b_fits c_fits =
    record {
      first = number_is text wide a a_fits front;
      second_mark = ap (λ t. get_or t 0 0) back;
      second = number_is _ 2 b b_fits (ap (λ t. slice_range t 1 3) back);
      third_mark = ap (λ t. get_or t 3 0) back;
      third = number_is _ 2 c c_fits (ap (λ t. slice_range t 4 6) back);
    }

-- a part of two digits
part : (rest : List ℕ) (from to n : ℕ) → from ≤ to → to < 7 → to ≡ from + 2 → length rest ≡ 6 →
    IsNumber (slice_range rest from to) n → slice_range rest from to ≡ digits 2 n
part rest from to n a b two long is =
    number_spelling (slice_range rest from to) 2 n (part_length rest from to (omega arith) (omega arith) ∙ omega arith) is

-- what stands behind the first number
rest_spelled : (mark : ℕ) (text rest : List ℕ) (a b c : ℕ) → length rest ≡ 6 → AreNumbers mark text rest a b c →
    rest ≡ mark ∷ (digits 2 b ++ (mark ∷ digits 2 c))
rest_spelled mark text rest a b c h are =
    drop_byte rest 0 mark _ (omega arith) are.second_mark (drop_part rest 1 3 _ (omega arith)
    (drop_byte rest 3 mark _ (omega arith) are.third_mark (drop_part rest 4 6 _ (omega arith) (drop_end rest 6 h))))
    ∙ ap (λ p. mark ∷ (p ++ (mark ∷ (slice_range rest 4 6 ++ []))))
    (part rest 1 3 b (omega arith) (omega arith) (omega arith) h are.second)
    ∙ ap (λ p. mark ∷ (digits 2 b ++ (mark ∷ (p ++ []))))
    (part rest 4 6 c (omega arith) (omega arith) (omega arith) h are.third)

-- the whole text, where the first number is of so many digits
pub numbers_spelled : (wide mark : ℕ) (text : List ℕ) (a b c : ℕ) → length text ≡ wide + 6 →
    AreNumbers mark (slice_range text 0 wide) (slice_range text wide (wide + 6)) a b c →
    text ≡ digits wide a ++ (mark ∷ (digits 2 b ++ (mark ∷ digits 2 c)))
numbers_spelled wide mark text a b c long are =
    let front = slice_range text 0 wide in
    let rest = slice_range text wide (wide + 6) in
    let front_long : length front ≡ wide = part_length text 0 wide (omega arith) (omega arith) ∙ omega arith in
    let rest_long : length rest ≡ 6 = part_length text wide (wide + 6) (omega arith) (omega arith) ∙ omega arith in
    drop_part text 0 wide _ (omega arith) (drop_part text wide (wide + 6) _ (omega arith) (drop_end text (wide + 6) long))
    ∙ ap (λ p. p ++ (rest ++ [])) (number_spelling front wide a front_long are.first)
    ∙ ap (λ p. digits wide a ++ (p ++ [])) (rest_spelled mark front rest a b c rest_long are)

-- the numbers of a text are the only ones
pub record AreSame (a b c x y z : ℕ) : Type 0 where
  pub first : a ≡ x
  pub second : b ≡ y
  pub third : c ≡ z

pub numbers_unique : {mark : ℕ} {text rest : List ℕ} {a b c x y z : ℕ} → AreNumbers mark text rest a b c →
    AreNumbers mark text rest x y z → AreSame a b c x y z
numbers_unique are other =
    record {
      first = number_unique _ _ _ are.first other.first;
      second = number_unique _ _ _ are.second other.second;
      third = number_unique _ _ _ are.third other.third;
    }

-- three numbers that were read, and no others
pub numbers_exact : (mark : ℕ) (text rest : List ℕ) (a b c : ℕ) → get_or rest 0 0 ≡ mark → get_or rest 3 0 ≡ mark →
    ((n : ℕ) → IsNumber text n ↔ (Some a ≡ Some n)) → ((n : ℕ) → IsNumber (slice_range rest 1 3) n ↔ (Some b ≡ Some n)) →
    ((n : ℕ) → IsNumber (slice_range rest 4 6) n ↔ (Some c ≡ Some n)) → (x y z : ℕ) →
    AreNumbers mark text rest x y z ↔ ◌≡◌ {A = Option (ℕ × ℕ × ℕ)} (Some (a, b, c)) (Some (x, y, z))
numbers_exact mark text rest a b c second third is_a is_b is_c x y z = (
  λ are.
      let first = same_Some _ _ ((is_a x).0 are.first) in
      let next = same_Some _ _ ((is_b y).0 are.second) in
      let last = same_Some _ _ ((is_c z).0 are.third) in
      cc,
  λ e.
      let same = same_Some _ _ e in
      record {
        first = (is_a x).1 (ap (λ (n : ℕ × ℕ × ℕ). Some n.0) same);
        second_mark = second;
        second = (is_b y).1 (ap (λ (n : ℕ × ℕ × ℕ). Some n.1) same);
        third_mark = third;
        third = (is_c z).1 (ap (λ (n : ℕ × ℕ × ℕ). Some n.2) same);
      },
)
