-- What is read was spelled so, and what is spelled so is read, whatever follows: the tools, and numbers.
use Rattle.std.proofs.Common.{◌≡◌, ◌⊎◌, ℕ, suc, ◌+◌, ◌^◌, ◌<◌, ◌≤◌, Bool, true, false, cond, eqb, leb, ltb, not, List, [], ◌∷◌, ◌++◌}
use Rattle.std.proofs.Common.{length, All, get_or, take, drop, Result, Ok, Err, refl, sym, ap, subst, ◌∙◌, append_assoc, arith, inl, inr}
use Rattle.std.proofs.lemmas.Bool.Decides.{nat_tests}
use Rattle.std.proofs.lemmas.Bool.{cases_lt, ltb-false, le-ltb}
use Rattle.std.proofs.lemmas.List.{drop_at, take-append-drop, length-append, length-take, get_or-drop, get_or-take, get_or_past}
use Rattle.std.proofs.lemmas.Nat.{be_bytes_2, be_bytes_4, be_bytes_8}
use Rattle.byteorder.specs.Endian.{big_number, big_bytes}
use Rattle.byteorder.specs.Numbers.{big_number-reads_back, big_from-lt, big_from-take, length-bytes_high_first}
use Rattle.fields.specs.declared.fault.FieldFault.TheVariants.{Short}
use Rattle.fields.specs.Reading.{◌>>=◌, number_at, byte_at}

abbrev pub IsBytes : List ℕ → Type 0
IsBytes bytes = (i : ℕ) → get_or bytes i 0 < 256

pub bytes_from_all : (bytes : List ℕ) → All (λ b. b < 256) bytes → IsBytes bytes
bytes_from_all bytes all i =
    elim (cases_lt i (length bytes)) [
      | inl lt ↦ all i 0 lt
      | inr le ↦ rw (get_or_past bytes i 0 le) (omega arith)
    ]

pub IsBytes-drop : (n : ℕ) (bytes : List ℕ) → IsBytes bytes → IsBytes (drop n bytes)
IsBytes-drop n bytes h i = rw get_or-drop (h (n + i))

pub IsBytes-take : (n : ℕ) (bytes : List ℕ) → IsBytes bytes → IsBytes (take n bytes)
IsBytes-take n bytes h i =
    elim (cases_lt i n) [
      | inl lt ↦ rw (get_or-take n bytes i 0 lt) (h i)
      | inr le ↦ rw (get_or_past (take n bytes) i 0 (omega (arith, length-take n bytes))) (omega arith)
    ]

-- the value of a step that did not fail
pub bind_ok : {A B F : Type 0} (r : Result A F) (f : A → Result B F) (y : B) → (r >>= f) ≡ Ok y → (x : A) × (r ≡ Ok x)
    × (f x ≡ Ok y)
bind_ok (Ok x) f y e = (x, refl, e)
bind_ok (Err d) f y e = absurd cc

-- a test that did not fail
pub guard_ok : {A F : Type 0} (b : Bool) (d : F) (r : Result A F) (y : A) → cond b (Err d) r ≡ Ok y → (b ≡ false) × (r ≡ Ok y)
guard_ok true d r y e = absurd cc
guard_ok false d r y e = (refl, e)

-- which of two was taken
pub chosen : {A F : Type 0} (b : Bool) (r s : Result A F) (y : A) → cond b r s ≡ Ok y → ((b ≡ true) × (r ≡ Ok y))
    ⊎ ((b ≡ false) × (s ≡ Ok y))
chosen true r s y e = inl (refl, e)
chosen false r s y e = inr (refl, e)

pub ok_is : {A F : Type 0} (x y : A) → ◌≡◌ {A = Result A F} (Ok x) (Ok y) → x ≡ y
ok_is x y e = cc

-- what a reader took from the front
pub record Takes (bytes text rest : List ℕ) : Type 0 where
  pub parts : bytes ≡ text ++ rest
  pub rest_fits : IsBytes rest

pub Takes-then : (a x b y c : List ℕ) → Takes a x b → Takes b y c → Takes a (x ++ y) c
Takes-then a x b y c p q = record {
  parts = p.parts ∙ ap (λ (t : List ℕ). x ++ t) q.parts
      ∙ sym (append_assoc x y c);
  rest_fits = q.rest_fits;
}

-- what a reader took was spelled so, and has a property
pub record Took {A : Type 0} (spelled : A → List ℕ) (P : A → Type 0) (bytes : List ℕ) (x : A × List ℕ) : Type 0 where
  pub takes : Takes bytes (spelled x.0) x.1
  pub fits : P x.0

-- ---- numbers
-- numbers of n bytes are written back
abbrev pub WritesBack : ℕ → Type 0
WritesBack n = (bytes : List ℕ) → length bytes ≡ n → IsBytes bytes → big_bytes n (big_number n bytes) ≡ bytes

pub back2 : WritesBack 2
back2 bytes len fits = be_bytes_2 bytes (big_number 2 bytes) len fits (omega arith)

pub back4 : WritesBack 4
back4 bytes len fits = be_bytes_4 bytes (big_number 4 bytes) len fits (omega arith)

pub back8 : WritesBack 8
back8 bytes len fits = be_bytes_8 bytes (big_number 8 bytes) len fits (omega arith)

pub number_takes : (n : ℕ) → WritesBack n → (bytes : List ℕ) (x : ℕ) (rest : List ℕ) → IsBytes bytes → number_at n bytes ≡ Ok (x, rest)
    → Takes bytes (big_bytes n x) rest × (x < 256 ^ n)
number_takes n back bytes x rest fits e =
    let g = guard_ok (ltb (length bytes) n) Short (Ok (big_number n bytes, drop n bytes)) (x, rest) e in
    let long : n ≤ length bytes = ltb-false _ _ g.0 in
    let pair : (big_number n bytes, drop n bytes) ≡ (x, rest) = ok_is _ _ g.1 in
    let x-is : big_number n bytes ≡ x = ap (λ (p : ℕ × List ℕ). p.0) pair in
    let rest-is : drop n bytes ≡ rest = ap (λ (p : ℕ × List ℕ). p.1) pair in
    let same : big_number n (take n bytes) ≡ big_number n bytes = big_from-take 0 n n bytes (omega arith) in
    let front : big_bytes n x ≡ take n bytes = ap (big_bytes n) (sym x-is ∙ sym same)
    ∙ back (take n bytes) (omega (arith, length-take n bytes)) (IsBytes-take n bytes fits) in (
      record { parts = rw (front, ← rest-is) (sym (take-append-drop n bytes)); rest_fits = rw (← rest-is) (IsBytes-drop n bytes fits) },
      rw
          (← x-is) (big_from-lt 0 n bytes fits),
    )

pub number_again : (n x : ℕ) (rest : List ℕ) → x < 256 ^ n → number_at n (big_bytes n x ++ rest) ≡ Ok (x, rest)
number_again n x rest lt =
    let len : length (big_bytes n x) ≡ n = length-bytes_high_first n x in
    let long : ltb (length (big_bytes n x ++ rest)) n ≡ false = le-ltb _ _ (omega (arith, length-append (big_bytes n x) rest)) in
    rw (long, big_number-reads_back n x rest lt, drop_at (big_bytes n x) rest n len) refl

pub byte_takes : (bytes : List ℕ) (x : ℕ) (rest : List ℕ) → IsBytes bytes → byte_at bytes ≡ Ok (x, rest) → Takes bytes (x ∷ []) rest
    × (x < 256)
byte_takes [] x rest fits e = absurd cc
byte_takes (b ∷ bytes) x rest fits e =
    let same : (b, bytes) ≡ (x, rest) = ok_is _ _ e in
    subst (λ (p : ℕ × List ℕ). Takes (b ∷ bytes) (p.0 ∷ []) p.1 × (p.0 < 256)) same
    (record { parts = refl; rest_fits = λ i. fits (suc i) }, fits 0)

-- ---- tests
pub from_zero : (n : ℕ) → eqb n 0 ≡ false → 1 ≤ n
from_zero n e = grind (arith, nat_tests)

pub below : (k n : ℕ) → leb k n ≡ false → n < k
below k n e = grind (arith, nat_tests)

pub at_most : (k n : ℕ) → ltb k n ≡ false → n ≤ k
at_most k n e = grind (arith, nat_tests)

pub is_number : (n m : ℕ) → not (eqb n m) ≡ false → n ≡ m
is_number n m e = grind (arith, nat_tests)

pub is_equal : (n m : ℕ) → eqb n m ≡ true → n ≡ m
is_equal n m e = grind (arith, nat_tests)
