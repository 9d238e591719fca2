-- A word is one begin of a period, and one end.
use Rattle.std.proofs.Common.{◌≡◌, ◌⊎◌, inl, inr, refl, sym, subst, ap, ◌∙◌, ℕ, Bool, true, false, ◌+◌, length, List, [], ◌∷◌, ◌++◌, codes}
use Rattle.std.proofs.Common.{arith}
use Rattle.std.proofs.lemmas.List.{length-append, append-nil}
use Rattle.mfjson.specs.Datetime.{ReadsAs}
use Rattle.mfjson.proofs.SecondTexts.{either_length}
use Rattle.mfjson.proofs.OneText.{instant_of_one}
use Rattle.schedule.specs.Extents.{IsBegin, IsEnd}
use Rattle.schedule.proofs.PeriodMarks.{before_one, last_of}

-- a datetime with a byte more is none
no_longer : (short long : List ℕ) (t u : ℕ) → ReadsAs short t → ReadsAs long u → length long ≡ length short + 1 → ⊥
no_longer short long t u a b e = by (either_length short t a) (either_length long u b)
  where
    by : (length short ≡ 20) ⊎ (length short ≡ 24) → (length long ≡ 20) ⊎ (length long ≡ 24) → ⊥
    by (inl m) (inl n) = omega (arith, e, m, n)
    by (inl m) (inr n) = omega (arith, e, m, n)
    by (inr m) (inl n) = omega (arith, e, m, n)
    by (inr m) (inr n) = omega (arith, e, m, n)

-- a way to put a mark to a datetime, from which both can be told
record Joins (joined : ℕ → List ℕ → List ℕ) : Type 0 where
  longer : (mark : ℕ) (text : List ℕ) → length (joined mark text) ≡ length text + 1
  marks : (m n : ℕ) (x y : List ℕ) → joined m x ≡ joined n y → m ≡ n
  texts : (m n : ℕ) (x y : List ℕ) → joined m x ≡ joined n y → x ≡ y

module _ (joined : ℕ → List ℕ → List ℕ) (joins : Joins joined) (inside outside : ℕ) (differ : ¬ (inside ≡ outside)) where
  -- the word says an instant, which is in the period or isn't
  abbrev Says : List ℕ → ℕ → Bool → Type 0
  Says word t true = ReadsAs word t ⊎ ((text : List ℕ) × (word ≡ joined inside text) × ReadsAs text t)
  Says word t false = (text : List ℕ) × (word ≡ joined outside text) × ReadsAs text t

  bare_or_marked : (word text : List ℕ) (mark t u : ℕ) → word ≡ joined mark text → ReadsAs word t → ReadsAs text u → ⊥
  bare_or_marked word text mark t u e a b =
      no_longer text word u t b a (ap (λ (w : List ℕ). length w) e ∙ joins.longer mark text)

  same_text : (word x y : List ℕ) (m n t u : ℕ) → word ≡ joined m x → word ≡ joined n y → ReadsAs x t → ReadsAs y u → t ≡ u
  same_text word x y m n t u e f a b =
      instant_of_one y t u (subst (λ (w : List ℕ). ReadsAs w t) (joins.texts m n x y (sym e ∙ f)) a) b

  one_saying : (word : List ℕ) (t u : ℕ) (a b : Bool) → Says word t a → Says word u b → (t ≡ u) × (a ≡ b)
  one_saying word t u true true (inl p) (inl q) = (instant_of_one word t u p q, refl)
  one_saying word t u true true (inl p) (inr (y, f, q)) = absurd (bare_or_marked word y inside t u f p q)
  one_saying word t u true true (inr (x, e, p)) (inl q) = absurd (bare_or_marked word x inside u t e q p)
  one_saying word t u true true (inr (x, e, p)) (inr (y, f, q)) = (same_text word x y inside inside t u e f p q, refl)
  one_saying word t u true false (inl p) (y, f, q) = absurd (bare_or_marked word y outside t u f p q)
  one_saying word t u true false (inr (x, e, p)) (y, f, q) = absurd (differ (joins.marks inside outside x y (sym e ∙ f)))
  one_saying word t u false true (x, e, p) (inl q) = absurd (bare_or_marked word x outside u t e q p)
  one_saying word t u false true (x, e, p) (inr (y, f, q)) = absurd (differ (sym (joins.marks outside inside x y (sym e ∙ f))))
  one_saying word t u false false (x, e, p) (y, f, q) = (same_text word x y outside outside t u e f p q, refl)

-- ---- a begin
abbrev before_it : ℕ → List ℕ → List ℕ
before_it mark text = mark ∷ text

before_joins : Joins before_it
before_joins =
    record {
      longer = λ mark text. omega (arith);
      marks = λ m n x y e. cc;
      texts = λ m n x y e. cc;
    }

begin_says : (word : List ℕ) (t : ℕ) (b : Bool) → IsBegin word t b → Says before_it before_joins 91 40 (λ e. omega (arith, e)) word t b
begin_says word t true is = by is.opens
  where
    by : (is.mark ≡ []) ⊎ (is.mark ≡ codes "[") → Says before_it before_joins 91 40 (λ e. omega (arith, e)) word t true
    by (inl none) = inl (subst (λ (w : List ℕ). ReadsAs w t) (sym (is.spelling ∙ ap (λ (m : List ℕ). m ++ is.text) none)) is.reads)
    by (inr one) = inr (is.text, is.spelling ∙ ap (λ (m : List ℕ). m ++ is.text) one, is.reads)
begin_says word t false is = (is.text, is.spelling ∙ ap (λ (m : List ℕ). m ++ is.text) is.opens, is.reads)

pub one_begin : (word : List ℕ) (t u : ℕ) (a b : Bool) → IsBegin word t a → IsBegin word u b → (t ≡ u) × (a ≡ b)
one_begin word t u a b p q =
    one_saying before_it before_joins 91 40 (λ e. omega (arith, e)) word t u a b (begin_says word t a p) (begin_says word u b q)

-- ---- an end
abbrev behind_it : ℕ → List ℕ → List ℕ
behind_it mark text = text ++ mark ∷ []

behind_joins : Joins behind_it
behind_joins =
    record {
      longer = λ mark text. length-append text (mark ∷ []);
      marks = λ m n x y e. sym (last_of (behind_it m x) x m refl) ∙ last_of (behind_it m x) y n e;
      texts = λ m n x y e. sym (before_one (behind_it m x) x m refl) ∙ before_one (behind_it m x) y n e;
    }

end_says : (word : List ℕ) (t : ℕ) (b : Bool) → IsEnd word t b → Says behind_it behind_joins 93 41 (λ e. omega (arith, e)) word t b
end_says word t true is = by is.closes
  where
    by : (is.mark ≡ []) ⊎ (is.mark ≡ codes "]") → Says behind_it behind_joins 93 41 (λ e. omega (arith, e)) word t true
    by (inl none) =
        inl (subst (λ (w : List ℕ). ReadsAs w t) (sym (is.spelling ∙ ap (λ (m : List ℕ). is.text ++ m) none ∙ append-nil is.text)) is.reads)
    by (inr one) = inr (is.text, is.spelling ∙ ap (λ (m : List ℕ). is.text ++ m) one, is.reads)
end_says word t false is = (is.text, is.spelling ∙ ap (λ (m : List ℕ). is.text ++ m) is.closes, is.reads)

pub one_end : (word : List ℕ) (t u : ℕ) (a b : Bool) → IsEnd word t a → IsEnd word u b → (t ≡ u) × (a ≡ b)
one_end word t u a b p q =
    one_saying behind_it behind_joins 93 41 (λ e. omega (arith, e)) word t u a b (end_says word t a p) (end_says word u b q)
