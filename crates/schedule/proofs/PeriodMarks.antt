-- What marks leave of the words of a period's ends.
use Rattle.std.proofs.Common.{◌≡◌, ◌⊎◌, inl, inr, sym, subst, ap, ◌∙◌, ℕ, Bool, true, false, ◌-◌, length, List, [], ◌∷◌, ◌++◌, codes, take}
use Rattle.std.proofs.Common.{get_or, arith}
use Rattle.std.proofs.lemmas.List.{length-append, append-nil}
use Rattle.std.proofs.Math.Seq.{take-append_seam, get_or-append_seam}
use Rattle.mfjson.specs.Datetime.{ReadsAs}
use Rattle.mfjson.proofs.SecondTexts.{either_length, of_20, of_24}
use Rattle.schedule.specs.Extents.{IsEnd}

-- a datetime ends with Z
ends_with_z : (text : List ℕ) (t : ℕ) → ReadsAs text t → get_or text (length text - 1) 0 ≡ 90
ends_with_z text t reads = by_length (either_length text t reads)
  where
    by_length : (length text ≡ 20) ⊎ (length text ≡ 24) → get_or text (length text - 1) 0 ≡ 90
    by_length (inl n) = rw n ((of_20 text t n reads).zone)
    by_length (inr n) = rw n ((of_24 text t n reads).zone)

-- what stands before the last byte, and that byte
size_before : (word text : List ℕ) (mark : ℕ) → word ≡ text ++ mark ∷ [] → length word - 1 ≡ length text
size_before word text mark e =
    let n = ap (λ (w : List ℕ). length w) e in
    let m = length-append text (mark ∷ []) in
    omega (arith, n, m)

pub before_one : (word text : List ℕ) (mark : ℕ) → word ≡ text ++ mark ∷ [] → take (length word - 1) word ≡ text
before_one word text mark e =
    ap (λ n. take n word) (size_before word text mark e) ∙ ap (take (length text)) e ∙ take-append_seam text (mark ∷ [])

pub last_of : (word text : List ℕ) (mark : ℕ) → word ≡ text ++ mark ∷ [] → get_or word (length word - 1) 0 ≡ mark
last_of word text mark e =
    ap (λ n. get_or word n 0) (size_before word text mark e) ∙ ap (λ (w : List ℕ). get_or w (length text) 0) e
    ∙ get_or-append_seam text mark [] 0

-- behind what is no datetime a mark ends no period
pub not_an_end : (word text : List ℕ) (mark : ℕ) → word ≡ text ++ mark ∷ [] → ¬ (mark ≡ 90)
    → ((t : ℕ) → ¬ (ReadsAs text t)) → (t : ℕ) (is_in : Bool) → ¬ (IsEnd word t is_in)
not_an_end word text mark e other none t is_in is = by_mark is_in is
  where
    with_mark : (front : List ℕ) (m : ℕ) → word ≡ front ++ m ∷ [] → ReadsAs front t → ⊥
    with_mark front m same reads =
        none t (subst (λ (w : List ℕ). ReadsAs w t) (sym (before_one word front m same) ∙ before_one word text mark e) reads)

    bare : (front : List ℕ) → word ≡ front → ReadsAs front t → ⊥
    bare front same reads =
        other (sym (last_of word text mark e) ∙ ap (λ (w : List ℕ). get_or w (length w - 1) 0) same ∙ ends_with_z front t reads)

    by_mark : (b : Bool) → IsEnd word t b → ⊥
    by_mark true it = by_true it.closes
      where
        by_true : (it.mark ≡ []) ⊎ (it.mark ≡ codes "]") → ⊥
        by_true (inl bare_end) = bare it.text (it.spelling ∙ ap (λ (m : List ℕ). it.text ++ m) bare_end ∙ append-nil it.text) it.reads
        by_true (inr one) = with_mark it.text 93 (it.spelling ∙ ap (λ (m : List ℕ). it.text ++ m) one) it.reads
    by_mark false it = with_mark it.text 41 (it.spelling ∙ ap (λ (m : List ℕ). it.text ++ m) it.closes) it.reads
