-- Which fault of a line is its lowest.
use Rattle.std.proofs.Common.{◌≡◌, ◌≢◌, ℕ, ◌≤◌, List, [], ◌∷◌, length, drop, cond, codes, refl, sym, ◌∙◌, ap}
use Rattle.std.proofs.Common.{◌==◌, suc, Bool, true, false, subst, lit≤, inl, inr, arith}
use Rattle.std.proofs.lemmas.Bool.{cases_lt}
use Rattle.std.proofs.lemmas.Slice.Eq.{bytes_eq-Decides}
use Rattle.std.specs.List.{All}
use Rattle.std.specs.Str.{bytes_eq}
use Rattle.schedule.specs.Codes.{code_of, IsLowestFault}
use Rattle.schedule.specs.Keywords.{text_of, operation_text, question_text}
use Rattle.schedule.specs.Rows.{IsWordsFault}
use Rattle.schedule.specs.Table.{Place, the_word, Row, line_of, submit_of, query_of, IsCount, count, takes_more}
use Rattle.schedule.specs.Table.{IsOfForm, HasItsWords, HasItsCount, HasMisfit, HasFault, HasOtherCount, IsNotPrintable, IsPrintable}
use Rattle.schedule.specs.Table.{places, width, words_at}
use Rattle.schedule.specs.Words.{words_of}
use Rattle.schedule.specs.declared.keyword.Keyword.{Keyword}
use Rattle.schedule.specs.declared.keyword.Keyword.TheVariants.{Nodes}
use Rattle.schedule.specs.declared.keyword.Operation.{Operation}
use Rattle.schedule.specs.declared.keyword.Operation.TheVariants.{Put}
use Rattle.schedule.specs.declared.keyword.Question.{Question}
use Rattle.schedule.specs.declared.keyword.Question.TheVariants.{At}
use Rattle.schedule.specs.declared.fault.ScheduleFault.{ScheduleFault}
use Rattle.schedule.specs.declared.fault.ScheduleFault.TheVariants.{NotPrintable, UnknownWord, NodesLine, WordCount, WordForm, Document}

-- ---- no two rows begin with the same words
-- texts that are not equal byte by byte are not the same
unlike : (a b : List ℕ) → bytes_eq a b ≡ false → a ≢ b
unlike a b differ same = let e = sym differ ∙ (bytes_eq-Decides a b).1 same in cc

-- no two keywords have one text, nor two operations, nor two questions: each two of them are compared
keywords_differ : (a b : Keyword) → bytes_eq (text_of a) (text_of b) ≡ true → a ≡ b
keywords_differ Nodes Nodes same = cc
keywords_differ _ Nodes same = cc
keywords_differ _ _ same = cc

pub text_of-injective : (a b : Keyword) → text_of a ≡ text_of b → a ≡ b
text_of-injective a b same = keywords_differ a b ((bytes_eq-Decides (text_of a) (text_of b)).1 same)

operations_differ : (a b : Operation) → bytes_eq (operation_text a) (operation_text b) ≡ true → a ≡ b
operations_differ Put Put same = cc
operations_differ _ Put same = cc
operations_differ _ _ same = cc

pub operation_text-injective : (a b : Operation) → operation_text a ≡ operation_text b → a ≡ b
operation_text-injective a b same = operations_differ a b ((bytes_eq-Decides (operation_text a) (operation_text b)).1 same)

questions_differ : (a b : Question) → bytes_eq (question_text a) (question_text b) ≡ true → a ≡ b
questions_differ At At same = cc
questions_differ _ At same = cc
questions_differ _ _ same = cc

pub question_text-injective : (a b : Question) → question_text a ≡ question_text b → a ≡ b
question_text-injective a b same = questions_differ a b ((bytes_eq-Decides (question_text a) (question_text b)).1 same)

-- no keyword is `submit` or `query`
pub not_submit : (keyword : Keyword) → codes "submit" ≢ text_of keyword
not_submit Nodes = unlike (codes "submit") (text_of Nodes) refl
not_submit keyword = unlike (codes "submit") (text_of keyword) refl

pub not_query : (keyword : Keyword) → codes "query" ≢ text_of keyword
not_query Nodes = unlike (codes "query") (text_of Nodes) refl
not_query keyword = unlike (codes "query") (text_of keyword) refl

pub submit_is_no_query : codes "submit" ≢ codes "query"
submit_is_no_query = unlike (codes "submit") (codes "query") refl

-- the first of two lists
heads : {X : Type 0} (x y : X) (xs ys : List X) → x ∷ xs ≡ y ∷ ys → x ≡ y
heads x y xs ys e = cc

pub submit_is_no_nodes : (words others : List (List ℕ)) → codes "submit" ∷ words ≢ codes "nodes" ∷ others
submit_is_no_nodes words others same = not_submit Nodes (heads _ _ _ _ same)

pub query_is_no_nodes : (words others : List (List ℕ)) → codes "query" ∷ words ≢ codes "nodes" ∷ others
query_is_no_nodes words others same = not_query Nodes (heads _ _ _ _ same)

pub other_is_no_nodes : (keyword : Keyword) (words others : List (List ℕ)) → keyword ≢ Nodes
    → text_of keyword ∷ words ≢ codes "nodes" ∷ others
other_is_no_nodes keyword words others other same = other (text_of-injective keyword Nodes (heads _ _ _ _ same))

-- there are no fewer than are wanted
count_is_least : (more : Bool) (wanted there : ℕ) → IsCount more wanted there → wanted ≤ there
count_is_least true wanted there is = is
count_is_least false wanted there is = omega (arith, is)

-- no fewer words than the row wants
row_is_long : (row : Row) (words : List (List ℕ)) → HasItsCount (places row) words → count (places row) ≤ length words
row_is_long row words is = count_is_least (takes_more (places row)) (count (places row)) (length words) is

one_operation : (words : List (List ℕ)) (a b : Operation) → 5 ≤ length words → HasItsWords (places (submit_of a)) words
    → HasItsWords (places (submit_of b)) words → a ≡ b
one_operation [] a b long p q = absurd (omega (arith, long))
one_operation (w ∷ []) a b long p q = absurd (omega (arith, long))
one_operation (w ∷ x ∷ []) a b long p q = absurd (omega (arith, long))
one_operation (w ∷ x ∷ y ∷ []) a b long p q = absurd (omega (arith, long))
one_operation (w ∷ x ∷ y ∷ z ∷ []) a b long p q = absurd (omega (arith, long))
one_operation (w ∷ x ∷ y ∷ z ∷ o ∷ words) a b long p q =
    operation_text-injective a b (sym p.1.0 ∙ q.1.0)

one_question : (words : List (List ℕ)) (a b : Question) → 3 ≤ length words → HasItsWords (places (query_of a)) words
    → HasItsWords (places (query_of b)) words → a ≡ b
one_question [] a b long p q = absurd (omega (arith, long))
one_question (w ∷ []) a b long p q = absurd (omega (arith, long))
one_question (w ∷ x ∷ []) a b long p q = absurd (omega (arith, long))
one_question (w ∷ x ∷ o ∷ words) a b long p q =
    question_text-injective a b (sym p.1.0 ∙ q.1.0)

-- words with all words of a row begin as no other row
pub one_row : (words : List (List ℕ)) (a b : Row) → HasItsCount (places a) words → HasItsWords (places a) words
    → HasItsWords (places b) words → a ≡ b
one_row [] (line_of k) b its p q = absurd (omega (arith, row_is_long (line_of k) [] its))
one_row [] (submit_of o) b its p q = absurd (omega (arith, row_is_long (submit_of o) [] its))
one_row [] (query_of o) b its p q = absurd (omega (arith, row_is_long (query_of o) [] its))
one_row (w ∷ words) (line_of k) (line_of l) its p q = ap line_of (text_of-injective k l (sym p.0 ∙ q.0))
one_row (w ∷ words) (line_of k) (submit_of o) its p q = absurd (not_submit k (sym q.0 ∙ p.0))
one_row (w ∷ words) (line_of k) (query_of o) its p q = absurd (not_query k (sym q.0 ∙ p.0))
one_row (w ∷ words) (submit_of o) (line_of k) its p q = absurd (not_submit k (sym p.0 ∙ q.0))
one_row (w ∷ words) (submit_of o) (submit_of u) its p q =
    ap submit_of (one_operation (w ∷ words) o u (omega (arith, row_is_long (submit_of o) (w ∷ words) its)) p q)
one_row (w ∷ words) (submit_of o) (query_of u) its p q = absurd (submit_is_no_query (sym p.0 ∙ q.0))
one_row (w ∷ words) (query_of o) (line_of k) its p q = absurd (not_query k (sym p.0 ∙ q.0))
one_row (w ∷ words) (query_of o) (submit_of u) its p q = absurd (submit_is_no_query (sym q.0 ∙ p.0))
one_row (w ∷ words) (query_of o) (query_of u) its p q =
    ap query_of (one_question (w ∷ words) o u (omega (arith, row_is_long (query_of o) (w ∷ words) its)) p q)

-- ---- the numbers of faults
-- a line of bytes that print has no other byte
pub prints_throughout : (text : List ℕ) → All IsPrintable text → ¬ (IsNotPrintable text)
prints_throughout text all (k, byte, within, here, wrong) = wrong (subst IsPrintable here (all k byte within))

-- the fault of this number
abbrev fault_of : ℕ → ScheduleFault
fault_of number =
    cond (number == 1) NotPrintable (cond (number == 2) UnknownWord (cond (number == 3) NodesLine
    (cond (number == 4) WordCount (cond (number == 5) WordForm Document))))

fault_is_back : (fault : ScheduleFault) → fault_of (code_of fault) ≡ fault
fault_is_back NotPrintable = refl
fault_is_back UnknownWord = refl
fault_is_back NodesLine = refl
fault_is_back WordCount = refl
fault_is_back WordForm = refl
fault_is_back Document = refl

-- no fault has a number below the first
from_first : (fault : ScheduleFault) → code_of NotPrintable ≤ code_of fault
from_first NotPrintable = lit≤ tt
from_first UnknownWord = lit≤ tt
from_first NodesLine = lit≤ tt
from_first WordCount = lit≤ tt
from_first WordForm = lit≤ tt
from_first Document = lit≤ tt

-- the faults that a line has are not below this one
abbrev pub IsFrom : (ScheduleFault → Type 0) → ℕ → Type 0
IsFrom Has number = (fault : ScheduleFault) → Has fault → number ≤ code_of fault

-- where the line hasn't this one either, they are above it
from_above : (Has : ScheduleFault → Type 0) (least : ScheduleFault) → IsFrom Has (code_of least) → ¬ (Has least)
    → IsFrom Has (suc (code_of least))
from_above Has least from none fault h = elim (cases_lt (code_of least) (code_of fault)) [
  | inl more ↦ more
  | inr no_more ↦
      let number : code_of fault ≡ code_of least = omega (arith, no_more, from fault h) in
      let same : fault ≡ least = sym (fault_is_back fault) ∙ ap fault_of number ∙ fault_is_back least in
      absurd (none (subst Has same h))
]

-- an unprintable byte is the lowest fault
pub lowest_unprintable : (Has : ScheduleFault → Type 0) → Has NotPrintable → IsLowestFault Has NotPrintable
lowest_unprintable Has has = record { is_there = has; lowest = λ other h. from_first other }

-- the faults that a line hasn't bound the number of those that it has
pub from_two : (Has : ScheduleFault → Type 0) → ¬ (Has NotPrintable) → IsFrom Has 2
from_two Has = from_above Has NotPrintable (λ fault h. from_first fault)

pub from_three : (Has : ScheduleFault → Type 0) → ¬ (Has NotPrintable) → ¬ (Has UnknownWord) → IsFrom Has 3
from_three Has first second = from_above Has UnknownWord (from_two Has first) second

from_four : (Has : ScheduleFault → Type 0) → ¬ (Has NotPrintable) → ¬ (Has UnknownWord) → ¬ (Has NodesLine) → IsFrom Has 4
from_four Has first second third = from_above Has NodesLine (from_three Has first second) third

from_five : (Has : ScheduleFault → Type 0) → ¬ (Has NotPrintable) → ¬ (Has UnknownWord) → ¬ (Has NodesLine) → ¬ (Has WordCount)
    → IsFrom Has 5
from_five Has first second third fourth = from_above Has WordCount (from_four Has first second third) fourth

pub from_six : (Has : ScheduleFault → Type 0) → ¬ (Has NotPrintable) → ¬ (Has UnknownWord) → ¬ (Has NodesLine) → ¬ (Has WordCount)
    → ¬ (Has WordForm) → IsFrom Has 6
from_six Has first second third fourth fifth = from_above Has WordForm (from_five Has first second third fourth) fifth

-- ---- the lowest fault of a line is that of its words
-- where a row has its words and their count, no row has another count
pub not_count : (words : List (List ℕ)) (row : Row) → HasItsCount (places row) words → HasItsWords (places row) words
    → ¬ (HasOtherCount words)
not_count words row is its other =
    let same : row ≡ other.row = one_row words row other.row is its other.its_words in
    other.other_count (subst (λ (r : Row). HasItsCount (places r) words) same is)

begins_as_nodes : (others : List (List ℕ)) → HasItsWords (places (line_of Nodes)) (codes "nodes" ∷ others)
begins_as_nodes others = (refl, tt)

pub words_fault_lowest : (n : ℕ) (text : List ℕ) (fault : ScheduleFault) → All IsPrintable text
    → IsWordsFault n (words_of text) fault → IsLowestFault (HasFault n text) fault
words_fault_lowest n text NotPrintable prints at = absurd at
words_fault_lowest n text UnknownWord prints at = record {
  is_there = at;
  lowest = from_two (HasFault n text) (prints_throughout text prints);
}
words_fault_lowest n text NodesLine prints at = record {
  is_there = at;
  lowest = from_three (HasFault n text) (prints_throughout text prints)
      (λ unknown. unknown (line_of Nodes) (rw at.1 (begins_as_nodes at.0)));
}
words_fault_lowest n text WordCount prints at = record {
  is_there = at.0;
  lowest = from_four (HasFault n text) (prints_throughout text prints) (λ unknown. unknown at.0.row at.0.its_words)
      (λ nodes. at.1 nodes.0 nodes.1);
}
words_fault_lowest n text WordForm prints at = record {
  is_there = at.0;
  lowest = from_five (HasFault n text) (prints_throughout text prints) (λ unknown. unknown at.0.row at.0.its_words)
      (λ nodes. at.1 nodes.0 nodes.1) (not_count (words_of text) at.0.row at.0.its_count at.0.its_words);
}
words_fault_lowest n text Document prints at = absurd at

-- ---- lines with nothing wrong before their document
-- the words at each place are what it wants
abbrev pub AllFit : ℕ → List Place → List (List ℕ) → Type 0
AllFit n [] words = Unit {0}
AllFit n (place ∷ others) words = IsOfForm n place (words_at place words) × AllFit n others (drop (width place) words)

-- the words are those of a row
pub record IsRowOf (n : ℕ) (words : List (List ℕ)) : Type 0 where
  pub row : Row
  pub fit : AllFit n (places row) words
  pub its_count : HasItsCount (places row) words
  pub no_nodes : (others : List (List ℕ)) → words ≢ codes "nodes" ∷ others

pub fit_its_words : (n : ℕ) (at : List Place) (words : List (List ℕ)) → AllFit n at words → HasItsWords at words
fit_its_words n [] words f = tt
fit_its_words n (the_word wanted ∷ others) [] f = tt
fit_its_words n (the_word wanted ∷ others) (word ∷ words) f = (f.0.1, fit_its_words n others words f.1)
fit_its_words n (place ∷ others) words f = fit_its_words n others (drop (width place) words) f.1

fit_throughout : (n : ℕ) (at : List Place) (words : List (List ℕ)) → AllFit n at words → ¬ (HasMisfit n at words)
fit_throughout n [] words f m = m
fit_throughout n (place ∷ others) words f m =
    elim m [ inl w ↦ w f.0 | inr more ↦ fit_throughout n others (drop (width place) words) f.1 more ]

pub row_words : (n : ℕ) (words : List (List ℕ)) (is : IsRowOf n words) → HasItsWords (places is.row) words
row_words n words is = fit_its_words n (places is.row) words is.fit

-- nothing is wrong with such words but for a document
pub row_faultless : (n : ℕ) (text : List ℕ) → All IsPrintable text → IsRowOf n (words_of text) → (fault : ScheduleFault)
    → fault ≢ Document → ¬ (HasFault n text fault)
row_faultless n text prints is NotPrintable other h = prints_throughout text prints h
row_faultless n text prints is UnknownWord other h = h is.row (row_words n (words_of text) is)
row_faultless n text prints is NodesLine other h = is.no_nodes h.0 h.1
row_faultless n text prints is WordCount other h =
    not_count (words_of text) is.row is.its_count (row_words n (words_of text) is) h
row_faultless n text prints is WordForm other h =
    let same : h.row ≡ is.row = one_row (words_of text) h.row is.row h.its_count h.its_words (row_words n (words_of text) is) in
    fit_throughout n (places is.row) (words_of text) is.fit
    (subst (λ (r : Row). HasMisfit n (places r) (words_of text)) same h.misfit)
row_faultless n text prints is Document other h = other refl

-- a wrong document is the lowest fault of a line with nothing else wrong
pub document_lowest : (n : ℕ) (text : List ℕ) → All IsPrintable text → IsRowOf n (words_of text) → HasFault n text Document
    → IsLowestFault (HasFault n text) Document
document_lowest n text prints is wrong = record {
  is_there = wrong;
  lowest = from_six (HasFault n text) (row_faultless n text prints is NotPrintable (λ e. cc))
      (row_faultless n text prints is UnknownWord (λ e. cc)) (row_faultless n text prints is NodesLine (λ e. cc))
      (row_faultless n text prints is WordCount (λ e. cc)) (row_faultless n text prints is WordForm (λ e. cc));
}
