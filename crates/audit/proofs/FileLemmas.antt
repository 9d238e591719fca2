-- The lines of transcripts, one after another.
use Rattle.std.proofs.Common.{◌≡◌, ◌≢◌, ℕ, ◌+◌, ◌<◌, take, ◌==◌, Bool, IsTrue, ◌↔◌, true, false, cond, List, [], ◌∷◌, ◌++◌, map, length, Some, refl, sym, ap, ◌∙◌, subst, arith, append_assoc, length-take}
use Rattle.std.proofs.lemmas.List.{length-map}
use Rattle.std.proofs.lemmas.Grind.{common_steps}
use Rattle.std.proofs.lemmas.Bool.Decides.{nat_tests}
use Rattle.schedule.specs.Lines.{NumberedText, pieces, numbered, line_feed}
use Rattle.audit.specs.Files.{PlacedText, AreRead, placed, placed_lines, texts_from, transcript_lines, without_end}
use Rattle.audit.specs.Rows.{IsReadAs}
use Rattle.audit.specs.declared.line.Line.{Line}
use Rattle.audit.specs.declared.transcripts.Tellings.{Tellings}

pub read_as : (nodes : ℕ) (is_last : Bool) (text : List ℕ) (read said : Line) → read ≡ said → IsReadAs nodes is_last text read
    → IsReadAs nodes is_last text said
read_as nodes is_last text read said same is = subst (λ (l : Line). IsReadAs nodes is_last text l) same is

-- ---- the line feed that ends a transcript
pub end_taken : (text : List ℕ) → without_end (text ++ 10 ∷ []) ≡ text
end_taken [] = refl
end_taken (byte ∷ []) = refl
end_taken (byte ∷ next ∷ more) = ap (λ (bytes : List ℕ). byte ∷ bytes) (end_taken (next ∷ more))

another_byte : (byte : ℕ) → byte ≢ 10 → cond (byte == 10) [] (byte ∷ []) ≡ byte ∷ []
another_byte byte other = grind (arith, nat_tests)

pub end_kept : (bytes : List ℕ) → ((text : List ℕ) → bytes ≢ text ++ 10 ∷ []) → without_end bytes ≡ bytes
end_kept [] none = refl
end_kept (byte ∷ []) none = another_byte byte (λ e. none [] (ap (λ (b : ℕ). b ∷ []) e))
end_kept (byte ∷ next ∷ more) none =
    ap (λ (bytes : List ℕ). byte ∷ bytes) (end_kept (next ∷ more) (λ text e. none (byte ∷ text) (ap (λ (bytes : List ℕ). byte ∷ bytes) e)))

-- ---- one transcript
-- the lines up to the ones that are left were read
pub record ArePassed (nodes file : ℕ) (all rest : List NumberedText) (was now : Tellings) : Type 0 where
  pub done : List PlacedText
  pub parts : placed_lines file all ≡ done ++ placed_lines file rest
  pub read : (before : List PlacedText) → AreRead nodes before was.learns.items was.told.items
      → AreRead nodes (before ++ done) now.learns.items now.told.items

append_nothing : {X : Type 0} (xs : List X) → xs ++ [] ≡ xs
append_nothing xs = grind (arith, common_steps)

pub none_passed : (nodes file : ℕ) (all : List NumberedText) (was : Tellings) → ArePassed nodes file all all was was
none_passed nodes file all was = record {
  done = [];
  parts = refl;
  read = λ before r. subst (λ (texts : List PlacedText). AreRead nodes texts was.learns.items was.told.items) (sym (append_nothing before)) r;
}

map_more : {X Y : Type 0} (f : X → Y) (xs : List X) (x : X) → map f (xs ++ x ∷ []) ≡ map f xs ++ f x ∷ []
map_more f [] x = refl
map_more f (y ∷ ys) x = ap (λ zs. f y ∷ zs) (map_more f ys x)

append_more : {X : Type 0} (xs ys zs : List X) → xs ++ (ys ++ zs) ≡ (xs ++ ys) ++ zs
append_more xs ys zs = sym (append_assoc xs ys zs)

-- the test for the last line is that no line is left
last_is : (is_last : Bool) (rest : List NumberedText) → IsTrue is_last ↔ (rest ≡ []) → is_last ≡ (length rest == 0)
last_is true [] over = refl
last_is false [] over = over.1 refl
last_is true (line ∷ more) over = absurd (let e = over.0 refl in cc)
last_is false (line ∷ more) over = grind (arith, nat_tests)

-- one line more is passed
pub passed_more : (nodes file : ℕ) (is_last : Bool) (all rest now_rest : List NumberedText) (line : NumberedText)
    (was now next : Tellings) → rest ≡ line ∷ now_rest → IsTrue is_last ↔ (now_rest ≡ [])
    → ((before : List PlacedText) → AreRead nodes before now.learns.items now.told.items
    → AreRead nodes (before ++ placed file is_last line ∷ []) next.learns.items next.told.items)
    → ArePassed nodes file all rest was now → ArePassed nodes file all now_rest was next
passed_more nodes file is_last all rest now_rest line was now next is over reads p = record {
  done = p.done ++ placed file is_last line ∷ [];
  parts =
      let left : placed_lines file rest ≡ placed file is_last line ∷ placed_lines file now_rest =
      ap (λ (ls : List NumberedText). placed_lines file ls) is
      ∙ ap (λ (last : Bool). placed file last line ∷ placed_lines file now_rest) (sym (last_is is_last now_rest over)) in
      p.parts ∙ (ap (λ (ts : List PlacedText). p.done ++ ts) left
      ∙ append_more p.done (placed file is_last line ∷ []) (placed_lines file now_rest));
  read = λ before r.
      subst (λ (ts : List PlacedText). AreRead nodes ts next.learns.items next.told.items)
      (sym (append_more before p.done (placed file is_last line ∷ []))) (reads (before ++ p.done) (p.read before r));
}

-- all lines are passed where none is left
pub all_passed : (nodes file : ℕ) (all rest : List NumberedText) (was now : Tellings) → rest ≡ []
    → ArePassed nodes file all rest was now → (before : List PlacedText) → AreRead nodes before was.learns.items was.told.items
    → AreRead nodes (before ++ placed_lines file all) now.learns.items now.told.items
all_passed nodes file all rest was now none p before r =
    let same : placed_lines file all ≡ p.done =
    p.parts ∙ (ap (λ (left : List NumberedText). p.done ++ placed_lines file left) none ∙ append_nothing p.done) in
    subst (λ (texts : List PlacedText). AreRead nodes (before ++ texts) now.learns.items now.told.items) (sym same) (p.read before r)

-- an empty transcript has no line
pub nothing_passed : (nodes file : ℕ) (bytes : List ℕ) (was : Tellings) → length bytes ≡ 0 → (before : List PlacedText)
    → AreRead nodes before was.learns.items was.told.items
    → AreRead nodes (before ++ placed_lines file (transcript_lines bytes)) was.learns.items was.told.items
nothing_passed nodes file [] was empty before r =
    subst (λ (texts : List PlacedText). AreRead nodes texts was.learns.items was.told.items) (sym (append_nothing before)) r
nothing_passed nodes file (byte ∷ more) was empty before r = absurd (omega (arith, empty))

pub filled_lines : (bytes : List ℕ) → length bytes ≢ 0
    → transcript_lines bytes ≡ numbered 1 (pieces line_feed (Some (without_end bytes)))
filled_lines [] filled = absurd (filled refl)
filled_lines (byte ∷ more) filled = refl

-- ---- several transcripts
-- one transcript more
pub texts_more : (file : ℕ) (before : List (List ℕ)) (bytes : List ℕ)
    → texts_from file (before ++ bytes ∷ []) ≡ texts_from file before ++ placed_lines (file + length before) (transcript_lines bytes)
texts_more file [] bytes =
    append_nothing (placed_lines file (transcript_lines bytes))
    ∙ ap (λ (n : ℕ). placed_lines n (transcript_lines bytes)) (omega arith)
texts_more file (one ∷ before) bytes =
    ap (λ (ts : List PlacedText). placed_lines file (transcript_lines one) ++ ts) (texts_more (file + 1) before bytes)
    ∙ (append_more (placed_lines file (transcript_lines one)) (texts_from (file + 1) before)
    (placed_lines ((file + 1) + length before) (transcript_lines bytes))
    ∙ ap (λ (n : ℕ). (placed_lines file (transcript_lines one) ++ texts_from (file + 1) before) ++ placed_lines n (transcript_lines bytes))
    (omega arith))

place_of : {X : Type 0} (bytes_of : X → List ℕ) (all : List X) (i : ℕ) → i < length all → 0 + length (map bytes_of (take i all)) ≡ i
place_of bytes_of all i within = simp (length-map, length-take) (omega arith)

-- the transcripts before this one, and its lines
pub texts_at : {X : Type 0} (bytes_of : X → List ℕ) (all : List X) (i : ℕ) (x : X) (bytes : List ℕ) → i < length all
    → take (i + 1) all ≡ take i all ++ x ∷ [] → bytes ≡ bytes_of x
    → texts_from 0 (map bytes_of (take (i + 1) all))
    ≡ texts_from 0 (map bytes_of (take i all)) ++ placed_lines i (transcript_lines bytes)
texts_at bytes_of all i x bytes within more is =
    ap (λ xs. texts_from 0 (map bytes_of xs)) more
    ∙ (ap (λ (bs : List (List ℕ)). texts_from 0 bs) (map_more bytes_of (take i all) x)
    ∙ (texts_more 0 (map bytes_of (take i all)) (bytes_of x)
    ∙ ap (λ (n : ℕ). texts_from 0 (map bytes_of (take i all)) ++ placed_lines n (transcript_lines (bytes_of x))) (place_of bytes_of all i within)
    ∙ ap (λ (b : List ℕ). texts_from 0 (map bytes_of (take i all)) ++ placed_lines i (transcript_lines b)) (sym is)))
