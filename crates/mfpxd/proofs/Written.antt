-- What is written to a stream, piece by piece.
use Rattle.std.proofs.Common.{◌≡◌, ◌∙◌, ℕ, List, ◌++◌, Option, Some, None, take, drop, sym, ap}
use Rattle.std.specs.Io.KnownBytes.{Appends}
use Rattle.std.proofs.lemmas.List.{append_assoc, take-append-drop}
use Rattle.mfpxd.specs.Streams.{Writes}

-- bytes behind bytes
appends_both : (held holds ends : Option (List ℕ)) (one two : List ℕ) → Appends held holds one → Appends holds ends two
    → Appends held ends (one ++ two)
appends_both None holds ends one two first second = tt
appends_both (Some xs) None ends one two first second = absurd first
appends_both (Some xs) (Some ys) None one two first second = absurd second
appends_both (Some xs) (Some ys) (Some zs) one two first second =
    second ∙ ap (λ front. front ++ two) first ∙ append_assoc xs one two

-- what was written before and what is written now were the front
pub writes_more : (waited waits piece left : List ℕ) (count : ℕ) (held holds ends : Option (List ℕ)) → Writes waited waits held holds
    → piece ≡ waits → left ≡ drop count waits → Appends holds ends (take count piece) → Writes waited left held ends
writes_more waited waits piece left count held holds ends before same rest more = record {
  front = before.front ++ take count waits;
  parts =
      before.parts ∙ ap (λ bytes. before.front ++ bytes) (sym (take-append-drop count waits) ∙ ap (λ bytes. take count waits ++ bytes) (sym rest))
      ∙ sym (append_assoc before.front (take count waits) left);
  written = appends_both held holds ends before.front (take count waits) before.written (rw same at more);
}
