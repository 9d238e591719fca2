use Rattle.std.proofs.Common.{ℕ, List, ◌∷◌, ◌++◌, codes, decimal, ap, ◌∙◌, arith}
use Rattle.replay.proofs.WholeLines.{none_behind, noop_joined}
use Rattle.replay.proofs.line_texts.write_noop.Goals as goal

pub returns : goal.returns
returns c = record {
  in_line = omega arith;
  written = rw (c.from.ensures, c.from-2.ensures) at
      (c.write_text.ensures.written ∙ ap (λ (l : List ℕ). codes "learn " ++ l)
      (c.write_number-start-2.ensures.written ∙ ap (λ (l : List ℕ). decimal c.from-2.result ++ l)
      (c.write_byte-start.ensures.written ∙ ap (λ (l : List ℕ). 32 ∷ l)
      (c.write_number-start.ensures.written ∙ ap (λ (l : List ℕ). decimal c.from.result ++ l)
      (c.write_text-start.ensures.written ∙ ap (λ (l : List ℕ). codes " noop\n" ++ l)
      (none_behind _ _ c.requires))))) ∙ noop_joined (decimal c.from-2.result) (decimal c.from.result));
}
