use Rattle.std.proofs.Common.{ℕ, List, ◌∷◌, ◌++◌, codes, decimal, ap, ◌∙◌, arith}
use Rattle.replay.proofs.WholeLines.{none_behind, reply_joined}
use Rattle.replay.proofs.line_texts.write_reply.Goals as goal

pub returns : goal.returns
returns c = record {
  in_line = omega arith;
  written = rw (c.from.ensures, c.from-2.ensures, c.from-3.ensures) at
      (c.write_text.ensures.written ∙ ap (λ (l : List ℕ). codes "reply " ++ l)
      (c.write_number-start-4.ensures.written ∙ ap (λ (l : List ℕ). decimal c.from-3.result ++ l)
      (c.write_byte-start-4.ensures.written ∙ ap (λ (l : List ℕ). 32 ∷ l)
      (c.write_number-start-3.ensures.written ∙ ap (λ (l : List ℕ). decimal c.from-2.result ++ l)
      (c.write_byte-start-3.ensures.written ∙ ap (λ (l : List ℕ). 58 ∷ l)
      (c.write_number-start-2.ensures.written ∙ ap (λ (l : List ℕ). decimal c.args.number ++ l)
      (c.write_byte-start-2.ensures.written ∙ ap (λ (l : List ℕ). 32 ∷ l)
      (c.write_number-start.ensures.written ∙ ap (λ (l : List ℕ). decimal c.from.result ++ l)
      (c.write_byte-start.ensures.written ∙ ap (λ (l : List ℕ). 10 ∷ l)
      (none_behind _ _ c.requires))))))))) ∙ reply_joined (decimal c.from-3.result) (decimal c.from-2.result) (decimal c.args.number) (decimal c.from.result));
}
