use Rattle.std.proofs.Common.{ℕ, List, ◌∷◌, ◌++◌, decimal, ap, ◌∙◌, arith}
use Rattle.replay.proofs.WholeLines.{none_behind, event_joined}
use Rattle.replay.proofs.line_texts.write_event.Goals as goal

pub returns : goal.returns
returns c = record {
  in_line = omega arith;
  written = rw c.from.ensures at
      (c.write_text.ensures.written ∙ ap (λ (l : List ℕ). c.args.word.now ++ l)
      (c.write_number-start-2.ensures.written ∙ ap (λ (l : List ℕ). decimal c.from.result ++ l)
      (c.write_byte-start-2.ensures.written ∙ ap (λ (l : List ℕ). 32 ∷ l)
      (c.write_number-start.ensures.written ∙ ap (λ (l : List ℕ). decimal c.args.number ++ l)
      (c.write_byte-start.ensures.written ∙ ap (λ (l : List ℕ). 10 ∷ l)
      (none_behind _ _ c.requires.whole))))) ∙ event_joined c.args.word.now (decimal c.from.result) (decimal c.args.number));
}
