use Rattle.std.proofs.Common.{ℕ, List, ◌∷◌, ◌++◌, codes, decimal, ap, ◌∙◌, arith}
use Rattle.replay.proofs.WholeLines.{none_behind, event_joined}
use Rattle.replay.specs.Transcripts.{end_text}
use Rattle.replay.proofs.line_texts.write_round.Goals as goal

pub returns : goal.returns
returns c = record {
  in_line = omega arith;
  written = rw c.from.ensures at
      (c.write_text.ensures.written ∙ ap (λ (l : List ℕ). codes "round " ++ l)
      (c.write_number-start.ensures.written ∙ ap (λ (l : List ℕ). decimal c.from.result ++ l)
      (c.write_byte-start-2.ensures.written ∙ ap (λ (l : List ℕ). 32 ∷ l)
      (c.write_end-start.ensures.written ∙ ap (λ (l : List ℕ). end_text c.args.end ++ l)
      (c.write_byte-start.ensures.written ∙ ap (λ (l : List ℕ). 10 ∷ l)
      (none_behind _ _ c.requires))))) ∙ event_joined (codes "round ") (decimal c.from.result) (end_text c.args.end));
}
