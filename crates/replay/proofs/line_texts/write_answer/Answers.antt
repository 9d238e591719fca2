use Rattle.std.proofs.Common.{ℕ, List, ◌∷◌, ◌++◌, codes, decimal, ap, ◌∙◌, arith}
use Rattle.replay.proofs.WholeLines.{none_behind, answer_joined}
use Rattle.replay.proofs.line_texts.write_answer.Goals as goal

pub returns : goal.returns
returns c = record {
  in_line = omega arith;
  written = c.write_asked.ensures.written ∙ ap (λ (l : List ℕ). (codes "answer " ++ decimal c.args.node ++ codes " " ++ decimal c.args.position ++ codes " ") ++ l)
      (c.write_text-start.ensures.written ∙ ap (λ (l : List ℕ). c.args.answer.now ++ l)
      (c.write_byte-start.ensures.written ∙ ap (λ (l : List ℕ). 10 ∷ l)
      (none_behind _ _ c.requires.whole))) ∙ answer_joined (codes "answer " ++ decimal c.args.node ++ codes " " ++ decimal c.args.position ++ codes " ") c.args.answer.now;
}
