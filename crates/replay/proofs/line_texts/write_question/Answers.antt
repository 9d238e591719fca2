use Rattle.std.proofs.Common.{ℕ, List, ◌++◌, codes, decimal, ap, ◌∙◌, append-nil, arith}
use Rattle.replay.proofs.WholeLines.{none_behind}
use Rattle.replay.proofs.line_texts.write_question.Goals as goal

pub returns : goal.returns
returns c = record {
  in_line = omega arith;
  written = c.write_asked.ensures.written ∙ ap (λ (l : List ℕ). (codes "answer " ++ decimal c.args.node ++ codes " " ++ decimal c.args.position ++ codes " ") ++ l)
      (none_behind _ _ c.requires) ∙ append-nil (codes "answer " ++ decimal c.args.node ++ codes " " ++ decimal c.args.position ++ codes " ");
}
