use Rattle.std.proofs.Common.{◌≡◌, [], sym, ◌∙◌}
use Rattle.schedule.specs.Words.{words_of}
use Rattle.audit.proofs.NumberLemmas.{some_piece}
use Rattle.audit.proofs.answer_line.answer_row.Goals as goal

pub returns-in_default-rest : goal.returns-in_default-rest
returns-in_default-rest c = λ node position text is.
    let rows = sym is.row ∙ c.in-Ok.ensures in
    let over = c.in_default-rest.ensures in
    let none : words_of text ≡ [] = cc in some_piece 32 text none
