use Rattle.std.proofs.Common.{◌∙◌}
use Rattle.schedule.proofs.Over.{some_line}
use Rattle.schedule.proofs.lines.Lines.is_over.Goals as goal

pub returns-in-Some : goal.returns-in-Some
returns-in-Some c =
    let view = rw c.in-Some.is at c.self.view_is in
    (λ e. absurd (cc), λ e. absurd (some_line c.self.inside.number c.in-Some.field-0.now (view ∙ e)))
