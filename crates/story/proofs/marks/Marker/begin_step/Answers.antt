use Rattle.std.proofs.Common.{◌≡◌, ◌≤◌, ◌∙◌, ◌++◌, Option, None, List, append-nil, length, map, slice_get, sym, ap, arith}
use Rattle.std.proofs.lemmas.Bool.Decides.{nat_tests}
use Rattle.std.proofs.lemmas.Option.{slice_get_past}
use Rattle.story.specs.Marking.{Marking, marking, step_marks}
use Rattle.story.specs.declared.ledger.Step.{Step}
use Rattle.story.proofs.marks.Marker.begin_step.Goals as goal

-- a step that isn't there has no mark
pub returns-in-None-clause-marks : goal.returns-in-None-clause-marks
returns-in-None-clause-marks c =
    let lookup = c.in-None.ensures.lookup in
    let past : length c.args.steps.now ≤ c.args.number = first_of (omega arith, grind (arith, nat_tests)) in
    let before : List Marking = map marking c.args.self.now.marks.items in
    let none : slice_get c.args.steps.now c.args.number ≡ None = slice_get_past _ _ past in
    sym (ap (λ (o : Option Step). before ++ step_marks c.args.number o) none ∙ append-nil before)
