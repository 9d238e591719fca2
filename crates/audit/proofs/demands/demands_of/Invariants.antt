use Rattle.std.proofs.Common.{◌≡◌, take}
use Rattle.std.specs.List.{flat_map}
use Rattle.schedule.specs.declared.schedule.ScheduleLine.{ScheduleLine}
use Rattle.audit.specs.Audits.{requests_in, questions_in}
use Rattle.audit.proofs.demands.demands_of.Given as goal

-- what the lines so far ask for
abbrev pub invariant-loop-line : goal.invariant-loop-line
invariant-loop-line l =
    (l.demands.requests.items ≡ flat_map (λ (line : ScheduleLine). requests_in line.action) (take l.line-index l.line-items))
    × (l.demands.questions.items ≡ flat_map (λ (line : ScheduleLine). questions_in line.action) (take l.line-index l.line-items))
