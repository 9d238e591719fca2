-- What an audit is: whether one list of commands explains what transcripts tell of what a schedule submits and asks.
use Rattle.std.specs.Prelude.{ℕ, Bool, true, List, [], ◌∷◌, length, flat_map, cond, nat_le}
use Rattle.events.specs.declared.event.Event.{Event}
use Rattle.events.specs.declared.event.Event.TheVariants as event
use Rattle.schedule.specs.Schedules.{Plan, IsScheduleOf, IsParseRefusal, IsNoSchedule}
use Rattle.schedule.specs.declared.action.Action.{Action}
use Rattle.schedule.specs.declared.action.Action.TheVariants.{Step}
use Rattle.schedule.specs.declared.schedule.ScheduleLine.{ScheduleLine}
use Rattle.sessions.specs.declared.submission.Submission.{Submission}
use Rattle.sessions.specs.declared.request.TheConstants.{MOST_PUT_POINTS}
use Rattle.store.specs.declared.op.Op.{Op}
use Rattle.store.specs.declared.op.Op.TheVariants.{Put, Append, Remove}
use Rattle.verdicts.specs.Verdicts.{IsVerdict}
use Rattle.verdicts.specs.declared.lines.LearnLine.{LearnLine}
use Rattle.verdicts.specs.declared.lines.Question.{Question}
use Rattle.verdicts.specs.declared.lines.ToldLine.{ToldLine}
use Rattle.verdicts.specs.declared.verdict.Verdict.{Verdict}
use Rattle.audit.specs.Files.{AreRead, texts_from}
use Rattle.audit.specs.declared.fault.AuditFault.{AuditFault}
use Rattle.audit.specs.declared.fault.AuditFault.TheVariants as fault

-- ---- what a schedule asks for
-- a request may ask for it: a node refuses a longer put, which becomes no command
abbrev pub is_short : Op → Bool
is_short (Put id seq) = nat_le (length seq.points) MOST_PUT_POINTS
is_short (Append addition) = true
is_short (Remove id) = true

-- the request that is submitted
abbrev pub requests_of_event : Event → List Submission
requests_of_event (event.Submit node submission) = cond (is_short submission.op) (submission ∷ []) []
requests_of_event _ = []

abbrev pub requests_in : Action → List Submission
requests_in (Step what) = requests_of_event what
requests_in _ = []

-- the query that is asked, and the node that it asks
abbrev pub questions_of_event : Event → List Question
questions_of_event (event.Query node query) = record { node = node; query = query } ∷ []
questions_of_event _ = []

abbrev pub questions_in : Action → List Question
questions_in (Step what) = questions_of_event what
questions_in _ = []

-- ---- the audit
-- the bytes are a schedule's, the lines of the transcripts are read, and the verdict is one on them
pub record IsAudit (schedule : List ℕ) (transcripts : List (List ℕ)) (verdict : Verdict) : Type 0 where
  pub plan : Plan
  pub spelled : IsScheduleOf schedule plan
  pub learns : List LearnLine
  pub told : List ToldLine
  pub read : AreRead plan.nodes (texts_from 0 transcripts) learns told
  pub is_verdict : IsVerdict (flat_map (λ (line : ScheduleLine). requests_in line.action) plan.lines)
      (flat_map (λ (line : ScheduleLine). questions_in line.action) plan.lines) learns told verdict

-- the schedule is none, and its first fault is this one; or memory ran out
abbrev pub IsNoAudit : List ℕ → AuditFault → Type 0
IsNoAudit schedule (fault.Schedule refused) = IsParseRefusal schedule refused × IsNoSchedule schedule refused.cause
IsNoAudit schedule fault.Memory = Unit {0}
