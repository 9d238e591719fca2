-- What a report says, put together.
use Rattle.std.proofs.Common.{◌≡◌, ◌≢◌, ℕ, List, Some, None, subst}
use Rattle.mfjson.specs.Document.{IsDocumentOf}
use Rattle.mfjson.specs.Faults.{IsFaultOf}
use Rattle.mfjson.specs.declared.fault.MfFault.{MfFault}
use Rattle.mfjson.specs.declared.fault.MfFault.TheVariants.{Memory}
use Rattle.mfjson.specs.declared.feature.Feature.{Feature}
use Rattle.schedule.specs.Causes.{WhyUnread}
use Rattle.schedule.specs.Schedules.{IsFirstFault, IsNumberReached, IsParseRefusal, IsScheduleOf, Plan}
use Rattle.schedule.specs.declared.fault.ScheduleFault.{ScheduleFault}
use Rattle.schedule.specs.declared.replay_fault.ReplayCause.{ReplayCause}
use Rattle.schedule.specs.declared.replay_fault.ReplayCause.TheVariants.{Schedule}
use Rattle.schedule.specs.declared.replay_fault.ReplayFault.{ReplayFault}
use Rattle.fault_report.specs.Reports.{IsDocumentReport, IsScheduleReport, TellsDocument, TellsLine}

pub no_document_report : (name bytes : List ℕ) (feature : Feature) → IsDocumentOf bytes feature → IsDocumentReport name bytes None
no_document_report name bytes feature is = (feature, is)

pub document_report : (name bytes text : List ℕ) (fault : MfFault) → IsFaultOf bytes fault → fault ≢ Memory → TellsDocument name fault text
    → IsDocumentReport name bytes (Some text)
document_report name bytes text fault is cause tells = record { fault = fault; is_fault = is; cause = cause; tells = tells }

pub no_schedule_report : (name bytes : List ℕ) (plan : Plan) → IsScheduleOf bytes plan → IsScheduleReport name bytes None
no_schedule_report name bytes plan is = (plan, is)

pub schedule_report : (name bytes text : List ℕ) (line : ℕ) (fault : ScheduleFault) → IsFirstFault bytes line fault
    → TellsLine name line fault text → IsScheduleReport name bytes (Some text)
schedule_report name bytes text line fault is tells = record { line = line; fault = fault; is_first = is; tells = tells }

-- bytes that were refused for this fault have it first
pub first_fault : (bytes : List ℕ) (refusal : ReplayFault) (fault : ScheduleFault) → IsParseRefusal bytes refusal
    → refusal.cause ≡ Schedule fault → IsFirstFault bytes refusal.line fault
first_fault bytes refusal fault why is =
    subst (λ (cause : ReplayCause). WhyUnread (IsFirstFault bytes refusal.line) (IsNumberReached bytes refusal.line) cause) is why
