-- An audit by its parts.
use Rattle.std.proofs.Common.{◌≡◌, ℕ, List, sym, subst}
use Rattle.std.specs.List.{flat_map}
use Rattle.schedule.specs.Schedules.{Plan, IsScheduleOf}
use Rattle.schedule.specs.declared.schedule.ScheduleLine.{ScheduleLine}
use Rattle.sessions.specs.declared.submission.Submission.{Submission}
use Rattle.verdicts.specs.Verdicts.{IsVerdict}
use Rattle.verdicts.specs.declared.lines.LearnLine.{LearnLine}
use Rattle.verdicts.specs.declared.lines.Question.{Question}
use Rattle.verdicts.specs.declared.lines.ToldLine.{ToldLine}
use Rattle.verdicts.specs.declared.verdict.Verdict.{Verdict}
use Rattle.audit.specs.Audits.{IsAudit, requests_in, questions_in}
use Rattle.audit.specs.Files.{AreRead, texts_from}

pub audited : (schedule : List ℕ) (transcripts : List (List ℕ)) (verdict : Verdict) (plan : Plan) (nodes : ℕ)
    (requests : List Submission) (questions : List Question) (learns read_learns : List LearnLine) (told read_told : List ToldLine)
    → IsScheduleOf schedule plan → nodes ≡ plan.nodes
    → requests ≡ flat_map (λ (line : ScheduleLine). requests_in line.action) plan.lines
    → questions ≡ flat_map (λ (line : ScheduleLine). questions_in line.action) plan.lines
    → learns ≡ read_learns → told ≡ read_told → AreRead nodes (texts_from 0 transcripts) read_learns read_told
    → IsVerdict requests questions learns told verdict
    → IsAudit schedule transcripts verdict
audited schedule transcripts verdict plan nodes requests questions learns read_learns told read_told spelled count submits asks same_learns same_told read is = record {
  plan = plan;
  spelled = spelled;
  learns = learns;
  told = told;
  read =
      subst (λ (n : ℕ). AreRead n (texts_from 0 transcripts) learns told) count
      (subst (λ (ls : List LearnLine). AreRead nodes (texts_from 0 transcripts) ls told) (sym same_learns)
      (subst (λ (ts : List ToldLine). AreRead nodes (texts_from 0 transcripts) read_learns ts) (sym same_told) read));
  is_verdict =
      subst (λ (qs : List Question). IsVerdict (flat_map (λ (line : ScheduleLine). requests_in line.action) plan.lines) qs learns told verdict) asks
      (subst (λ (rs : List Submission). IsVerdict rs questions learns told verdict) submits is);
}
