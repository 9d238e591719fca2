use Rattle.std.proofs.Common.{◌≡◌, ◌∙◌, rules}
use Rattle.audit.proofs.AuditLemmas.{audited}
use Rattle.audit.proofs.judgement.judge.Goals as goal

pub returns : goal.returns
returns c = λ bytes spelled.
    let nodes : c.count-nodes.result ≡ c.args.schedule.nodes = search rules in
    audited bytes _ c.in_ok-verdict.verdict c.args.schedule c.count-nodes.result _ _ _ _ _ _ spelled nodes
    (c.deref.ensures.value ∙ c.in_ok-demands.ensures.requests) (c.deref-2.ensures.value ∙ c.in_ok-demands.ensures.questions)
    c.deref-3.ensures.value c.deref-4.ensures.value c.in_ok-read.ensures c.in_ok-verdict.ensures
