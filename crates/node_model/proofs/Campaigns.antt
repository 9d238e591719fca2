-- Of a proposer that proposes, or gathers on, nothing changes but its campaign.
use Rattle.std.proofs.Common.{◌≡◌, ℕ, nat_lt, List, Option, Some, None, refl}
use Rattle.std.proofs.lemmas.Bool.{cond_both}
use Rattle.learner.specs.Learning.{Learning, prefix}
use Rattle.proposer.specs.Campaigning.{Campaigning}
use Rattle.proposer.specs.Proposing.{Proposing, gathers, gathers_on, leads, proposes}
use Rattle.proposer.specs.declared.sends.Outgoing.{Outgoing}
use Rattle.node_model.specs.Taking.{begins_to_lead, after_counting, proposed}

abbrev pub KeepsRest : Proposing → Proposing × List Outgoing → Type 0
KeepsRest p x = x.0 ≡ record p { campaign = x.0.campaign }

gathers_keeps : (p : Proposing) (k : Option Campaigning) (position : ℕ) → KeepsRest p (gathers_on p k position)
gathers_keeps p None position = refl
gathers_keeps p (Some k) position = cond_both (gathers p.waiting position) _ _ (KeepsRest p) (λ _. refl) (λ _. refl)

leads_keeps : (p : Proposing) (k : Campaigning) (l : Learning) → KeepsRest p (leads p k l)
leads_keeps p k l = cond_both (nat_lt k.end (prefix l)) _ _ (KeepsRest p) (λ _. gathers_keeps p (Some k) (prefix l)) (λ _. refl)

pub proposes_keeps : (p : Proposing) (k : Option Campaigning) (l : Learning) → KeepsRest p (proposes p k l)
proposes_keeps p None l = refl
proposes_keeps p (Some k) l = cond_both k.leading _ _ (KeepsRest p) (λ _. leads_keeps p k l) (λ _. refl)

-- what it was before the promise was counted plays no part
pub counting_keeps : (p q : Proposing) (l : Learning) → KeepsRest q (after_counting p q l)
counting_keeps p q l = cond_both (begins_to_lead p q) (proposed q l) _ (KeepsRest q) (λ _. proposes_keeps q q.campaign l) (λ _. refl)
