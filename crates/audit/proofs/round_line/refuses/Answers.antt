use Rattle.audit.specs.Rows.{IsCampaignCode}
use Rattle.audit.proofs.NumberLemmas.{number_decides}
use Rattle.audit.proofs.round_line.refuses.Goals as goal

pub returns-in-Some : goal.returns-in-Some
returns-in-Some c = number_decides IsCampaignCode _ _ _ c.in-Some.ensures c.is_campaign_code.ensures

pub returns-in-None : goal.returns-in-None
returns-in-None c = (λ e. absurd (cc), λ told. absurd (c.in-None.ensures told.0 told.1))
