use Rattle.std.proofs.Common.{ap, inl, inr, refl, ◌∙◌}
use Rattle.serving.specs.Processes.{ProcessState}
use Rattle.serving.specs.Seen.{server_of}
use Rattle.serving.proofs.Keeping.{never_so}
use Rattle.serving.proofs.Packets.{on_fault_so, on_ok_so}
use Rattle.serving.proofs.Leading.{serves_none}
use Rattle.serving.proofs.server.Server.campaign_if_due.Goals as goal

pub returns-then-not-is_campaign_due-clause-serves : goal.returns-then-not-is_campaign_due-clause-serves
returns-then-not-is_campaign_due-clause-serves g c =
    serves_none g.S.Stable (server_of c.args.self.now)

pub returns-then-not-is_campaign_due-clause-campaigns : goal.returns-then-not-is_campaign_due-clause-campaigns
returns-then-not-is_campaign_due-clause-campaigns g c =
    inr (
      λ due. never_so c.is_campaign_due.result (c.is_campaign_due.ensures.1 due) c.if-not-is_campaign_due.true,
      refl,
      refl,
    )

pub returns-clause-campaigns : goal.returns-clause-campaigns
returns-clause-campaigns g c =
    on_ok_so c.give.result
    (λ given. inl (
      c.is_campaign_due.ensures.0 c.if-not-is_campaign_due.false,
      given,
      ap (λ (p : ProcessState _). p.timing) c.give.ensures.others ∙ c.campaign.ensures,
    ))
    c.give.ensures.gives

pub returns-clause-stops : goal.returns-clause-stops
returns-clause-stops g c =
    on_fault_so c.give.result (λ fault ends. (c.is_campaign_due.ensures.0 c.if-not-is_campaign_due.false, ends)) c.give.ensures.stops
