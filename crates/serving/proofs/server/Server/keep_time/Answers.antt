use Rattle.std.proofs.Common.{[], ap, ◌∙◌}
use Rattle.serving.proofs.Leading.{serves_then}
use Rattle.life.specs.Seen.{life_of}
use Rattle.serving.specs.Processes.{ProcessState}
use Rattle.serving.specs.Seen.{process_of}
use Rattle.serving.proofs.Keeping.{keeps_time_so}
use Rattle.serving.proofs.Packets.{on_fault_so, on_ok_so}
use Rattle.serving.proofs.Stopping.{stops_campaigning, stops_ticking}
use Rattle.std.proofs.lemmas.Result.{err_from_is_err_and}
use Rattle.serving.proofs.server.Server.keep_time.Goals as goal

pub returns-clause-serves : goal.returns-clause-serves
returns-clause-serves g c = serves_then g.S.Stable _ _ _ [] [] [] [] c.campaign_if_due.ensures.serves c.tick_if_due.ensures.serves

pub returns-clause-keeps : goal.returns-clause-keeps
returns-clause-keeps g c =
    on_ok_so c.tick_if_due.result
    (keeps_time_so g.S.Stable c.args.now (process_of c.args.self.now) (process_of c.campaign_if_due.new.self)
    (process_of c.tick_if_due.new.self) c.position-position.result c.is_asked-is_asked.result c.see_position.new.self
    c.position-position.ensures c.is_asked-is_asked.ensures c.see_position.ensures c.in_ok-campaign_if_due.ensures.campaigns)
    c.tick_if_due.ensures.ticks

pub returns-clause-others : goal.returns-clause-others
returns-clause-others g c =
    c.tick_if_due.ensures.others
    ∙ ap (λ (p : ProcessState _). record p { life = life_of c.tick_if_due.new.self.life; timing = c.tick_if_due.new.self.timing })
    c.campaign_if_due.ensures.others

pub returns-in_err-campaign_if_due-clause-stops : goal.returns-in_err-campaign_if_due-clause-stops
returns-in_err-campaign_if_due-clause-stops g c =
    let p = err_from_is_err_and c.from_residual.result c.from_residual.ensures.1 in
    rw (p.1, p.2) (stops_campaigning g.S.Stable c.args.now (process_of c.args.self.now) c.position-position.result
    c.is_asked-is_asked.result c.see_position.new.self _ _ c.position-position.ensures c.is_asked-is_asked.ensures c.see_position.ensures
    c.in_err-campaign_if_due.ensures.stops.0 c.in_err-campaign_if_due.ensures.stops.1)

pub returns-clause-stops : goal.returns-clause-stops
returns-clause-stops g c =
    on_fault_so c.tick_if_due.result
    (λ fault stops. stops_ticking g.S.Stable c.args.now (process_of c.args.self.now) (process_of c.campaign_if_due.new.self)
    c.position-position.result c.is_asked-is_asked.result c.see_position.new.self fault _ c.position-position.ensures
    c.is_asked-is_asked.ensures c.see_position.ensures c.in_ok-campaign_if_due.ensures.campaigns stops.0 stops.1)
    c.tick_if_due.ensures.stops
