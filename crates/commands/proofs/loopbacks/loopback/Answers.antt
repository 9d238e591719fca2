use Rattle.std.proofs.Common.{inr}
use Rattle.std.proofs.lemmas.Result.{IfErr-weaker, IfOk-weaker}
use Rattle.commands.proofs.loopbacks.loopback.Goals as goal

-- the run is one through the transport that was bound
pub returns-clause-looped : goal.returns-clause-looped
returns-clause-looped g c =
    IfOk-weaker c.run_through_transport.result _ _ (λ text runs. record {
      plan = c.in_ok-schedule.schedule;
      spelled = c.in_ok-schedule.ensures.spelled;
      transport = c.in_ok-transport.transport;
      bound = rw (← c.nodes.ensures) c.in_ok-transport.ensures.bound;
      runs = runs;
    }) c.run_through_transport.ensures.makes

-- so is one that ends without a text
pub returns-clause-ends : goal.returns-clause-ends
returns-clause-ends g c =
    IfErr-weaker c.run_through_transport.result _ _ (λ failure stops memory device. inr (record {
      plan = c.in_ok-schedule.schedule;
      spelled = c.in_ok-schedule.ensures.spelled;
      transport = c.in_ok-transport.transport;
      bound = rw (← c.nodes.ensures) c.in_ok-transport.ensures.bound;
      stops = stops memory;
    })) c.run_through_transport.ensures.ends
