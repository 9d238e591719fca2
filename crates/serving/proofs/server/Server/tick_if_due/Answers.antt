use Rattle.std.proofs.Common.{IsTrue, ap, inl, inr, refl, ◌∙◌}
use Rattle.serving.specs.Processes.{ProcessState}
use Rattle.serving.specs.Seen.{server_of}
use Rattle.serving.proofs.Keeping.{never_so}
use Rattle.serving.proofs.Packets.{on_fault_so, on_ok_so}
use Rattle.serving.proofs.Leading.{serves_none}
use Rattle.serving.proofs.server.Server.tick_if_due.Goals as goal

pub returns-then-not-tick-clause-serves : goal.returns-then-not-tick-clause-serves
returns-then-not-tick-clause-serves g c =
    serves_none g.S.Stable (server_of c.args.self.now)

pub returns-then-not-tick-clause-ticks : goal.returns-then-not-tick-clause-ticks
returns-then-not-tick-clause-ticks g c =
    let still : IsTrue c.tick.result → ⊥ = λ ticks. never_so c.tick.result ticks c.if-not-tick.true in
    inr (λ due. still (c.tick.ensures.due.1 due), refl, c.tick.ensures.waits still)

pub returns-clause-ticks : goal.returns-clause-ticks
returns-clause-ticks g c =
    on_ok_so c.give.result
    (λ given. inl (
      c.tick.ensures.due.0 c.if-not-tick.false,
      given,
      ap (λ (p : ProcessState _). p.timing) c.give.ensures.others ∙ c.tick.ensures.ticks c.if-not-tick.false,
    ))
    c.give.ensures.gives

pub returns-clause-stops : goal.returns-clause-stops
returns-clause-stops g c =
    on_fault_so c.give.result (λ fault ends. (c.tick.ensures.due.0 c.if-not-tick.false, ends)) c.give.ensures.stops
