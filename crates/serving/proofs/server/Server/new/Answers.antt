use Rattle.std.proofs.Common.{ap}
use Rattle.life.specs.Seen.{life_of}
use Rattle.serving.specs.Waitings.{WaitingState}
use Rattle.serving.proofs.Leading.{born_serves}
use Rattle.serving.proofs.server.Server.new.Goals as goal

pub returns-clause-process : goal.returns-clause-process
returns-clause-process g c = λ i. record {
  own = c.args.own;
  nodes = c.args.nodes;
  life = life_of c.args.life;
  waiting = c.none.ensures i;
  requests = c.none-2.ensures i;
  timing = c.new.ensures i;
}

pub returns-clause-born : goal.returns-clause-born
returns-clause-born g c = λ id count storage born.
    born_serves g.S.Stable id count storage
    (record { life = life_of c.args.life; waiting = c.none.result; requests = c.none-2.result }) born
    (ap (λ (w : WaitingState). w.claims) c.none.ensures) (ap (λ (w : WaitingState). w.questions) c.none.ensures)
    (ap (λ (w : WaitingState). w.due) c.none.ensures) c.none-2.ensures
