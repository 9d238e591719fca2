use Rattle.std.proofs.Common.{◌≡◌, refl, ◌∙◌, arith, rules, length, ◌≤◌}
use Rattle.world.specs.Inner.{inner_of}
use Rattle.world.proofs.FlushLemmas.{as_delivered, none_delivered, one_delivered, waiting_was_sent}
use Rattle.world.proofs.inner.Inner.flush.Goals as goal

pub loop-delivered-init : goal.loop-delivered-init
loop-delivered-init g c = none_delivered _ (inner_of c.args.self.now)

pub loop-delivered-preserved : goal.loop-delivered-preserved
loop-delivered-preserved g c =
    one_delivered _ _ (inner_of c.loop-delivered.self) (inner_of c.next_waiting.new.self) _ c.loop-delivered.delivered
    c.in-Some.frame c.next_waiting.result c.loop-delivered.invariant c.next_waiting.ensures.same c.next_waiting.ensures.lowest
    c.in-Some.is c.in_ok-deliver-in-Some.ensures.delivers

-- the frame that waits was sent, so that memory alone can be wanting
pub returns-in_err-deliver-in-Some-clause-faults : goal.returns-in_err-deliver-in-Some-clause-faults
returns-in_err-deliver-in-Some-clause-faults g c =
    let same : length c.loop-delivered.self.waiting.items ≡ length c.next_waiting.new.self.frames.items =
    search rules in
    let sent : length c.next_waiting.new.self.frames.items ≤ c.in-Some.frame → ⊥ =
    waiting_was_sent c.loop-delivered.self.waiting.items _ c.in-Some.frame c.next_waiting.result same
    c.next_waiting.ensures.lowest c.in-Some.is in
    search (rules, sent)

-- fewer than that, since this one was not delivered
pub returns-in_err-deliver-in-Some-clause-memory : goal.returns-in_err-deliver-in-Some-clause-memory
returns-in_err-deliver-in-Some-clause-memory g c = λ _. record {
  delivered = c.loop-delivered.delivered;
  fewer = search (rules, arith);
  delivers = as_delivered _ _ _ _ _ _ c.loop-delivered.invariant
      (c.in_err-deliver-in-Some.ensures.err ∙ c.next_waiting.ensures.same) refl;
}

pub returns-in-None-clause-delivers : goal.returns-in-None-clause-delivers
returns-in-None-clause-delivers g c = as_delivered _ _ _ _ _ _ c.loop-delivered.invariant c.next_waiting.ensures.same refl

-- as many as may be
pub returns-in-Some-next_waiting-clause-limit : goal.returns-in-Some-next_waiting-clause-limit
returns-in-Some-next_waiting-clause-limit g c = λ _.
    as_delivered _ _ _ _ _ _ c.loop-delivered.invariant c.next_waiting-2.ensures.same (search (rules, arith))

pub returns-in-None-next_waiting-clause-delivers : goal.returns-in-None-next_waiting-clause-delivers
returns-in-None-next_waiting-clause-delivers g c =
    as_delivered _ _ _ _ _ _ c.loop-delivered.invariant c.next_waiting-2.ensures.same (search (rules, arith))

pub returns-in-None-next_waiting-clause-limit : goal.returns-in-None-next_waiting-clause-limit
returns-in-None-next_waiting-clause-limit g c = search rules

pub returns-in-None-next_waiting-clause-not_to_the_end : goal.returns-in-None-next_waiting-clause-not_to_the_end
returns-in-None-next_waiting-clause-not_to_the_end g c = search rules
