-- Frame by frame, a flush delivers what a world's own flush does, and each is noted.
use Rattle.std.proofs.Common.{rules, ◌≡◌, ◌<◌, ◌∙◌, Bool, [], Option, append-nil, refl, sym, subst, arith}
use Rattle.stable.specs.Memory.{in_memory}
use Rattle.stable.specs.Storages.{scripted}
use Rattle.world.specs.Seen.{world_of}
use Rattle.world.specs.declared.log.TheConstants.{MOST_DELIVERIES}
use Rattle.world_model.specs.Flushing.{none}
use Rattle.schedule.specs.declared.action.Action.TheVariants.{Flush}
use Rattle.schedule.specs.declared.replay_fault.ReplayFault.{ReplayFault}
use Rattle.story.specs.Following.{ComesNext, LineEndsBy}
use Rattle.story.specs.Noting.{none as no_frame}
use Rattle.story.proofs.FollowLemmas.{all_delivered, flush_is_over, limit_is_met, one_comes, turn_is_over, turn_stands}
use Rattle.story.proofs.ledger.Ledger.flush.Goals as goal

pub loop-delivered-init : goal.loop-delivered-init
loop-delivered-init c = record {
  kept = c.requires.kept;
  goes_on = c.requires.goes_on;
  lines = refl;
  delivers = none;
  noted = record { more = []; steps = sym (append-nil c.args.self.now.steps.items); noted = no_frame };
}

pub loop-delivered-preserved : goal.loop-delivered-preserved
loop-delivered-preserved c =
    let comes = subst (λ (b : Bool). ComesNext (scripted in_memory) c.args.line (world_of c.loop-delivered.self.world)
    c.loop-delivered.self.steps.items b c.deliver_lowest.new.self.fault (world_of c.deliver_lowest.new.self.world)
    c.deliver_lowest.new.self.steps.items) c.in-true.is c.in_ok-goes_on.ensures.comes in
    let p = one_comes (scripted in_memory) c.args.line c.loop-delivered.delivered (world_of c.args.self.now.world)
    (world_of c.loop-delivered.self.world) (world_of c.deliver_lowest.new.self.world) c.args.self.now.steps.items
    c.loop-delivered.self.steps.items c.deliver_lowest.new.self.steps.items c.deliver_lowest.new.self.fault
    c.loop-delivered.invariant.delivers c.loop-delivered.invariant.noted comes in record {
      kept = c.in_ok-goes_on.ensures.kept;
      goes_on = p.0;
      lines = c.in_ok-goes_on.ensures.lines ∙ c.loop-delivered.invariant.lines;
      delivers = p.1;
      noted = p.2;
    }

pub returns-in-false-clause-done : goal.returns-in-false-clause-done
returns-in-false-clause-done c =
    let comes = subst (λ (b : Bool). ComesNext (scripted in_memory) c.args.line (world_of c.loop-delivered.self.world)
    c.loop-delivered.self.steps.items b c.deliver_lowest.new.self.fault (world_of c.deliver_lowest.new.self.world)
    c.deliver_lowest.new.self.steps.items) c.in-false.is c.in_ok-goes_on.ensures.comes in
    let few : c.loop-delivered.delivered < MOST_DELIVERIES = search (rules, arith) in
    flush_is_over (scripted in_memory) c.args.line c.loop-delivered.delivered (world_of c.args.self.now.world)
    (world_of c.loop-delivered.self.world) (world_of c.deliver_lowest.new.self.world) c.loop-delivered.self.steps.items
    c.deliver_lowest.new.self.steps.items c.deliver_lowest.new.self.fault c.loop-delivered.invariant.delivers few comes

pub returns-in-false-clause-noted : goal.returns-in-false-clause-noted
returns-in-false-clause-noted c =
    let comes = subst (λ (b : Bool). ComesNext (scripted in_memory) c.args.line (world_of c.loop-delivered.self.world)
    c.loop-delivered.self.steps.items b c.deliver_lowest.new.self.fault (world_of c.deliver_lowest.new.self.world)
    c.deliver_lowest.new.self.steps.items) c.in-false.is c.in_ok-goes_on.ensures.comes in
    turn_is_over (scripted in_memory) c.args.line (world_of c.args.self.now.world) (world_of c.loop-delivered.self.world)
    (world_of c.deliver_lowest.new.self.world) c.args.self.now.steps.items c.loop-delivered.self.steps.items
    c.deliver_lowest.new.self.steps.items c.deliver_lowest.new.self.fault c.loop-delivered.invariant.noted comes

pub returns-in-Some-clause-done : goal.returns-in-Some-clause-done
returns-in-Some-clause-done c =
    let all : c.loop-delivered.delivered ≡ MOST_DELIVERIES = search (rules, arith) in
    limit_is_met (scripted in_memory) c.args.line c.loop-delivered.delivered c.in-Some.field-0 (world_of c.args.self.now.world)
    (world_of c.loop-delivered.self.world) (world_of c.next_waiting.new.self.world) c.ends_at.result
    c.loop-delivered.invariant.delivers all c.next_waiting.ensures.still.world c.in-Some.ensures.lowest c.ends_at.ensures

pub returns-in-Some-clause-noted : goal.returns-in-Some-clause-noted
returns-in-Some-clause-noted c =
    turn_stands (scripted in_memory) (world_of c.args.self.now.world) (world_of c.loop-delivered.self.world)
    (world_of c.next_waiting.new.self.world) c.args.self.now.steps.items c.loop-delivered.self.steps.items
    c.next_waiting.new.self.steps.items _ c.loop-delivered.invariant.noted c.next_waiting.ensures.still.world
    c.next_waiting.ensures.steps

pub returns-in-None-clause-done : goal.returns-in-None-clause-done
returns-in-None-clause-done c =
    let all : c.loop-delivered.delivered ≡ MOST_DELIVERIES = search (rules, arith) in
    subst (λ (o : Option ReplayFault). LineEndsBy (scripted in_memory) (record { number = c.args.line; action = Flush })
    (world_of c.args.self.now.world) o (world_of c.next_waiting.new.self.world))
    (sym (c.next_waiting.ensures.still.fault ∙ c.loop-delivered.invariant.goes_on))
    (all_delivered (scripted in_memory) c.args.line c.loop-delivered.delivered (world_of c.args.self.now.world)
    (world_of c.loop-delivered.self.world) (world_of c.next_waiting.new.self.world) c.loop-delivered.invariant.delivers all
    c.next_waiting.ensures.still.world c.in-None.ensures.lowest)

pub returns-in-None-clause-noted : goal.returns-in-None-clause-noted
returns-in-None-clause-noted c =
    turn_stands (scripted in_memory) (world_of c.args.self.now.world) (world_of c.loop-delivered.self.world)
    (world_of c.next_waiting.new.self.world) c.args.self.now.steps.items c.loop-delivered.self.steps.items
    c.next_waiting.new.self.steps.items _ c.loop-delivered.invariant.noted c.next_waiting.ensures.still.world
    c.next_waiting.ensures.steps
