-- Each line begins and is done, or can't be, and is noted.
use Rattle.std.proofs.Common.{rules, ◌≡◌, ◌∷◌, ◌++◌, [], refl, subst, Option}
use Rattle.std.specs.Vec.Iter.{into_iter_len}
use Rattle.stable.specs.Memory.{in_memory}
use Rattle.stable.specs.Storages.{scripted}
use Rattle.world.specs.Seen.{world_of}
use Rattle.schedule.specs.declared.replay_fault.ReplayFault.{ReplayFault}
use Rattle.story.specs.Following.{AreNoted, none}
use Rattle.story.proofs.FollowLemmas.{all_followed, line_noted, one_more_taken, stops_at_one}
use Rattle.story.proofs.ledger.Ledger.do_lines.Goals as goal

pub loop-line-init : goal.loop-line-init
loop-line-init g c = record {
  kept = c.requires.kept;
  goes_on = c.requires.goes_on;
  taken = record { parts = refl; counted = search rules };
  noted = none;
}

pub loop-line-preserved : goal.loop-line-preserved
loop-line-preserved g c =
    let noted = line_noted (scripted in_memory) c.args.self.now.lines.items c.args.self.now.steps.items (world_of c.args.self.now.world)
    c.loop-line.yielded c.in-Some.line c.loop-line.self.lines.items c.begin_line.new.self.lines.items c.do_line.new.self.lines.items
    c.loop-line.self.steps.items c.begin_line.new.self.steps.items c.do_line.new.self.steps.items
    (world_of c.loop-line.self.world) (world_of c.begin_line.new.self.world) (world_of c.do_line.new.self.world)
    c.do_line.new.self.fault c.loop-line.invariant.noted c.in_ok-begin_line.ensures.begun c.in_ok-begin_line.ensures.steps
    c.in_ok-begin_line.ensures.world c.in_ok-do_line.ensures.lines c.in_ok-do_line.ensures.done c.in_ok-do_line.ensures.noted in record {
      kept = c.in_ok-do_line.ensures.kept;
      goes_on = c.in-None-fault.is;
      taken = one_more_taken _ _ _ _ _ _ _ c.loop-line.invariant.taken c.in-Some.ensures.steps;
      noted = subst (λ (o : Option ReplayFault). AreNoted (scripted in_memory) c.args.self.now.lines.items c.args.self.now.steps.items
          (world_of c.args.self.now.world) (c.loop-line.yielded ++ c.in-Some.line ∷ []) c.do_line.new.self.lines.items
          c.do_line.new.self.steps.items o (world_of c.do_line.new.self.world)) c.in-None-fault.is noted;
    }

pub returns-in-Some-fault-clause-followed : goal.returns-in-Some-fault-clause-followed
returns-in-Some-fault-clause-followed g c =
    let noted = line_noted (scripted in_memory) c.args.self.now.lines.items c.args.self.now.steps.items (world_of c.args.self.now.world)
    c.loop-line.yielded c.in-Some.line c.loop-line.self.lines.items c.begin_line.new.self.lines.items c.do_line.new.self.lines.items
    c.loop-line.self.steps.items c.begin_line.new.self.steps.items c.do_line.new.self.steps.items
    (world_of c.loop-line.self.world) (world_of c.begin_line.new.self.world) (world_of c.do_line.new.self.world)
    c.do_line.new.self.fault c.loop-line.invariant.noted c.in_ok-begin_line.ensures.begun c.in_ok-begin_line.ensures.steps
    c.in_ok-begin_line.ensures.world c.in_ok-do_line.ensures.lines c.in_ok-do_line.ensures.done c.in_ok-do_line.ensures.noted in
    stops_at_one (scripted in_memory) c.args.self.now.lines.items c.args.self.now.steps.items (world_of c.args.self.now.world) _ _ _ _ _ _ _ _
    c.do_line.new.self.lines.items c.do_line.new.self.steps.items (world_of c.do_line.new.self.world) c.do_line.new.self.fault
    c.in-Some-fault.field-0 c.into_iter-line-iterator.ensures.into_iter_gives.0 c.loop-line.invariant.taken c.in-Some.ensures.steps
    c.in-Some-fault.is noted

pub returns-clause-followed : goal.returns-clause-followed
returns-clause-followed g c =
    let none_left : into_iter_len c.loop-line.line-iterator ≡ 0 = search rules in
    all_followed (scripted in_memory) c.args.self.now.lines.items c.args.self.now.steps.items (world_of c.args.self.now.world) _ _ _ _ _
    c.loop-line.self.lines.items c.loop-line.self.steps.items (world_of c.loop-line.self.world) c.loop-line.self.fault
    c.into_iter-line-iterator.ensures.into_iter_gives.0 c.loop-line.invariant.taken none_left c.loop-line.invariant.goes_on
    c.loop-line.invariant.noted
