use Rattle.std.proofs.Common.{◌+◌, length, arith}
use Rattle.verdicts.proofs.SearchLemmas.{all_behind, latest_within}
use Rattle.verdicts.proofs.search.try_choices.Goals as goal

pub visit-requires-clause-entering : goal.visit-requires-clause-entering
visit-requires-clause-entering c =
    c.new-search.ensures.entering c.args.requests.now c.args.names.now c.args.questions.now c.args.told.now c.requires.submitted

pub loop-tried-init : goal.loop-tried-init
loop-tried-init c = record {
  leaving = c.in_ok-visit.ensures.leaving c.if-branch.false;
  has_tried = c.in_ok-visit.ensures.tried c.if-branch.false 0
      (c.new-search.ensures.first c.args.requests.now c.args.names.now c.args.questions.now c.args.told.now);
}

pub follow-requires : goal.follow-requires
follow-requires c =
    all_behind c.args.requests.now c.args.names.now (length c.loop-tried.search.commands.items) c.loop-tried.search.untried.items
    c.loop-tried.invariant.leaving.state.choices

pub outcome-requires-clause-placed : goal.outcome-requires-clause-placed
outcome-requires-clause-placed c =
    let step = c.in_ok-follow.ensures.step c.args.names.now c.args.questions.now c.args.told.now c.loop-tried.invariant.leaving in
    let after = rw c.if-not-branch.true at step in
    all_behind c.args.requests.now c.args.names.now (length c.follow.new.self.commands.items) c.follow.new.self.untried.items
    after.state.choices

pub outcome-requires-clause-within : goal.outcome-requires-clause-within
outcome-requires-clause-within c =
    let step = c.in_ok-follow.ensures.step c.args.names.now c.args.questions.now c.args.told.now c.loop-tried.invariant.leaving in
    let after = rw c.if-not-branch.true at step in
    latest_within c.args.requests.now c.args.names.now c.args.questions.now c.args.told.now c.follow.new.self.latest after.state.latest

pub returns-then-not-branch : goal.returns-then-not-branch
returns-then-not-branch c =
    let step = c.in_ok-follow.ensures.step c.args.names.now c.args.questions.now c.args.told.now c.loop-tried.invariant.leaving in
    let after = rw c.if-not-branch.true at step in
    c.outcome.ensures c.args.names.now c.args.questions.now after
    (λ some. absurd (some (c.in_ok-follow.ensures.none c.if-not-branch.true)))

pub visit-requires-in-loop-tried-clause-entering : goal.visit-requires-in-loop-tried-clause-entering
visit-requires-in-loop-tried-clause-entering c =
    let step = c.in_ok-follow.ensures.step c.args.names.now c.args.questions.now c.args.told.now c.loop-tried.invariant.leaving in
    rw c.if-not-branch.false at step

pub loop-tried-preserved : goal.loop-tried-preserved
loop-tried-preserved c =
    let was = c.loop-tried.invariant in
    record {
      leaving = c.in_ok-visit-2.ensures.leaving c.if-branch-2.false;
      has_tried = c.in_ok-visit-2.ensures.tried c.if-branch-2.false (c.loop-tried._tried + 1)
          (c.in_ok-follow.ensures.next c.if-not-branch.false c.args.names.now c.args.questions.now c.args.told.now
          (c.loop-tried._tried + 1) was.leaving was.has_tried);
    }

pub outcome-requires-2-clause-placed : goal.outcome-requires-2-clause-placed
outcome-requires-2-clause-placed c =
    all_behind c.args.requests.now c.args.names.now (length c.loop-tried.search.commands.items) c.loop-tried.search.untried.items
    c.loop-tried.invariant.leaving.state.choices

pub outcome-requires-2-clause-within : goal.outcome-requires-2-clause-within
outcome-requires-2-clause-within c =
    latest_within c.args.requests.now c.args.names.now c.args.questions.now c.args.told.now c.loop-tried.search.latest
    c.loop-tried.invariant.leaving.state.latest

pub returns : goal.returns
returns c =
    let was = c.loop-tried.invariant.has_tried in
    let last = c.loop-tried-test.false in
    c.outcome-2.ensures c.args.names.now c.args.questions.now c.loop-tried.invariant.leaving
    (λ some. record { count = c.loop-tried._tried + 1; many = omega (arith, last); has_tried = was })
