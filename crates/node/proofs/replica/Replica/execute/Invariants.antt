use Rattle.std.proofs.Common.{◌≡◌, ◌-◌, ◌≤◌, []}
use Rattle.node_model.specs.Composition.{StandsForMore, RepliesToMore}
use Rattle.node_model.specs.Executing.{executed, commands}
use Rattle.node.specs.Replica.{replica_of}
use Rattle.node_model.specs.Taking.{executing_of, with_executing, learnt_from}
use Rattle.node.proofs.replica.Replica.execute.Given as goal

-- what is still to be executed leads to what the whole leads to, and what is done so far is what the slots so far have
abbrev pub invariant-loop-number : goal.invariant-loop-number
invariant-loop-number l = record {
  only : replica_of l.self ≡ with_executing (replica_of l.initial.self) (executing_of (replica_of l.self) []);
  rest : executed (executing_of (replica_of l.self) l.replies.items) l.number (learnt_from (replica_of l.initial.self) l.number)
      ≡ executed (executing_of (replica_of l.initial.self) []) l.from (learnt_from (replica_of l.initial.self) l.from);
  stands : StandsForMore (replica_of l.initial.self).machine (replica_of l.self).machine
      (commands (replica_of l.initial.self).learner.learnt l.from (l.number - l.from));
  replies : RepliesToMore (replica_of l.initial.self).machine l.from
      (commands (replica_of l.initial.self).learner.learnt l.from (l.number - l.from)) l.replies.items;
  above : l.from ≤ l.number;
  within : l.number - l.from ≤ l.number-end - l.from;
}
