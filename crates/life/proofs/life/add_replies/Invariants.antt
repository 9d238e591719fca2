use Rattle.std.proofs.Common.{◌≡◌, ◌≤◌, ◌+◌, ◌++◌, length, vec_len, vec_capacity}
use Rattle.world_model.specs.Outputs.{replied_by}
use Rattle.life.proofs.life.add_replies.Given as goal

-- what is still to be replied leads to what the whole leads to, and there is room for it
abbrev pub invariant-loop-executed : goal.invariant-loop-executed
invariant-loop-executed l = record {
  goes_on : l.replies.items ++ replied_by l.node l.executed-iterator.rest.items
      ≡ l.fn.replies.items ++ replied_by l.node l.fn.executed.items;
  room : vec_len l.replies + length l.executed-iterator.rest.items ≤ vec_capacity l.replies;
}
