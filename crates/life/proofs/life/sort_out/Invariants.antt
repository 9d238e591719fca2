use Rattle.std.proofs.Common.{◌≡◌, ◌≤◌, ◌+◌, ◌++◌, length, vec_len, vec_capacity}
use Rattle.std.specs.VecDeque.{deque_len, deque_capacity}
use Rattle.life.specs.Telling.{to_itself, to_others}
use Rattle.life.proofs.life.sort_out.Given as goal

-- what is still to be sorted leads to what the whole leads to, and there is room for it
abbrev pub invariant-loop-frame : goal.invariant-loop-frame
invariant-loop-frame l = record {
  own : l.own.items ++ to_itself l.node l.frame-iterator.rest.items ≡ l.fn.own.items ++ to_itself l.node l.fn.sends.items;
  others : l.frames.items ++ to_others l.node l.frame-iterator.rest.items
      ≡ l.fn.frames.items ++ to_others l.node l.fn.sends.items;
  own_room : deque_len l.own + length l.frame-iterator.rest.items ≤ deque_capacity l.own;
  room : vec_len l.frames + length l.frame-iterator.rest.items ≤ vec_capacity l.frames;
}
