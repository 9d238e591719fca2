-- What a life is seen as, and the room that it keeps for a step.
use Rattle.std.specs.Prelude.{◌+◌, ◌≤◌, vec_len, vec_capacity}
use Rattle.std.specs.VecDeque.{deque_len, deque_capacity}
use Rattle.node.specs.Seen.{state_of}
use Rattle.node_model.specs.declared.outputs.TheConstants.{MOST_SENDS}
use Rattle.proposer.specs.declared.queue.TheConstants.{MOST_WAITING}
use Rattle.life.specs.declared.told.Told.{Told}
use Rattle.life.specs.declared.life.Life.{Life}
use Rattle.life.specs.Lives.{LifeState}
use Rattle.life.specs.Telling.{ToldLists}

abbrev pub lists_of : Told → ToldLists
lists_of t = record {
  frames = t.frames.items;
  learnt = t.learnt.items;
  replies = t.replies.items;
  answers = t.answers.items;
}

abbrev pub life_of : {S : Type 0} → Life S → LifeState S
life_of l = record { id = l.id; node = state_of l.node; own = l.own.items; held = lists_of l.held }

-- room for all that one step may tell
pub record HasRoom {S : Type 0} (l : Life S) : Type 0 where
  pub own : deque_len l.own + MOST_SENDS ≤ deque_capacity l.own
  pub frames : vec_len l.held.frames + MOST_SENDS ≤ vec_capacity l.held.frames
  pub learnt : vec_len l.held.learnt + 1 ≤ vec_capacity l.held.learnt
  pub replies : vec_len l.held.replies + MOST_WAITING ≤ vec_capacity l.held.replies
  pub answers : vec_len l.held.answers + 1 ≤ vec_capacity l.held.answers
