-- What a run holds is a world, and the room that it keeps for a step.
use Rattle.std.specs.Prelude.{◌+◌, ◌≤◌, map, vec_len, vec_capacity}
use Rattle.node.specs.Seen.{state_of}
use Rattle.node_model.specs.declared.outputs.TheConstants.{MOST_SENDS}
use Rattle.proposer.specs.declared.queue.TheConstants.{MOST_WAITING}
use Rattle.world_model.specs.Worlds.{WorldState}
use Rattle.world.specs.declared.inner.Inner.{Inner}

abbrev pub inner_of : {S : Type 0} → Inner S → WorldState S
inner_of w = record {
  nodes = map state_of w.nodes.items;
  submitted = w.submitted.items;
  frames = w.frames.items;
  waiting = w.waiting.items;
  learnt = w.learnt.items;
  replies = w.replies.items;
  answers = w.answers.items;
  outcomes = w.outcomes.items;
}

-- room for all that one step may add
pub record HasRoom {S : Type 0} (w : Inner S) : Type 0 where
  pub submitted : vec_len w.submitted + 1 ≤ vec_capacity w.submitted
  pub frames : vec_len w.frames + MOST_SENDS ≤ vec_capacity w.frames
  pub waiting : vec_len w.waiting + MOST_SENDS ≤ vec_capacity w.waiting
  pub learnt : vec_len w.learnt + 1 ≤ vec_capacity w.learnt
  pub replies : vec_len w.replies + MOST_WAITING ≤ vec_capacity w.replies
  pub answers : vec_len w.answers + 1 ≤ vec_capacity w.answers
  pub outcomes : vec_len w.outcomes + 1 ≤ vec_capacity w.outcomes
