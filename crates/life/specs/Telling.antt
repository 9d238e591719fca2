-- What a node tells of itself: to whom it goes, and what is held back of it.
use Rattle.std.specs.Prelude.{ℕ, ◌==◌, not, List, [], ◌++◌, filter}
use Rattle.wire.specs.declared.frames.envelope.Envelope.{Envelope}
use Rattle.node_model.specs.Outputs.{Response}
use Rattle.world_model.specs.declared.lists.Answered.{Answered}
use Rattle.world_model.specs.declared.lists.LearntEntry.{LearntEntry}
use Rattle.world_model.specs.declared.lists.Replied.{Replied}
use Rattle.world_model.specs.Lives.{Happening, answered_at, learnt_at, replied_at, sent_at}
use Rattle.world_model.specs.Outputs.{replied_by}
use Rattle.world_model.specs.Worlds.{learnt_by}

-- what is told, of each kind the oldest first
pub record ToldLists : Type 0 where
  -- to other nodes
  pub frames : List Envelope
  pub learnt : List LearntEntry
  pub replies : List Replied
  pub answers : List Answered

abbrev pub nothing : ToldLists
nothing = record { frames = []; learnt = []; replies = []; answers = [] }

-- what is told first, and what is told then
abbrev pub joined : ToldLists → ToldLists → ToldLists
joined old more = record {
  frames = old.frames ++ more.frames;
  learnt = old.learnt ++ more.learnt;
  replies = old.replies ++ more.replies;
  answers = old.answers ++ more.answers;
}

-- ---- of the frames that the node of this number sends
abbrev pub to_itself : ℕ → List Envelope → List Envelope
to_itself id sends = filter (λ e. e.to == id) sends

abbrev pub to_others : ℕ → List Envelope → List Envelope
to_others id sends = filter (λ e. not (e.to == id)) sends

-- ---- what the node of this number tells
-- where it takes an input and says this
abbrev pub told_of : ℕ → Response → ToldLists
told_of id said = record {
  frames = to_others id said.sends;
  learnt = learnt_by id said.learnt;
  replies = replied_by id said.replies;
  answers = [];
}

-- by what happens to it
abbrev pub told_at : ℕ → Happening → ToldLists
told_at id what = record {
  frames = to_others id (sent_at id what);
  learnt = learnt_at id what;
  replies = replied_at id what;
  answers = answered_at id what;
}
