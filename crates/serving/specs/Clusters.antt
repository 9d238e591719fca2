-- Processes that serve the nodes of one run, killed and started again at will, and what their clients were told.
use Rattle.std.specs.Prelude.{◌≡◌, ℕ, List, ◌++◌}
use Rattle.sessions.specs.declared.command.Command.{Command}
use Rattle.stable.specs.declared.stable.Stable.{Ghosts}
use Rattle.node_model.specs.Nodes.{NodeState}
use Rattle.world_model.specs.Explaining.{Explains, ExplainsAnswer, ExplainsReply}
use Rattle.world_model.specs.Lives.{Happening, Moment, answered_at, happenings_of, learnt_at, replied_at, submitted_at, told_by}
use Rattle.serving.specs.Serving.{IsServing, ServerState}
use Rattle.serving.specs.Turns.{IsAnswerToOwn, IsReplyToOwn, Past}

-- a process did this, whose life is part of its node's in these moments
pub record IsServed {S : Type 0} (storages : Ghosts S) (moments : List Moment) (past : Past) : Type 0 where
  pub first : NodeState S
  pub now : ServerState S
  pub serves : IsServing storages first past now
  pub before : List Happening
  pub after : List Happening
  pub part : happenings_of first.id moments ≡ before ++ past.history ++ after

-- each reply that a client of the process was told is the list's at its position, and each answer that of the entries before it
pub record ExplainsClients (log : List Command) (past : Past) : Type 0 where
  pub replies : (connection : ℕ) (text : List ℕ) → (told : IsReplyToOwn past connection text) → ExplainsReply log told.replied
  pub answers : (connection : ℕ) (text : List ℕ) → (told : IsAnswerToOwn past connection text) → ExplainsAnswer log told.answered

-- one list of submitted commands and no-ops explains all that was learnt, and what the clients of each process were told
pub record IsLogOf {S : Type 0} (storages : Ghosts S) (moments : List Moment) : Type 0 where
  pub log : List Command
  pub explains : Explains log (told_by submitted_at moments) (told_by learnt_at moments) (told_by replied_at moments)
      (told_by answered_at moments)
  pub clients : (past : Past) → IsServed storages moments past → ExplainsClients log past
