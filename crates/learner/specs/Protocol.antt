-- What a learner's state is to the protocol.
use Rattle.std.specs.Prelude.{◌≡◌, ℕ, ◌<◌, List, [], ◌∷◌, ◌++◌, Option, Some, None, Contains}
use Rattle.synod.specs.Acts.{Membership, Input, Local, Does}
use Rattle.synod.specs.History as history
use Rattle.synod.specs.Volatile.{Volatile}
use Rattle.synod.specs.declared.ballot.Ballot.{Ballot}
use Rattle.synod.specs.declared.vote.Vote.{Vote}
use Rattle.sessions.specs.declared.command.Command.{Command}
use Rattle.learner.specs.Learning.{Learning}
use Rattle.learner.specs.declared.learned.Learned.{Learned}

-- the protocol's replica has learnt what the learner has, and has heard all that the learner keeps
pub record LearnerStands (l : Learning) (m : Volatile Command) : Type 0 where
  pub learnt : (s : ℕ) → m.learnt s ≡ l.learnt s
  pub heard : (s a : ℕ) (b : Ballot) (c : Command) → a < l.nodes → l.heard s b a ≡ Some c
      → Contains m.heard (a, record { slot = s; ballot = b; command = c })

-- what joins the history where node i newly learns the command at a slot
abbrev pub learnt_by : ℕ → Command → Option Learned → List (history.Lesson Command)
learnt_by i c None = []
learnt_by i c (Some learned) = record { node = i; slot = learned.slot; command = c } ∷ []

-- from x the node may come to a replica of which the learner's state stands, the command newly learnt, and nothing else
-- changes: not its campaign, its position or what waits
pub record LearnerMayLearn (f : Membership Command) (i : ℕ) (input : Input Command) (x : Local Command) (c : Command)
    (learned : Option Learned) (new : Learning) : Type 0 where
  pub learnt : ℕ → Option Command
  pub heard : List (ℕ × Vote Command)
  pub does : Does f i input x (record x {
    replica = record x.replica { learnt = learnt; heard = heard };
    learnt = x.learnt ++ learnt_by i c learned;
  })
  pub stands : LearnerStands new (record x.replica { learnt = learnt; heard = heard })
