-- What a learner has heard of votes and what it has learnt, and what it makes of the news.
use Rattle.std.specs.Prelude.{◌≡◌, ◌≢◌, ℕ, zero, suc, ◌-◌, ◌<◌, ◌≤◌, ◌&&◌, nat_eq, nat_lt, Bool, Option, Some, None, is_some, if◌then◌else◌}
use Rattle.synod.specs.Majorities.{Majority}
use Rattle.synod.specs.Records.{put}
use Rattle.synod.specs.declared.ballot.Ballot.{Ballot}
use Rattle.synod.specs.declared.slot.TheConstants.{SLOTS}
use Rattle.synod.specs.declared.vote.Vote.{Vote}
use Rattle.sessions.specs.declared.command.Command.{Command}
use Rattle.learner.specs.declared.learned.Learned.{Learned}

-- what was told of one slot: the command that a node told first of its vote under a ballot
abbrev pub Heard : Type 0
Heard = Ballot → ℕ → Option Command

-- a learner's number of nodes, the first slot that it keeps, the command that is learnt at each slot, and what was told
-- of each that isn't learnt; slots below the first may be learnt
pub record Learning : Type 0 where
  pub nodes : ℕ
  pub first : ℕ
  pub learnt : ℕ → Option Command
  pub heard : ℕ → Heard

-- nothing was told of a slot
abbrev pub unheard : Heard
unheard b a = None

-- nothing is heard or learnt yet, and each slot from the first on is kept
abbrev pub unlearnt_from : ℕ → ℕ → Learning
unlearnt_from nodes first = record { nodes = nodes; first = first; learnt = λ _. None; heard = λ _. unheard }

-- nothing is heard or learnt yet, and every slot is kept
abbrev pub unlearnt : ℕ → Learning
unlearnt nodes = unlearnt_from nodes zero

-- what is learnt at a slot
abbrev pub learnt_at : Learning → ℕ → Option Command
learnt_at l s = l.learnt s

-- ---- the prefix
-- the first slot that isn't learnt, of so many from this one on; where all of them are, the next
unfoldable pub first_unlearnt : (ℕ → Option Command) → ℕ → ℕ → ℕ
first_unlearnt learnt s zero = s
first_unlearnt learnt s (suc n) = if is_some (learnt s) then first_unlearnt learnt (suc s) n else s

-- the first slot that isn't learnt, of those that are kept; where all of them are, the number of slots
unfoldable pub prefix : Learning → ℕ
prefix l = first_unlearnt l.learnt l.first (SLOTS - l.first)

-- ---- what is passed over
-- slots are kept from this one on, where the prefix doesn't reach it; what is learnt below stays learnt
abbrev pub skipped : Learning → ℕ → Learning
skipped l position = if nat_lt (prefix l) position then record l { first = position } else l

-- ---- the news of a vote
-- the two ballots are one
abbrev pub is_same_ballot : Ballot → Ballot → Bool
is_same_ballot a b = nat_eq a.round b.round && nat_eq a.node b.node

-- what was told, and that node a told of its vote for this command under this ballot
abbrev pub told_too : Heard → Ballot → ℕ → Command → Heard
told_too heard b a c ballot node = if is_same_ballot ballot b && nat_eq node a then Some c else heard ballot node

-- the slot is kept, and isn't learnt
pub record IsOpen (l : Learning) (s : ℕ) : Type 0 where
  pub kept : l.first ≤ s
  pub unlearnt : l.learnt s ≡ None

-- the news counts: it is of a node of the run and of an open slot, and the node's first under the ballot
pub record NewsCounts (l : Learning) (from : ℕ) (v : Vote Command) : Type 0 where
  pub of_the_run : from < l.nodes
  pub in_time : IsOpen l v.slot
  pub once : l.heard v.slot v.ballot from ≡ None

-- no node has told the command at the slot under the ballot
pub record CommandIsUntold (l : Learning) (v : Vote Command) : Type 0 where
  pub by_none : (a : ℕ) → l.heard v.slot v.ballot a ≢ Some v.command

-- of so many nodes a majority has told the command under the ballot, node `from` included
abbrev pub IsDecided : ℕ → Heard → Ballot → ℕ → Command → Type 0
IsDecided nodes heard b from c = Majority nodes (λ a. told_too heard b from c b a ≡ Some c)

-- the command is learnt at the slot, and what was told of the slot goes
abbrev pub with_learnt : Learning → ℕ → Command → Learning
with_learnt l s c = record l { learnt = put l.learnt s (Some c); heard = put l.heard s unheard }

-- the telling is kept
abbrev pub with_heard : Learning → ℕ → Vote Command → Learning
with_heard l from v = record l { heard = put l.heard v.slot (told_too (l.heard v.slot) v.ballot from v.command) }

-- what a learner makes of the news that node `from` cast a vote: which slot is newly learnt, and what it has learnt and
-- heard then
pub data HearsVote (old : Learning) (from : ℕ) (v : Vote Command) (learned : Option Learned) (new : Learning) : Type 0 where
  ignores : (NewsCounts old from v → ⊥) → learned ≡ None → new ≡ old → HearsVote old from v learned new
  hears : NewsCounts old from v → (IsDecided old.nodes (old.heard v.slot) v.ballot from v.command → ⊥)
      → learned ≡ None → new ≡ with_heard old from v → HearsVote old from v learned new
  learns : NewsCounts old from v → IsDecided old.nodes (old.heard v.slot) v.ballot from v.command
      → learned ≡ Some (record { slot = v.slot }) → new ≡ with_learnt old v.slot v.command → HearsVote old from v learned new

-- ---- the news that a slot is decided
pub data HearsDecided (old : Learning) (s : ℕ) (c : Command) (learned : Option Learned) (new : Learning) : Type 0 where
  ignores_decided : (IsOpen old s → ⊥) → learned ≡ None → new ≡ old → HearsDecided old s c learned new
  learns_decided : IsOpen old s → learned ≡ Some (record { slot = s }) → new ≡ with_learnt old s c → HearsDecided old s c learned new
