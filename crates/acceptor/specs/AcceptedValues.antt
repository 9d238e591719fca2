-- The votes that are held, by slot.
use Rattle.std.specs.Prelude.{◌≡◌, ℕ, ◌<◌, ◌≤◌, Option, Some, IsSome, option_map}
use Rattle.slot_table.specs.Values.{value_at}
use Rattle.synod.specs.Ballots.{rank, rank_of}
use Rattle.synod.specs.declared.ballot.Ballot.{Ballot}
use Rattle.synod.specs.declared.vote.Vote.{Vote}
use Rattle.sessions.specs.declared.command.Command.{Command}
use Rattle.acceptor.specs.declared.accepted_value.AcceptedValue.{AcceptedValue}
use Rattle.acceptor.specs.declared.votes.Votes.{Votes}

-- a vote cast at a slot
abbrev pub vote_at : ℕ → AcceptedValue → Vote Command
vote_at s cast = record { slot = s; ballot = cast.ballot; command = cast.command }

-- what was cast at a slot
abbrev pub cast_at : Votes → ℕ → Option AcceptedValue
cast_at votes = value_at votes.by_slot

-- the vote that is held at a slot
abbrev pub vote_held : Votes → ℕ → Option (Vote Command)
vote_held votes s = option_map (vote_at s) (cast_at votes s)

-- no vote that is held is of a ballot above the promise
abbrev pub AreUpTo : Option Ballot → Votes → Type 0
AreUpTo promise votes = (s : ℕ) (v : Vote Command) → vote_held votes s ≡ Some v → rank v.ballot ≤ rank_of promise

-- a vote stands at a slot below this one
pub record HasAnyBelow (vote : ℕ → Option (Vote Command)) (below : ℕ) : Type 0 where
  pub slot : ℕ
  pub below_ : slot < below
  pub stands : IsSome (vote slot)
