-- What a promise tells: the votes of a range of slots, as many as it has room for.
use Rattle.std.specs.Prelude.{◌≡◌, ℕ, ◌+◌, ◌<◌, ◌≤◌, ◌⊎◌, List, length, Contains, Option, Some, IsSome}
use Rattle.synod.specs.declared.ballot.Ballot.{Ballot}
use Rattle.synod.specs.declared.slot.TheConstants.{SLOTS}
use Rattle.synod.specs.declared.vote.Vote.{Vote}
use Rattle.sessions.specs.declared.command.Command.{Command}
use Rattle.wire.specs.Promises.{Promised, IsPromise}
use Rattle.wire.specs.declared.frames.promise.TheConstants.{MOST_ENTRIES}

-- these are all votes that stand at the slots from the first to the last
pub record AreVotesOf (vote : ℕ → Option (Vote Command)) (first last : ℕ) (told : List (Vote Command)) : Type 0 where
  pub stand : (v : Vote Command) → Contains told v → vote v.slot ≡ Some v
  pub all : (s : ℕ) (v : Vote Command) → first ≤ s → s ≤ last → vote s ≡ Some v → Contains told v

-- a vote stands at the first slot, or at a later one
pub record StandsFrom (vote : ℕ → Option (Vote Command)) (first : ℕ) : Type 0 where
  pub slot : ℕ
  pub from : first ≤ slot
  pub stands : IsSome (vote slot)

-- the range reaches to the log's last slot; or the promise is full, and the next slot has the first vote that found no room
abbrev pub ReachesTo : (ℕ → Option (Vote Command)) → List (Vote Command) → ℕ → Type 0
ReachesTo vote told last =
    (last + 1 ≡ SLOTS) ⊎ ((last + 1 < SLOTS) × (length told ≡ MOST_ENTRIES) × IsSome (vote (last + 1)))

-- the promise of a ballot that tells the votes from the first slot on
pub record IsPromiseFrom (vote : ℕ → Option (Vote Command)) (ballot : Ballot) (first : ℕ) (p : Promised) : Type 0 where
  pub of_the_ballot : p.ballot ≡ ballot
  pub from : p.first ≡ first
  -- slots ascend, within the range; no ballot is above the promise's; at most as many as there is room for
  pub may_be_said : IsPromise p
  pub tells : AreVotesOf vote first p.last p.entries
  pub reaches : ReachesTo vote p.entries p.last
