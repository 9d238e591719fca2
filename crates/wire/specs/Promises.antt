-- What promises and refusals say.
use Rattle.std.specs.Prelude.{ℕ, ◌+◌, ◌<◌, ◌≤◌, List, [], ◌∷◌, length}
use Rattle.synod.specs.Ballots.{rank}
use Rattle.synod.specs.declared.ballot.Ballot.{Ballot}
use Rattle.synod.specs.declared.vote.Vote.{Vote}
use Rattle.sessions.specs.declared.command.Command.{Command}
use Rattle.wire.specs.declared.frames.promise.TheConstants.{MOST_ENTRIES}

-- a promise as clauses see it: the sender's votes at the slots from first to last
pub record Promised : Type 0 where
  pub ballot : Ballot
  pub first : ℕ
  pub last : ℕ
  pub entries : List (Vote Command)

-- a refusal as clauses see it: what was promised already
pub record Refused : Type 0 where
  pub ballot : Ballot
  pub promised : Ballot

-- a promise of this ballot may tell the vote: its slot is from one to another, and its ballot is not greater
pub record IsToldVote (ballot : Ballot) (from last : ℕ) (v : Vote Command) : Type 0 where
  pub not_before : from ≤ v.slot
  pub not_after : v.slot ≤ last
  pub not_above : rank v.ballot ≤ rank ballot

-- it may tell all of them, slots ascending
abbrev pub AreTold : Ballot → ℕ → ℕ → List (Vote Command) → Type 0
AreTold ballot from last [] = Unit {0}
AreTold ballot from last (v ∷ vs) = IsToldVote ballot from last v × AreTold ballot (v.slot + 1) last vs

-- a promise may say this
pub record IsPromise (p : Promised) : Type 0 where
  pub in_order : p.first ≤ p.last
  pub few : length p.entries ≤ MOST_ENTRIES
  pub told : AreTold p.ballot p.first p.last p.entries

-- a refusal may say this: what is promised is above the ballot that it refuses
abbrev pub IsRefusal : Refused → Type 0
IsRefusal n = rank n.ballot < rank n.promised
