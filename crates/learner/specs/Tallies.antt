-- What was told of one slot, as tallies keep it.
use Rattle.std.specs.Prelude.{◌≡◌, ℕ, ◌⊎◌, ◌&&◌, Bool, true, List, [], ◌∷◌, Option, Some, None, slice_get, if◌then◌else◌}
use Rattle.synod.specs.declared.ballot.Ballot.{Ballot}
use Rattle.sessions.specs.declared.command.Command.{Command}
use Rattle.wire.specs.NodeSets.{no_nodes, has_node}
use Rattle.learner.specs.Learning.{Heard, is_same_ballot}
use Rattle.learner.specs.declared.tally.Tally.{Tally}

-- the tally has the node, under the ballot
abbrev pub has_voter : Ballot → ℕ → Tally → Bool
has_voter b a t = is_same_ballot t.ballot b && has_node t.voters a

-- the command that a node told under a ballot: that of the tally that has it
abbrev pub told_in : List Tally → Heard
told_in [] b a = None
told_in (t ∷ ts) b a = if has_voter b a t then Some t.command else told_in ts b a

-- the tally is of the ballot and the command
abbrev pub IsOf : Ballot → Command → Tally → Type 0
IsOf b c t = (t.ballot ≡ b) × (t.command ≡ c)

-- two tallies have a node in common, or the command
abbrev pub Overlap : Tally → Tally → Type 0
Overlap t u = ((a : ℕ) × (has_node t.voters a ≡ true) × (has_node u.voters a ≡ true)) ⊎ (t.command ≡ u.command)

-- under one ballot no two tallies do
abbrev pub TalliesAreApart : List Tally → Type 0
TalliesAreApart ts = (i j : ℕ) (t u : Tally) → slice_get ts i ≡ Some t → slice_get ts j ≡ Some u → t.ballot ≡ u.ballot → Overlap t u → i ≡ j

-- where it stands who told of the command under the ballot, if anybody did
pub record IsTallyPlace (ts : List Tally) (b : Ballot) (c : Command) (place : Option ℕ) : Type 0 where
  pub found : (i : ℕ) → place ≡ Some i → (t : Tally) × (slice_get ts i ≡ Some t) × IsOf b c t
  pub only : (k : ℕ) (t : Tally) → slice_get ts k ≡ Some t → IsOf b c t → place ≡ Some k

-- the voters of a tally, and none without
abbrev pub voters_of : Option Tally → List Bool
voters_of None = no_nodes
voters_of (Some t) = t.voters

abbrev pub voters_at : List Tally → Option ℕ → List Bool
voters_at ts None = no_nodes
voters_at ts (Some i) = voters_of (slice_get ts i)
