-- Which commands are chosen, by what each node has written.
use Rattle.std.specs.Prelude.{◌≡◌, ℕ, length, List, slice_get, IfSome, Contains}
use Rattle.synod.specs.Majorities.{Majority}
use Rattle.synod.specs.declared.ballot.Ballot.{Ballot}
use Rattle.synod.specs.declared.vote.Vote.{Vote}
use Rattle.stable.specs.Script.{Write}
use Rattle.stable.specs.declared.key.Key.TheVariants as key
use Rattle.acceptor.specs.Forms.{VoteFitsRecord}
use Rattle.acceptor.specs.Spelling.{vote_bytes}
use Rattle.sessions.specs.declared.command.Command.{Command}
use Rattle.world_model.specs.declared.lists.LearntEntry.{LearntEntry}
use Rattle.world_model.specs.declared.lists.Submitted.{Submitted}
use Rattle.world_model.specs.Submissions.{IsGrounded}

-- the put of a vote's record
abbrev pub vote_put : Vote Command → Write
vote_put v = (key.Vote v.slot, vote_bytes v)

-- the record of the vote was written, whether overwritten since or not; of votes that fit no two are spelled alike
pub record HasVote (writes : List Write) (v : Vote Command) : Type 0 where
  pub fits : VoteFitsRecord v
  pub written : Contains writes (vote_put v)

-- the command is chosen at the slot, by the list of each node's writes: for one ballot a majority of the nodes have
-- written a vote for it there
abbrev pub IsChosen : List (List Write) → ℕ → Command → Type 0
IsChosen nodes slot c = (b : Ballot) × Majority (length nodes) (λ a. IfSome (slice_get nodes a) (λ writes.
    HasVote writes (record { slot = slot; ballot = b; command = c })))

-- whatever any node learnt is chosen, no two commands are chosen for one slot, and each that is chosen is a no-op or
-- was submitted
pub record HasChosen (nodes : List (List Write)) (learnt : List LearntEntry) (submitted : List Submitted) : Type 0 where
  pub all_learnt : (t : LearntEntry) → Contains learnt t → IsChosen nodes t.slot t.command
  pub one : (slot : ℕ) (c d : Command) → IsChosen nodes slot c → IsChosen nodes slot d → c ≡ d
  pub grounded : (slot : ℕ) (c : Command) → IsChosen nodes slot c → IsGrounded submitted c
