-- What an acceptor's state and its answers are to the protocol.
use Rattle.std.specs.Prelude.{◌≡◌, ℕ, ◌≤◌, List, [], ◌∷◌, ◌++◌}
use Rattle.synod.specs.Ballots.{rank_of}
use Rattle.synod.specs.Messages as synod
use Rattle.synod.specs.Messages.{Frame, Plain, to_first}
use Rattle.synod.specs.Records as synod_records
use Rattle.synod.specs.Acts.{Membership, Input, Local, Does}
use Rattle.sessions.specs.declared.command.Command.{Command}
use Rattle.acceptor.specs.declared.answer.Answer.{Answer}
use Rattle.acceptor.specs.declared.answer.Answer.TheVariants.{Promise, Accepted, Nack, Behind}
use Rattle.acceptor.specs.Accepting.{Accepting}

-- the protocol's records say what the acceptor holds, of the votes from the floor on, and the round that its node has
-- begun last
pub record RecordsStand (a : Accepting) (round : ℕ) (r : synod_records.NodeRecords Command) : Type 0 where
  pub promise : r.promise ≡ rank_of a.promise
  pub vote : (s : ℕ) → a.floor ≤ s → r.vote s ≡ a.vote s
  pub round_ : r.round ≡ round
  pub floor_ : r.floor ≡ a.floor

-- what node i of so many sends to answer node `to`: Accepted goes to every node; of a refusal, and of where its floor is, safety says
-- nothing
abbrev pub answer_frames : ℕ → ℕ → ℕ → Answer → List (Frame Command)
answer_frames i nodes to (Promise p) =
    record { sender = i; receiver = to; message = synod.Promise p.ballot p.first p.last p.entries } ∷ []
answer_frames i nodes to (Accepted v) = to_first nodes i (synod.Accepted v)
answer_frames i nodes to (Nack n) = record { sender = i; receiver = to; message = Plain } ∷ []
answer_frames i nodes to (Behind floor) = record { sender = i; receiver = to; message = Plain } ∷ []

-- from x the node may come to records that stand for this, and nothing else changes: the case of a node that
-- goes down once the write is made
pub record MayWrite (f : Membership Command) (i : ℕ) (input : Input Command) (x : Local Command) (a : Accepting)
    (round : ℕ) : Type 0 where
  pub after : synod_records.NodeRecords Command
  pub does : Does f i input x (record x { records = after })
  pub stands : RecordsStand a round after

-- from x the node may come to such records and send these frames, and nothing else changes
pub record MayAnswer (f : Membership Command) (i : ℕ) (input : Input Command) (x : Local Command) (a : Accepting)
    (round : ℕ) (frames : List (Frame Command)) : Type 0 where
  pub after : synod_records.NodeRecords Command
  pub does : Does f i input x (record x { records = after; sent = x.sent ++ frames })
  pub stands : RecordsStand a round after
