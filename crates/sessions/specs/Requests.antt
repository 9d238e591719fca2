-- What a request may be, and by what it is known.
use Rattle.std.specs.Prelude.{◌≡◌, ◌≤◌, ⊤, length}
use Rattle.store.specs.declared.op.Op.{Op}
use Rattle.store.specs.declared.op.Op.TheVariants.{Put, Append, Remove}
use Rattle.sessions.specs.declared.request.TheConstants.{MOST_PUT_POINTS}
use Rattle.sessions.specs.declared.submission.Submission.{Submission}

-- it is known by its client and number alone
pub record IsSameRequest (a b : Submission) : Type 0 where
  pub client : a.client ≡ b.client
  pub number : a.number ≡ b.number

-- a request may ask for it: a sequence to be put has at most `MOST_PUT_POINTS` instants
abbrev pub IsShort : Op → Type 0
IsShort (Put id seq) = length seq.points ≤ MOST_PUT_POINTS
IsShort (Append addition) = ⊤
IsShort (Remove id) = ⊤
