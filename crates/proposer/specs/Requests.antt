-- Requests that wait, the oldest first.
use Rattle.std.specs.Prelude.{◌≡◌, ℕ, ◌==◌, ◌&&◌, List, [], ◌∷◌, Bool, if◌then◌else◌}
use Rattle.sessions.specs.declared.submission.Submission.{Submission}
use Rattle.proposer.specs.declared.name.Name.{Name}

-- the request is known by this client and number
abbrev pub is_of : ℕ → ℕ → Submission → Bool
is_of client number r = client == r.client && number == r.number

-- the requests, but for the first that is known by this client and number
abbrev pub without : ℕ → ℕ → List Submission → List Submission
without client number [] = []
without client number (r ∷ rs) = if is_of client number r then rs else r ∷ without client number rs

-- each request stands under its own name
abbrev pub AreNamed : List (Name × Submission) → Type 0
AreNamed [] = Unit {0}
AreNamed (e ∷ es) = ((e.0.client ≡ e.1.client) × (e.0.number ≡ e.1.number)) × AreNamed es
