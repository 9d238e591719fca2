-- A table of clients that is filled from client 0 on.
use Rattle.std.specs.Prelude.{◌≡◌, ℕ, ◌≤◌, List, Option, None}
use Rattle.sessions.specs.Sessions.{session_of}
use Rattle.sessions.specs.declared.session.Session.{Session}

-- nothing is kept of a client, nor of any later one
abbrev pub IsFreeFrom : ℕ → List (Option Session) → Type 0
IsFreeFrom client table = (i : ℕ) → client ≤ i → session_of table i ≡ None
