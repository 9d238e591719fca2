-- What is kept of the clients: for each, from client 0 on, the last of its requests that counted.
use Rattle.std.specs.Prelude.{ℕ, List, Option, Some, None, slice_set, slice_index_or}
use Rattle.sessions.specs.declared.session.Session.{Session}

-- what is kept of a client: nothing where none of its requests has counted
abbrev pub session_of : List (Option Session) → ℕ → Option Session
session_of table client = slice_index_or table client None

-- the table with this kept of the client
abbrev pub with_session : List (Option Session) → ℕ → Session → List (Option Session)
with_session table client session = slice_set table client (Some session)
