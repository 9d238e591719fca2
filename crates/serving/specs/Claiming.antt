-- Which connection waits for which reply.
use Rattle.std.specs.Prelude.{ℕ, ◌==◌, ◌&&◌, Bool}
use Rattle.serving.specs.declared.claims.Claim.{Claim}

-- the connection waits
abbrev pub is_for : ℕ → Claim → Bool
is_for connection claim = claim.connection == connection

-- for the reply to this request
abbrev pub is_of : ℕ → ℕ → Claim → Bool
is_of client number claim = (claim.client == client) && (claim.number == number)
