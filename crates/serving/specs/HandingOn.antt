-- To whom a request is handed on.
use Rattle.std.specs.Prelude.{◌≡◌, ◌≢◌, ℕ, Option, Some, None}

-- to the node that leads, or to all others where none is known to; never to the node to which the request came
abbrev pub IsHandedTo : Option ℕ → ℕ → ℕ → Type 0
IsHandedTo None own node = node ≢ own
IsHandedTo (Some leader) own node = (node ≡ leader) × (node ≢ own)
