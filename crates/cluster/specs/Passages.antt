-- What passes through a transport of frames, as far as it tells.
use Rattle.std.specs.Prelude.{ℕ, List, Option, None, option_map, Result, Ok, Err}
use Rattle.std.specs.Global.{Vec}

-- ---- the tape
-- bytes were given to it to be sent, or a node was polled
pub data Passage : Type 0 where
  Sent : (from to : ℕ) (bytes : List ℕ) → Passage
  Polled : (node : ℕ) (datagram : Option (List ℕ)) → Passage

-- what a poll handed over: a datagram, or nothing, as where it failed
abbrev pub handed_over : {E : Type 0} → Result (Option (Vec ℕ)) E → Option (List ℕ)
handed_over (Ok datagram) = option_map (λ v. v.items) datagram
handed_over (Err f) = None
