-- What has come to the ends of a transport, and waits.
use Rattle.std.specs.Prelude.{◌≡◌, ◌≤◌, ◌++◌, ◌∷◌, [], ℕ, List, length, Option, Some, Result, Ok, slice_get, slice_set}
use Rattle.std.specs.Global.{Vec}
use Rattle.cluster.specs.declared.transport.TransportFault.{TransportFault}
use Rattle.udp_transport.specs.declared.end.End.{End}
use Rattle.udp_transport.specs.declared.end.TheConstants.{MOST_WAITING}
use Rattle.udp_transport.specs.declared.sockets.Sockets.{Sockets}

-- at most so many datagrams join the queue, behind what waits there; no more wait than may
pub record TakesIn (most : ℕ) (before after : End) : Type 0 where
  pub come : List (Vec ℕ)
  pub behind : after.waiting.items ≡ before.waiting.items ++ come
  pub few : length come ≤ most
  pub bounded : length before.waiting.items ≤ MOST_WAITING → length after.waiting.items ≤ MOST_WAITING
  pub place : after.address ≡ before.address

-- the oldest that waits is handed out, and the others wait on; where none waits, none does after
pub record HandsOut (result : Result (Option (Vec ℕ)) TransportFault) (before after : End) : Type 0 where
  pub oldest : (first : Vec ℕ) (rest : List (Vec ℕ)) → before.waiting.items ≡ first ∷ rest
      → (result ≡ Ok (Some first)) × (after.waiting.items ≡ rest)
  pub none : before.waiting.items ≡ [] → after.waiting.items ≡ []
  pub place : after.address ≡ before.address

-- there is such a node, and its end alone changes, in this way
pub record ChangesAt (node : ℕ) (Way : End → End → Type 0) (before after : Sockets) : Type 0 where
  pub was : End
  pub is : End
  pub there : slice_get before.ends.items node ≡ Some was
  pub way : Way was is
  pub alone : after.ends.items ≡ slice_set before.ends.items node is
