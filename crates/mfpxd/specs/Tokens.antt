-- Which token stands for which source.
use Rattle.std.specs.Prelude.{◌≡◌, ℕ, ◌+◌, ◌<◌, ⊤}
use Rattle.mfpxd.specs.declared.tokens.Source.{Source}
use Rattle.mfpxd.specs.declared.tokens.Source.TheVariants.{Peers, Clients, Link, Comer, Client}
use Rattle.mfpxd.specs.declared.tokens.TheConstants.{PEERS, CLIENTS, FIRST_LINK, FIRST_COMER, FIRST_CLIENT, END}

-- sources of a kind have tokens one after the other
abbrev pub token_of : Source → ℕ
token_of Peers = PEERS
token_of Clients = CLIENTS
token_of (Link node) = FIRST_LINK + node
token_of (Comer place) = FIRST_COMER + place
token_of (Client place) = FIRST_CLIENT + place

-- and each kind has so many
abbrev pub IsThere : Source → Type 0
IsThere (Link node) = FIRST_LINK + node < FIRST_COMER
IsThere (Comer place) = FIRST_COMER + place < FIRST_CLIENT
IsThere (Client place) = FIRST_CLIENT + place < END
IsThere _ = ⊤

pub record IsTokenOf (token : ℕ) (source : Source) : Type 0 where
  pub token_is : token ≡ token_of source
  pub there : IsThere source
