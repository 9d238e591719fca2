-- How long a node waits for progress before it starts a campaign, in milliseconds.
use Rattle.std.specs.Prelude.{ℕ, ◌+◌, ◌*◌, ◌%◌}
use Rattle.serving.specs.declared.patience.TheConstants.{LEAST_PATIENCE, NODE_STEP, SPREADS}

pub record PatienceState : Type 0 where
  -- the node's number
  pub node : ℕ
  -- by how much it is longer this time
  pub spread : ℕ
  -- when it was renewed last
  pub since : ℕ

-- a node of a higher number waits longer
abbrev pub patience_of : PatienceState → ℕ
patience_of p = LEAST_PATIENCE + NODE_STEP * p.node + p.spread

-- nodes begin with spreads that differ
abbrev pub fresh_patience : ℕ → ℕ → PatienceState
fresh_patience node now = record { node = node; spread = node * 53 % SPREADS; since = now }

-- the number of spreads is prime, so that as many campaigns have all of them
abbrev pub next_spread : ℕ → ℕ
next_spread spread = (spread + 37) % SPREADS
