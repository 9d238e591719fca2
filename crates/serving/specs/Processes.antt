-- A process that serves a node: what it is at any time.
use Rattle.std.specs.Prelude.{◌≡◌, ℕ, Bool, ◌||◌, List}
use Rattle.life.specs.Lives.{LifeState}
use Rattle.serving.specs.Knowing.{IsPosition}
use Rattle.serving.specs.Requesting.{RequestState}
use Rattle.serving.specs.Timings.{TimingState, wants}
use Rattle.serving.specs.Waitings.{WaitingState, has_any}

pub record ProcessState (S : Type 0) : Type 0 where
  -- the number of its node, and how many there are
  pub own : ℕ
  pub nodes : ℕ
  pub life : LifeState S
  -- what connections wait for
  pub waiting : WaitingState
  -- the requests of its clients that it hands on
  pub requests : List RequestState
  -- what it knows of the run
  pub timing : TimingState

-- a request waits: a connection for its reply, or it itself to be handed on, whose client may be gone
abbrev pub is_asked_in : {S : Type 0} → ProcessState S → Bool
is_asked_in p = has_any p.waiting.claims || has_any p.requests

-- it knows where its node is, and whether it wants anything
pub record HasLooked {S : Type 0} (p : ProcessState S) : Type 0 where
  pub position : IsPosition p.life.node p.timing.position
  pub wanting : p.timing.is_wanting ≡ wants p.timing.position (is_asked_in p) p.timing
