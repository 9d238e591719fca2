-- How long it is from one tick of a node to the next, in milliseconds.
use Rattle.std.specs.Prelude.{ℕ, Bool, if◌then◌else◌}
use Rattle.serving.specs.declared.ticks.TheConstants.{BUSY_PERIOD, IDLE_PERIOD}

abbrev pub period_of : Bool → ℕ
period_of is_wanting = if is_wanting then BUSY_PERIOD else IDLE_PERIOD
