-- Instants.
use Rattle.std.specs.Prelude.{ℤ, pos, ◌≤ℤ◌}
use Rattle.tpoint.specs.declared.instant.TheConstants.{LAST_MS}

-- so many milliseconds since 1970-01-01T00:00:00.000Z are an instant
pub record IsInstant (ms : ℤ) : Type 0 where
  pub not_before : pos 0 ≤ℤ ms
  pub not_after : ms ≤ℤ LAST_MS
