-- How the program ends.
use Rattle.std.specs.Prelude.{ℕ}
use Rattle.mfpxd.specs.declared.stop.Stop.{Stop}
use Rattle.mfpxd.specs.declared.stop.Stop.TheVariants.{Refused}

-- its exit status: what it was given is refused, or something failed
abbrev pub status_of : Stop → ℕ
status_of (Refused _) = 2
status_of _ = 3
