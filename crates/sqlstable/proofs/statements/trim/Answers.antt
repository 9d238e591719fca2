use Rattle.std.proofs.Common.{refl}
use Rattle.sqlite.specs.Listing.{understood}
use Rattle.sqlite_tied.specs.Compute.{everything}
use Rattle.sqlstable.proofs.statements.trim.Goals as goal

-- the text means so: its compiled form is the very command
pub run_trim-requires : goal.run_trim-requires
unfolding understood everything
run_trim-requires g c = record { trim = record { command = refl; bare = (refl, refl) } }
