use Rattle.std.proofs.Common.{refl}
use Rattle.sqlite.specs.Listing.{understood}
use Rattle.sqlite_tied.specs.Compute.{everything}
use Rattle.sqlstable.proofs.statements.read.Goals as goal

-- the text means so: its compiled form is the very command
pub run_lookup-requires : goal.run_lookup-requires
unfolding understood everything
run_lookup-requires g c = record { lookup = record { command = refl; bare = (refl, refl); unlisted = refl } }
