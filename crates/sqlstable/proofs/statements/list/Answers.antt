use Rattle.std.proofs.Common.{refl}
use Rattle.sqlite.specs.Listing.{understood}
use Rattle.sqlite_tied.specs.Compute.{everything}
use Rattle.sqlstable.proofs.statements.list.Goals as goal

-- the text means so: its compiled form is the very command
pub run_listing-requires : goal.run_listing-requires
unfolding understood everything
run_listing-requires g c = record { listing = record { command = refl; bare = (refl, refl); unlisted = refl } }
