use Rattle.std.proofs.Common.{refl}
use Rattle.sqlite.specs.Listing.{understood}
use Rattle.sqlite_tied.specs.Compute.{everything}
use Rattle.sqlstable.proofs.statements.create.Goals as goal

-- the text means so: its compiled form is the very command
pub run_making-requires-clause-making : goal.run_making-requires-clause-making
unfolding understood everything
run_making-requires-clause-making g c = record { command = refl; defined = refl; bare = (refl, refl) }
