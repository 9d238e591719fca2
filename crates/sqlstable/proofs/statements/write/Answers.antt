use Rattle.std.proofs.Common.{refl}
use Rattle.sqlite.specs.Listing.{understood}
use Rattle.sqlite_tied.specs.Compute.{everything}
use Rattle.sqlstable.proofs.statements.write.Goals as goal

-- the text means so: its compiled form is the very command
pub run_put-requires : goal.run_put-requires
unfolding understood everything
run_put-requires g c = record { put = record { command = refl; bare = (refl, refl) } }
