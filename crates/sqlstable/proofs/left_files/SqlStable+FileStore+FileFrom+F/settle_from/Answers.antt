use Rattle.std.proofs.Common.{IsSome, refl, subst, sym}
use Rattle.sqlite.specs.Files.{over_files}
use Rattle.sqlstable.specs.Files.{HoldRowsAlone}
use Rattle.sqlstable.specs.Storage.{IsSqlHonest}
use Rattle.sqlstable.proofs.FoundLemmas.{if_both}
use Rattle.sqlstable.proofs.left_files.SqlStable+FileStore+FileFrom+F.settle_from.Goals as goal

-- what is closed was of use, so what was found are the rows that were there
pub returns-clause-kept : goal.returns-clause-kept
returns-clause-kept g c = if_both c.close_files.result c.close_files.ensures.was_usable c.close_files.ensures.closed
    (λ files usable closed clean rows held.
    let honest : IsSqlHonest over_files c.in_ok-store.store = record {
      usable = usable clean;
      counts = subst IsSome (sym c.in_ok-store.ensures.unfailed) refl;
    } in
    subst (HoldRowsAlone _) (c.in_ok-store.ensures.found honest rows held) (closed clean))
