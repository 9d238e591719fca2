use Rattle.std.proofs.Common.{◌≡◌, vec_len}
use Rattle.record_files.specs.Opening.{AreOpened}
use Rattle.record_files.proofs.record_folder.RecordFolderArchive.open.Given as goal

-- as many files were opened, each under its number
abbrev pub invariant-loop-number : goal.invariant-loop-number
invariant-loop-number g l = record {
  counted : vec_len l.stores ≡ l.number;
  opened : AreOpened g.A.FileAccess l.folder l.stores.items;
}
