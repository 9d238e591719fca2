use Rattle.std.proofs.Common.{◌≤◌, take}
use Rattle.story.specs.Accounts.{AreWritten}
use Rattle.story.specs.Lines.{texts_in}
use Rattle.story.proofs.account.tell_run.Given as goal

-- the entries so far have their lines
abbrev pub invariant-loop-index : goal.invariant-loop-index
invariant-loop-index l = record {
  written : AreWritten l.manner l.ledger (texts_in l.bytes) (take l.index l.entries.items) l.place l.text.items;
  few : l.place.sent ≤ l.index;
}
