-- The step that is noted counts all that is there.
use Rattle.std.proofs.Common.{sym, ap, subst}
use Rattle.story.specs.declared.ledger.Counts.{Counts}
use Rattle.story.specs.Counted.{AreWithin}
use Rattle.story.specs.Ledgers.{counted}
use Rattle.story.proofs.LedgerLemmas.{equal_within}
use Rattle.story.proofs.ledger.Ledger.note.Goals as goal

pub push_step-requires-clause-more : goal.push_step-requires-clause-more
push_step-requires-clause-more c =
    subst (λ (k : Counts). AreWithin (counted c.args.self.now) k) (sym c.count_lists-ends.ensures) c.requires.kept.within

pub push_step-requires-clause-within : goal.push_step-requires-clause-within
push_step-requires-clause-within c = equal_within _ _ c.count_lists-ends.ensures

pub push_step-requires-clause-frames : goal.push_step-requires-clause-frames
push_step-requires-clause-frames c = ap (λ (k : Counts). k.frames) c.count_lists-ends.ensures
