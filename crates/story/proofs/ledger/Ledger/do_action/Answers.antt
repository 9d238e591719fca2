-- Whatever a line does, no list gets shorter, and no frame waits again.
use Rattle.story.specs.Ledgers.{counted}
use Rattle.story.proofs.Growing.{done_has, done_searched, done_sent, refused_has, refused_searched, refused_sent}
use Rattle.story.proofs.ledger.Ledger.do_action.Goals as goal

pub returns-in-Ok-clause-kept : goal.returns-in-Ok-clause-kept
returns-in-Ok-clause-kept c = record {
  lines = c.requires.kept.lines;
  counts = c.requires.kept.counts;
  within = done_has (counted c.args.self.now) _ c.args.action _ _ c.in-Ok.ensures.done c.requires.kept.within;
  passages = c.requires.kept.passages;
  came = c.requires.kept.came;
  sent = done_sent c.args.self.now.steps.items c.args.self.now.passages.items _ c.args.action _ _ c.in-Ok.ensures.done c.requires.kept.sent;
  searched = done_searched c.args.self.now.lowest _ c.args.action _ _ c.in-Ok.ensures.done c.requires.kept.searched;
}

pub returns-in-Err-clause-kept : goal.returns-in-Err-clause-kept
returns-in-Err-clause-kept c =
    let h = c.in-Err.ensures.done in record {
      lines = c.requires.kept.lines;
      counts = c.requires.kept.counts;
      within = refused_has (counted c.args.self.now) _ c.args.action _ h.why _ h.refused c.requires.kept.within;
      passages = c.requires.kept.passages;
      came = c.requires.kept.came;
      sent = refused_sent c.args.self.now.steps.items c.args.self.now.passages.items _ c.args.action _ h.why _ h.refused c.requires.kept.sent;
      searched = refused_searched c.args.self.now.lowest _ c.args.action _ h.why _ h.refused c.requires.kept.searched;
    }
