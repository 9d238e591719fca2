-- A frame that is sent later is sent at the step at which its sender heard what it answers.
use Rattle.std.proofs.Common.{None}
use Rattle.story.proofs.SendingLemmas.{delayed}
use Rattle.story.proofs.passages.delay.Goals as goal

pub returns-then-number-passages-clause-sent : goal.returns-then-number-passages-clause-sent
returns-then-number-passages-clause-sent c = record {
  kept = λ frames steps late rise round came h.
      delayed frames c.args.frames.now steps c.args.first c.args.passages.now c.args.number c.args.heard c.later.result
      (record { sent = 0; came = None }) c.if-number-passages.true c.requires c.later.ensures late rise round came h;
}
