use Rattle.std.proofs.Common.{rules}
use Rattle.mfpxd.proofs.Feeds.{first_line, no_line, too_long}
use Rattle.mfpxd.proofs.inbox.Inbox.next_line.Goals as goal

pub returns-then-end-gt-LONGEST_LINE-clause-too_long :
    goal.returns-then-end-gt-LONGEST_LINE-clause-too_long
returns-then-end-gt-LONGEST_LINE-clause-too_long c =
    λ _. too_long c.args.self.now c.as_slice-bytes.result.now c.first_feed-end.result (search rules) c.first_feed-end.ensures.place
    c.first_feed-end.ensures.within c.if-end-gt-LONGEST_LINE.true

pub returns-then-end-bytes-clause-line : goal.returns-then-end-bytes-clause-line
returns-then-end-bytes-clause-line c =
    first_line c.args.self.now c.as_slice-bytes.result.now c.in_ok-line.line.items c.advance.new.self.items c.first_feed-end.result
    (search rules) c.first_feed-end.ensures.place c.if-end-bytes.true (search rules) (search rules)

pub returns-clause-none : goal.returns-clause-none
returns-clause-none c =
    no_line c.args.self.now c.as_slice-bytes.result.now c.first_feed-end.result (search rules) c.first_feed-end.ensures.place
    c.if-end-bytes.false c.if-end-gt-LONGEST_LINE.false
