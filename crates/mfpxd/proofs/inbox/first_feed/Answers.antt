use Rattle.mfpxd.proofs.Feeds.{ends_within, place_or_end}
use Rattle.mfpxd.proofs.inbox.first_feed.Goals as goal

pub returns-clause-place : goal.returns-clause-place
returns-clause-place c = rw (c.unwrap_or.ensures, c.feed_place.ensures) (place_or_end c.args.bytes.now)

pub returns-clause-within : goal.returns-clause-within
returns-clause-within c = rw (returns-clause-place c) (ends_within c.args.bytes.now)
