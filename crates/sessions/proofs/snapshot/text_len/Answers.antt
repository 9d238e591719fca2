use Rattle.std.proofs.Common.{arith}
use Rattle.sessions.specs.Snapshots.{held}
use Rattle.sessions.proofs.SpellingLemmas.{text_len}
use Rattle.sessions.proofs.snapshot.text_len.Goals as goal

pub returns-clause-value : goal.returns-clause-value
returns-clause-value c =
    let whole = text_len c.args.db.now (held c.args.places.now) in
    let features = c.features_len.ensures.value in
    let clients = c.count_held.ensures.value in
    omega (arith, whole, features, clients)
