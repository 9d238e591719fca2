use Rattle.std.proofs.Common.{◌≡◌, rules}
use Rattle.tpoint.specs.Same.{same_sequence, same_sequence_Decides}
use Rattle.tpoint.proofs.seq.SeqPartialEq.eq.Goals as goal

pub returns-then-eq-clause-same : goal.returns-then-eq-clause-same
returns-then-eq-clause-same c =
    let told : c.eq-then-eq.result ≡ same_sequence c.args.self.now c.args.other.now = search rules in
    rw told (same_sequence_Decides c.args.self.now c.args.other.now)

pub returns-else-eq-clause-same : goal.returns-else-eq-clause-same
returns-else-eq-clause-same c =
    let told : c.eq.result ≡ same_sequence c.args.self.now c.args.other.now = search rules in
    rw told (same_sequence_Decides c.args.self.now c.args.other.now)
