use Rattle.std.proofs.Common.{◌≡◌, rules}
use Rattle.store.specs.Same.{same_op, same_op_Decides}
use Rattle.store.proofs.op.OpPartialEq.eq.Goals as goal

pub returns-then-eq-clause-same : goal.returns-then-eq-clause-same
returns-then-eq-clause-same c =
    let told : c.eq-then-eq.result ≡ same_op c.args.self.now c.args.other.now = search rules in
    rw told (same_op_Decides c.args.self.now c.args.other.now)
