use Rattle.std.proofs.Common.{rules}
use Rattle.tpoint.specs.Faults.{MayFollow}
use Rattle.tpoint.proofs.Appending.{appended_valid}
use Rattle.tpoint.proofs.seq.Seq.append.Goals as goal

pub invariant_of-self-2 : goal.invariant_of-self-2
invariant_of-self-2 c =
    let follows : MayFollow c.self.inside.points.items c.args.point = search rules in
    rw c.in_ok-push.ensures.items (appended_valid _ c.args.point c.self.invariant follows)
