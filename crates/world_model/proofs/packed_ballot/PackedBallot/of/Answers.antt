use Rattle.std.proofs.Common.{rules, ◌<◌, ◌^◌}
use Rattle.world_model.proofs.PackedBallotLemmas.{packed, unpacked}
use Rattle.world_model.proofs.packed_ballot.PackedBallot.of.Goals as goal

pub invariant_of-result : goal.invariant_of-result
invariant_of-result c =
    let fits : c.args.ballot.round < 2 ^ 64 = search rules in
    search (rules, packed c.args.ballot fits)

pub returns : goal.returns
returns c =
    let fits : c.args.ballot.round < 2 ^ 64 = search rules in
    search (rules, unpacked c.args.ballot fits)
