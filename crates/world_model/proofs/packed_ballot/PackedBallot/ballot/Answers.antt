use Rattle.std.proofs.Common.{rules, ◌≡◌, ◌<◌, ◌^◌, ◌∙◌, ap, sym}
use Rattle.synod.specs.declared.ballot.Ballot.{Ballot}
use Rattle.wire.specs.OneBallot.{same_ballot}
use Rattle.world_model.specs.PackedBallots.{ballot_in}
use Rattle.world_model.proofs.PackedBallotLemmas.{same_round}
use Rattle.world_model.proofs.packed_ballot.PackedBallot.ballot.Goals as goal

pub invariant_of-result : goal.invariant_of-result
invariant_of-result c =
    let round = c.self.inside.round in
    let node = c.self.inside.node in
    let same : c.from_le_bytes.result ≡ (ballot_in round node).round =
    c.from_le_bytes.ensures ∙ same_round round node c.self.invariant (search rules) in
    let begun = (ballot_in round node).begun in
    let of_a_node = (ballot_in round node).of_a_node in
    search (rules, same, begun, of_a_node, c.self.invariant.of_a_node)

pub returns : goal.returns
returns c =
    let round = c.self.inside.round in
    let node = c.self.inside.node in
    let same : c.from_le_bytes.result ≡ (ballot_in round node).round =
    c.from_le_bytes.ensures ∙ same_round round node c.self.invariant (search rules) in
    let is : ballot_in round node ≡ c.args.self = search rules in
    same_ballot _ c.args.self (same ∙ ap (λ (b : Ballot). b.round) is)
    (sym c.self.invariant.of_a_node ∙ ap (λ (b : Ballot). b.node) is)
