-- When two ballots are the same in every part.
use Rattle.std.specs.Prelude.{◌≡◌, ◌&&◌, Bool, nat_eq}
use Rattle.std.specs.Bool.{Decides}
use Rattle.std.specs.Cmp.{unsigned_Decides}
use Rattle.std.proofs.Common.{ap}
use Rattle.std.proofs.lemmas.Bool.Decides.{Decides-and}
use Rattle.synod.specs.declared.ballot.Ballot.{Ballot}
use Rattle.wire.specs.OneBallot.{same_ballot as one_ballot}

abbrev pub same_ballot : Ballot → Ballot → Bool
same_ballot a b = nat_eq a.round b.round && nat_eq a.node b.node

-- this test tells what is equal
pub same_ballot_Decides : (a b : Ballot) → Decides (same_ballot a b) (a ≡ b)
same_ballot_Decides a b =
    let parts = Decides-and _ _ (unsigned_Decides a.round b.round) (unsigned_Decides a.node b.node) in
    let of_round = λ (e : a ≡ b). ap (λ (c : Ballot). c.round) e in
    let of_node = λ (e : a ≡ b). ap (λ (c : Ballot). c.node) e in
    (λ e. let h = parts.0 e in one_ballot a b h.0 h.1, λ e. parts.1 (of_round e, of_node e))
