-- A ballot is its round and its node: what is known of them adds nothing.
use Rattle.std.specs.Prelude.{◌≡◌, ℕ, ◌<◌, ◌≤◌}
use Rattle.std.proofs.Common.{ap, subst, sym}
use Rattle.std.proofs.Math.Bridge.{le_prop}
use Rattle.synod.specs.declared.ballot.Ballot.{Ballot}

unfoldable pub made : (round node : ℕ) → 1 ≤ round → node < 7 → Ballot
made round node begun of_a_node = record { round = round; node = node; begun = begun; of_a_node = of_a_node }

same_begun : (b : Ballot) (begun : 1 ≤ b.round) → made b.round b.node begun b.of_a_node ≡ b
unfolding made
same_begun b begun = ap (λ (h : 1 ≤ b.round). made b.round b.node h b.of_a_node) (le_prop begun b.begun)

same_round : (b : Ballot) (round : ℕ) → b.round ≡ round → (begun : 1 ≤ round) → made round b.node begun b.of_a_node ≡ b
same_round b round e =
    subst (λ (r : ℕ). (begun : 1 ≤ r) → made r b.node begun b.of_a_node ≡ b) e (same_begun b)

pub same_node : (b : Ballot) (round node : ℕ) → b.round ≡ round → b.node ≡ node → (begun : 1 ≤ round) (of_a_node : node < 7)
    → made round node begun of_a_node ≡ b
same_node b round node e f begun =
    subst (λ (n : ℕ). (h : n < 7) → made round n begun h ≡ b) f
    (λ h. subst (λ (q : b.node < 7). made round b.node begun q ≡ b) (le_prop b.of_a_node h) (same_round b round e begun))

-- a ballot is its round and its node
pub same_ballot : (a b : Ballot) → a.round ≡ b.round → a.node ≡ b.node → a ≡ b
unfolding made
same_ballot a b e f = same_node b a.round a.node (sym e) (sym f) a.begun a.of_a_node
