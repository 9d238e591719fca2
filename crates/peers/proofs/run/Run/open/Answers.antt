use Rattle.std.proofs.Common.{rules, ◌≡◌, ℕ, List, ◌++◌, length, take, drop, true, sym, ap, ◌∙◌, arith}
use Rattle.peers.specs.Hmac.{keyed_digest}
use Rattle.peers.specs.Sealing.{Secret}
use Rattle.peers.proofs.SealLemmas.{sealed_digest, sealed_len, sealed_name}
use Rattle.peers.proofs.run.Run.open.Goals as goal

-- a packet that is too short
pub returns-then-packet-lt-HEAD-clause-each_sealed :
    goal.returns-then-packet-lt-HEAD-clause-each_sealed
returns-then-packet-lt-HEAD-clause-each_sealed c =
    let name : length c.args.self.now.name ≡ 16 = ap (λ (s : Secret). length s.name) (sym c.self.view_is) ∙ c.self.invariant in
    λ frame is. absurd (omega (arith, c.if-packet-lt-HEAD.true, sealed_len c.args.self.now c.args.packet.now frame name is))

-- one of another run
pub returns-then-ne-clause-each_sealed : goal.returns-then-ne-clause-each_sealed
returns-then-ne-clause-each_sealed c =
    let name : length c.args.self.now.name ≡ 16 = ap (λ (s : Secret). length s.name) (sym c.self.view_is) ∙ c.self.invariant in
    let other : ¬ (take 16 c.args.packet.now ≡ c.args.self.now.name) = search rules in
    λ frame is. absurd (other (sealed_name c.args.self.now c.args.packet.now frame name is))

-- one whose digest is another
pub returns-clause-each_sealed : goal.returns-clause-each_sealed
returns-clause-each_sealed c =
    let packet = c.args.packet.now in
    let name : length c.args.self.now.name ≡ 16 = ap (λ (s : Secret). length s.name) (sym c.self.view_is) ∙ c.self.invariant in
    let given : c.split_at-2.result.0.now ≡ take 32 (drop 16 packet) =
    c.split_at-2.ensures.front ∙ ap (λ (xs : List ℕ). take 32 xs) c.split_at.ensures.back in
    let made = rw (c.split_at.ensures.front, c.split_at-2.ensures.back, c.split_at.ensures.back) at c.authenticate.ensures in
    λ frame is. let same =
    given
    ∙ sealed_digest c.args.self.now packet frame name is
    ∙ ap (λ (s : Secret). keyed_digest s.block (take 16 packet ++ drop 32 (drop 16 packet))) (sym c.self.view_is)
    ∙ sym made in
    let yes : c.are_equal.result ≡ true = c.are_equal.ensures.1 same in
    let no = c.if-are_equal.false in
    cc
