use Rattle.std.proofs.Common.{◌≡◌, ◌∙◌, ℕ, List, [], ◌∷◌, ◌++◌, Option, ap, arith, refl, subst, sym}
use Rattle.serving.specs.HandingOn.{IsHandedTo}
use Rattle.serving.specs.Outgoing.{ArePacketsOf, IsPacketOf}
use Rattle.serving.specs.Outgoing.ArePacketsOf.{none}
use Rattle.serving.specs.Tapes.{Carried, Sent, sent_in}
use Rattle.serving.specs.Timings.{leader_in}
use Rattle.serving.proofs.Passing.{only_none, only_none_by, only_one_as, only_then}
use Rattle.serving.proofs.Sending.{all_none, packet_past, packet_to}
use Rattle.serving.proofs.Breaking.{on_err}
use Rattle.serving.proofs.Stopping.{passes_stopped, so_many_packets}
use Rattle.serving.proofs.Passing.{passes_as}
use Rattle.serving.proofs.server.Server.send_packet.Goals as goal

pub nodes-init : goal.nodes-init
nodes-init g c = (
  only_none g.N.Network.tape g.N.Network.Tells (IsPacketOf (leader_in c.args.self.now.timing) c.args.self.now.own c.args.packet.now)
      c.args.network.now,
  all_none g.N.Network.tape g.N.Network.Tells (ArePacketsOf (leader_in c.args.self.now.timing) c.args.self.now.own c.args.packet.now 0)
      c.args.network.now none,
)

pub returns-in_err-send-clause-only : goal.returns-in_err-send-clause-only
returns-in_err-send-clause-only g c =
    let P = IsPacketOf (leader_in c.args.self.now.timing) c.args.self.now.own c.args.packet.now in
    only_then g.N.Network.tape g.N.Network.Tells P _ _ _ c.nodes.invariant.0
    (only_none_by g.N.Network.tape g.N.Network.Tells P c.nodes.network c.send.new.self
    (sent_in c.node.result c.args.packet.now c.send.result) (ap (sent_in c.node.result c.args.packet.now) c.in_err-send.was)
    c.send.ensures.tape c.send.ensures.told)

pub nodes-preserved : goal.nodes-preserved
nodes-preserved g c =
    let P = IsPacketOf (leader_in c.args.self.now.timing) c.args.self.now.own c.args.packet.now in
    let handed : IsHandedTo (leader_in c.args.self.now.timing) c.args.self.now.own c.node.result =
    subst (λ (n : ℕ). IsHandedTo (leader_in c.args.self.now.timing) c.args.self.now.own n) (sym c.node.ensures)
    (subst (λ (o : Option ℕ). IsHandedTo o c.args.self.now.own c.nodes.node) c.leader-leader.ensures
    (subst (λ (n : ℕ). IsHandedTo c.leader-leader.result n c.nodes.node) c.value.ensures.value
    (c.is_handed_to.ensures.0 c.if-not-is_handed_to.false))) in
    let passed : sent_in c.node.result c.args.packet.now c.send.result ≡ Sent c.node.result c.args.packet.now ∷ [] =
    ap (sent_in c.node.result c.args.packet.now) c.in_ok-send.was in
    let sent : sent_in c.node.result c.args.packet.now c.send.result ≡ Sent c.nodes.node c.args.packet.now ∷ [] =
    passed ∙ ap (λ (n : ℕ). Sent n c.args.packet.now ∷ []) c.node.ensures in (
      only_then g.N.Network.tape g.N.Network.Tells P _ _ _ c.nodes.invariant.0
          (only_one_as g.N.Network.tape g.N.Network.Tells P c.nodes.network c.send.new.self
          (sent_in c.node.result c.args.packet.now c.send.result) (Sent c.node.result c.args.packet.now) passed
          c.send.ensures.tape c.send.ensures.told (refl, handed)),
      packet_to g.N.Network.tape g.N.Network.Tells (leader_in c.args.self.now.timing) c.args.self.now.own c.args.packet.now c.nodes.node
          _ c.nodes.network c.send.new.self (subst (λ (n : ℕ). IsHandedTo (leader_in c.args.self.now.timing) c.args.self.now.own n) c.node.ensures handed)
          c.nodes.invariant.1
          (λ tells. c.send.ensures.tape tells ∙ ap (λ (xs : List Carried). g.N.Network.tape c.nodes.network ++ xs) sent)
          c.send.ensures.told,
    )

pub nodes-preserved-then-not-is_handed_to : goal.nodes-preserved-then-not-is_handed_to
nodes-preserved-then-not-is_handed_to g c =
    let not_handed : ¬ IsHandedTo (leader_in c.args.self.now.timing) c.args.self.now.own c.nodes.node = λ handed.
    let yes = c.is_handed_to.ensures.1 (subst (λ (n : ℕ). IsHandedTo c.leader-leader.result n c.nodes.node) (sym c.value.ensures.value)
    (subst (λ (o : Option ℕ). IsHandedTo o c.args.self.now.own c.nodes.node) (sym c.leader-leader.ensures) handed)) in
    let no = c.if-not-is_handed_to.true in
    absurd (cc) in (
      c.nodes.invariant.0,
      packet_past g.N.Network.tape g.N.Network.Tells (leader_in c.args.self.now.timing) c.args.self.now.own c.args.packet.now c.nodes.node
          _ _ not_handed c.nodes.invariant.1,
    )

pub returns-in_err-send-clause-some : goal.returns-in_err-send-clause-some
returns-in_err-send-clause-some g c =
    let leader = leader_in c.args.self.now.timing in
    let own = c.args.self.now.own in
    on_err _ (so_many_packets g.N.Network.tape g.N.Network.Tells leader own c.args.self.now.nodes c.args.packet.now c.nodes.node
    c.args.network.now c.send.new.self (omega (arith, c.nodes-test.true, c.count-node-end.ensures.value))
    (passes_stopped g.N.Network.tape g.N.Network.Tells (ArePacketsOf leader own c.args.packet.now c.nodes.node) _ _ _ c.nodes.invariant.1
    (passes_as g.N.Network.tape g.N.Network.Tells c.nodes.network c.send.new.self (sent_in c.node.result c.args.packet.now c.send.result) []
    c.send.ensures.tape c.send.ensures.told (ap (sent_in c.node.result c.args.packet.now) c.in_err-send.was))))
