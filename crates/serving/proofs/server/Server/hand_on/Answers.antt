use Rattle.std.proofs.Common.{◌≡◌, ℕ, List, refl, sym, ap, subst, ◌∙◌}
use Rattle.serving.specs.Outgoing.{IsRightlySent}
use Rattle.serving.specs.Requesting.{HandsOnFirst, NoneIsDue, RequestState}
use Rattle.life.specs.Seen.{life_of}
use Rattle.serving.specs.Resting.{IsFull}
use Rattle.serving.specs.Seen.{process_of, server_of}
use Rattle.serving.specs.Timings.{leader_in}
use Rattle.serving.proofs.Passing.{nodes_none, nodes_then, only_none}
use Rattle.serving.proofs.HandingOn.{rightly_from}
use Rattle.serving.proofs.Requested.{none_due_first, none_due_more}
use Rattle.serving.proofs.Moving.{nodes_moves_none, nodes_moves_then}
use Rattle.serving.proofs.Breaking.{on_err}
use Rattle.serving.proofs.Stopping.{nodes_hand_on}
use Rattle.serving.proofs.server.Server.hand_on.Goals as goal

pub packets-init : goal.packets-init
packets-init g c = (
  nodes_none g.S.Stable g.N.Network.tape g.N.Network.Tells (server_of c.args.self.now) c.args.network.now,
  refl,
  refl,
  refl,
  refl,
  λ none. none,
  only_none g.N.Network.tape g.N.Network.Tells (IsRightlySent (leader_in c.args.self.now.timing) c.args.self.now.own) c.args.network.now,
  refl,
  none_due_first c.args.now c.args.self.now.requests,
  λ held none_at_full. nodes_moves_none g.S.Stable c.args.now g.N.Network.tape g.N.Network.Tells (process_of c.args.self.now) c.args.network.now,
)

pub returns-in_err-hand_on_next-clause-serves : goal.returns-in_err-hand_on_next-clause-serves
returns-in_err-hand_on_next-clause-serves g c = nodes_then g.S.Stable g.N.Network.tape g.N.Network.Tells _ _ _ _ _ _ c.packets.invariant.0 c.hand_on_next.ensures.serves

pub returns-then-not-branch-clause-serves : goal.returns-then-not-branch-clause-serves
returns-then-not-branch-clause-serves g c = nodes_then g.S.Stable g.N.Network.tape g.N.Network.Tells _ _ _ _ _ _ c.packets.invariant.0 c.hand_on_next.ensures.serves

pub returns-then-not-branch-clause-sends : goal.returns-then-not-branch-clause-sends
returns-then-not-branch-clause-sends g c =
    rightly_from g.N.Network.tape g.N.Network.Tells c.args.self.now.timing c.packets.self.timing c.args.self.now.own c.packets.self.own
    _ _ _ c.packets.invariant.3 c.packets.invariant.4 c.packets.invariant.6 c.in_ok-hand_on_next.ensures.sends

pub packets-preserved : goal.packets-preserved
packets-preserved g c =
    let handed : (place : ℕ) × HandsOnFirst c.args.now place c.packets.self.requests c.hand_on_next.new.self.requests =
    rw c.if-not-branch.false at c.in_ok-hand_on_next.ensures.first in (
      nodes_then g.S.Stable g.N.Network.tape g.N.Network.Tells _ _ _ _ _ _ c.packets.invariant.0 c.hand_on_next.ensures.serves,
      c.hand_on_next.ensures.waits ∙ c.packets.invariant.1,
      c.hand_on_next.ensures.life ∙ c.packets.invariant.2,
      c.hand_on_next.ensures.knows.0 ∙ c.packets.invariant.3,
      c.hand_on_next.ensures.knows.1 ∙ c.packets.invariant.4,
      λ none. c.hand_on_next.ensures.none (c.packets.invariant.5 none),
      rightly_from g.N.Network.tape g.N.Network.Tells c.args.self.now.timing c.packets.self.timing c.args.self.now.own c.packets.self.own
          _ _ _ c.packets.invariant.3 c.packets.invariant.4 c.packets.invariant.6 c.in_ok-hand_on_next.ensures.sends,
      c.hand_on_next.ensures.keeps ∙ c.packets.invariant.7,
      none_due_more c.args.now handed.0 _ _ handed.1 c.packets.counter c.packets.invariant.8,
      λ held none_at_full. nodes_moves_then g.S.Stable c.args.now g.N.Network.tape g.N.Network.Tells (process_of c.args.self.now) (process_of c.packets.self)
          (process_of c.hand_on_next.new.self) c.args.network.now c.packets.network c.hand_on_next.new.network (c.packets.invariant.9 held none_at_full)
          (c.in_ok-hand_on_next.ensures.moves (ap (λ l. (life_of l).held) c.packets.invariant.2 ∙ held)
          (λ full. c.packets.invariant.5 (none_at_full (subst (λ l. IsFull (life_of l).node) c.packets.invariant.2 full)))),
    )

pub returns-then-not-branch-clause-keeps : goal.returns-then-not-branch-clause-keeps
returns-then-not-branch-clause-keeps g c = c.hand_on_next.ensures.keeps ∙ c.packets.invariant.7

pub returns-in_err-hand_on_next-clause-keeps : goal.returns-in_err-hand_on_next-clause-keeps
returns-in_err-hand_on_next-clause-keeps g c = c.hand_on_next.ensures.keeps ∙ c.packets.invariant.7

pub returns-then-not-branch-clause-all : goal.returns-then-not-branch-clause-all
returns-then-not-branch-clause-all g c =
    let none : (c.hand_on_next.new.self.requests ≡ c.packets.self.requests) × NoneIsDue c.args.now c.packets.self.requests =
    rw c.if-not-branch.true at c.in_ok-hand_on_next.ensures.first in
    subst (λ (rs : List RequestState). NoneIsDue c.args.now rs) (sym none.0) none.1

pub returns-then-not-branch-clause-moves : goal.returns-then-not-branch-clause-moves
returns-then-not-branch-clause-moves g c = λ held none_at_full. nodes_moves_then g.S.Stable c.args.now g.N.Network.tape g.N.Network.Tells (process_of c.args.self.now) (process_of c.packets.self)
    (process_of c.hand_on_next.new.self) c.args.network.now c.packets.network c.hand_on_next.new.network (c.packets.invariant.9 held none_at_full)
    (c.in_ok-hand_on_next.ensures.moves (ap (λ l. (life_of l).held) c.packets.invariant.2 ∙ held)
    (λ full. c.packets.invariant.5 (none_at_full (subst (λ l. IsFull (life_of l).node) c.packets.invariant.2 full))))

pub returns-in_err-hand_on_next-clause-stops : goal.returns-in_err-hand_on_next-clause-stops
returns-in_err-hand_on_next-clause-stops g c = λ held none_at_full.
    on_err _ (nodes_hand_on g.S.Stable c.args.now g.N.Network.tape g.N.Network.Tells (process_of c.args.self.now) (process_of c.packets.self) _ _ _ _
    (c.packets.invariant.9 held none_at_full)
    (c.in_err-hand_on_next.ensures.stops (ap (λ l. (life_of l).held) c.packets.invariant.2 ∙ held)
    (λ full. c.packets.invariant.5 (none_at_full (subst (λ l. IsFull (life_of l).node) c.packets.invariant.2 full))))
    (ap (λ l. (life_of l).node) c.hand_on_next.ensures.life))
