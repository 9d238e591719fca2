use Rattle.std.proofs.Common.{List, [], arith}
use Rattle.serving.specs.Moves.{Moves, Taking}
use Rattle.serving.specs.Moves.Moves.{none}
use Rattle.serving.specs.Outgoing.{IsArrival}
use Rattle.serving.specs.Seen.{process_of, server_of}
use Rattle.serving.specs.Tapes.{Carried, polled}
use Rattle.serving.proofs.Moving.{moves_then}
use Rattle.serving.proofs.Passing.{nodes_none, nodes_then, only_none, only_then}
use Rattle.serving.proofs.Taking.{came_then, none_came, read_the_most, read_to_the_last}
use Rattle.serving.proofs.Stopping.{nodes_stop_then}
use Rattle.serving.specs.Resting.{AllCame}
use Rattle.std.proofs.Common.{◌≡◌, length}
use Rattle.std.proofs.lemmas.Result.{err_from_is_err_and}
use Rattle.serving.proofs.server.Server.take_frames.Goals as goal

pub frames-init : goal.frames-init
frames-init g c = (
  nodes_none g.S.Stable g.N.Network.tape g.N.Network.Tells (server_of c.args.self.now) c.args.network.now,
  only_none g.N.Network.tape g.N.Network.Tells IsArrival c.args.network.now,
  omega arith,
  none_came g.N.Network.tape g.N.Network.Tells polled
      (λ (xs : List Carried). Moves g.S.Stable c.args.now Taking (process_of c.args.self.now) xs [] (process_of c.args.self.now))
      c.args.network.now (none (process_of c.args.self.now)),
  λ own. own,
)

pub returns-in_err-take_next_frame-clause-serves : goal.returns-in_err-take_next_frame-clause-serves
returns-in_err-take_next_frame-clause-serves g c =
    nodes_then g.S.Stable g.N.Network.tape g.N.Network.Tells _ _ _ _ _ _ c.frames.invariant.0 c.take_next_frame.ensures.serves

pub returns-then-not-branch-clause-serves : goal.returns-then-not-branch-clause-serves
returns-then-not-branch-clause-serves g c =
    nodes_then g.S.Stable g.N.Network.tape g.N.Network.Tells _ _ _ _ _ _ c.frames.invariant.0 c.take_next_frame.ensures.serves

pub frames-preserved : goal.frames-preserved
frames-preserved g c =
    let p = process_of c.args.self.now in
    let q = process_of c.frames.self in
    let r = process_of c.take_next_frame.new.self in (
      nodes_then g.S.Stable g.N.Network.tape g.N.Network.Tells _ _ _ _ _ _ c.frames.invariant.0 c.take_next_frame.ensures.serves,
      only_then g.N.Network.tape g.N.Network.Tells IsArrival _ _ _ c.frames.invariant.1 c.in_ok-take_next_frame.ensures.comes,
      omega (arith, c.frames-test.true),
      came_then g.N.Network.tape g.N.Network.Tells polled (λ (xs : List Carried). Moves g.S.Stable c.args.now Taking p xs [] q)
          (λ (xs : List Carried). Moves g.S.Stable c.args.now Taking q xs [] r)
          (λ (xs : List Carried). Moves g.S.Stable c.args.now Taking p xs [] r)
          (λ xs ys h k. moves_then g.S.Stable c.args.now p q r xs ys [] [] h k) c.frames.counter c.args.network.now c.frames.network
          c.take_next_frame.new.network c.in_ok-take_next_frame.field-0 c.if-not-branch.false c.frames.invariant.3
          c.in_ok-take_next_frame.ensures.takes,
      λ own. c.in_ok-take_next_frame.ensures.own (c.frames.invariant.4 own),
    )

pub returns-then-not-branch-clause-comes : goal.returns-then-not-branch-clause-comes
returns-then-not-branch-clause-comes g c =
    only_then g.N.Network.tape g.N.Network.Tells IsArrival _ _ _ c.frames.invariant.1 c.in_ok-take_next_frame.ensures.comes

pub returns-then-not-branch-clause-takes : goal.returns-then-not-branch-clause-takes
returns-then-not-branch-clause-takes g c =
    let p = process_of c.args.self.now in
    let q = process_of c.frames.self in
    let r = process_of c.take_next_frame.new.self in
    read_to_the_last g.N.Network.tape g.N.Network.Tells polled (λ (xs : List Carried). Moves g.S.Stable c.args.now Taking p xs [] q)
    (λ (xs : List Carried). Moves g.S.Stable c.args.now Taking q xs [] r)
    (λ (xs : List Carried). Moves g.S.Stable c.args.now Taking p xs [] r)
    (λ xs ys h k. moves_then g.S.Stable c.args.now p q r xs ys [] [] h k) c.frames.counter c.args.network.now c.frames.network
    c.take_next_frame.new.network c.in_ok-take_next_frame.field-0 c.if-not-branch.true (omega (arith, c.frames-test.true))
    c.frames.invariant.3 c.in_ok-take_next_frame.ensures.takes

pub returns-clause-takes : goal.returns-clause-takes
returns-clause-takes g c =
    read_the_most g.N.Network.tape g.N.Network.Tells polled
    (λ (xs : List Carried). Moves g.S.Stable c.args.now Taking (process_of c.args.self.now) xs [] (process_of c.frames.self))
    c.frames.counter c.args.network.now c.frames.network c.frames.invariant.2 (omega (arith, c.frames-test.false)) c.frames.invariant.3

pub returns-in_err-take_next_frame-clause-stops : goal.returns-in_err-take_next_frame-clause-stops
returns-in_err-take_next_frame-clause-stops g c =
    let p = err_from_is_err_and c.from_residual.result c.from_residual.ensures.1 in
    rw (p.1, p.2) (nodes_stop_then g.S.Stable c.args.now g.N.Network.tape g.N.Network.Tells (λ (xs : List Carried). AllCame polled xs × (length xs ≡ c.frames.counter))
    (process_of c.args.self.now) (process_of c.frames.self) c.args.network.now c.frames.network c.take_next_frame.new.network _ _
    (record {
      passed = c.frames.invariant.3.passed;
      are = (c.frames.invariant.3.are.0, (c.frames.invariant.3.are.1, c.frames.invariant.3.are.2));
      passes = c.frames.invariant.3.passes;
    }) c.frames.invariant.4 c.in_err-take_next_frame.ensures.stops)

pub returns-then-not-branch-clause-own : goal.returns-then-not-branch-clause-own
returns-then-not-branch-clause-own g c = λ own. c.in_ok-take_next_frame.ensures.own (c.frames.invariant.4 own)
