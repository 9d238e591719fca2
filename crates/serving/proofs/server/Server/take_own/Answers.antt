use Rattle.std.proofs.Common.{[], refl}
use Rattle.life.specs.Seen.{life_of}
use Rattle.serving.specs.Seen.{process_of, server_of}
use Rattle.serving.proofs.Arriving.{none_own, own_moves}
use Rattle.serving.proofs.Moving.{moves_same, moves_then}
use Rattle.serving.proofs.Leading.{serves_none, serves_then}
use Rattle.serving.proofs.Stopping.{stops_behind}
use Rattle.serving.proofs.Ending.{ends_before}
use Rattle.serving.specs.Ending.{IsOfOthers}
use Rattle.std.proofs.lemmas.Result.{err_from_is_err_and}
use Rattle.serving.proofs.server.Server.take_own.Goals as goal

pub own-init : goal.own-init
own-init g c = (
  serves_none g.S.Stable (server_of c.args.self.now),
  λ now. moves_same g.S.Stable now (process_of c.args.self.now) (process_of c.args.self.now) refl,
)

pub returns-in_err-take_back-clause-serves : goal.returns-in_err-take_back-clause-serves
returns-in_err-take_back-clause-serves g c = serves_then g.S.Stable _ _ _ [] [] [] [] c.own.invariant.0 c.take_back.ensures.serves

pub returns-then-not-branch-clause-serves : goal.returns-then-not-branch-clause-serves
returns-then-not-branch-clause-serves g c = serves_then g.S.Stable _ _ _ [] [] [] [] c.own.invariant.0 c.take_back.ensures.serves

pub own-preserved : goal.own-preserved
own-preserved g c = (
  serves_then g.S.Stable _ _ _ [] [] [] [] c.own.invariant.0 c.take_back.ensures.serves,
  λ now. moves_then g.S.Stable now (process_of c.args.self.now) (process_of c.own.self) (process_of c.take_back.new.self) [] [] [] []
      (c.own.invariant.1 now)
      (own_moves g.S.Stable now (process_of c.own.self) (process_of c.take_back.new.self) c.in_ok-take_back.field-0
      c.in_ok-take_back.ensures.takes c.take_back.ensures.others),
)

pub returns-then-not-branch-clause-moves : goal.returns-then-not-branch-clause-moves
returns-then-not-branch-clause-moves g c =
    λ now. moves_then g.S.Stable now (process_of c.args.self.now) (process_of c.own.self) (process_of c.take_back.new.self) [] [] [] []
    (c.own.invariant.1 now)
    (own_moves g.S.Stable now (process_of c.own.self) (process_of c.take_back.new.self) c.in_ok-take_back.field-0
    c.in_ok-take_back.ensures.takes c.take_back.ensures.others)

pub returns-then-not-branch-clause-own : goal.returns-then-not-branch-clause-own
returns-then-not-branch-clause-own g c =
    none_own g.S.Stable (life_of c.own.self.life) (life_of c.take_back.new.self.life) c.in_ok-take_back.field-0
    c.in_ok-take_back.ensures.takes c.if-not-branch.true

pub returns-in_err-take_back-clause-stops : goal.returns-in_err-take_back-clause-stops
returns-in_err-take_back-clause-stops g c = λ now.
    let p = err_from_is_err_and c.from_residual.result c.from_residual.ensures.1 in
    rw (p.1, p.2) (stops_behind g.S.Stable now (process_of c.args.self.now) (process_of c.own.self) [] [] _ _ (c.own.invariant.1 now)
    c.in_err-take_back.ensures.stops)

pub returns-clause-stops : goal.returns-clause-stops
returns-clause-stops g c = λ now.
    stops_behind g.S.Stable now (process_of c.args.self.now) (process_of c.own.self) [] [] _ _ (c.own.invariant.1 now)
    (ends_before g.S.Stable IsOfOthers _ _ _ refl refl)
