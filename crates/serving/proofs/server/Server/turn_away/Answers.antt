use Rattle.std.proofs.Common.{ℕ, List, refl, sym, ap, subst, ◌∙◌, [], arith, length}
use Rattle.serving.specs.declared.claims.Claim.{Claim}
use Rattle.life.specs.Seen.{life_of}
use Rattle.serving.specs.Resting.{IsFull}
use Rattle.serving.specs.Seen.{process_of, server_of}
use Rattle.serving.proofs.Leading.{serves_none, serves_then}
use Rattle.serving.proofs.Ripening.{full_at, not_full_below, nothing_left, serves_clearing}
use Rattle.serving.proofs.Moving.{moves_same, moves_then}
use Rattle.serving.proofs.MovesOut.{moves_clearing}
use Rattle.serving.proofs.Breaking.{on_err}
use Rattle.serving.proofs.Ending.{ends_before}
use Rattle.serving.proofs.Stopping.{breaks_moved}
use Rattle.serving.specs.Ending.{IsAsked}
use Rattle.serving.proofs.server.Server.turn_away.Goals as goal

pub returns-then-position-lt-SLOTS-clause-serves : goal.returns-then-position-lt-SLOTS-clause-serves
returns-then-position-lt-SLOTS-clause-serves g c = serves_none g.S.Stable (server_of c.args.self.now)

pub returns-then-position-lt-SLOTS-clause-full : goal.returns-then-position-lt-SLOTS-clause-full
returns-then-position-lt-SLOTS-clause-full g c =
    λ full. absurd (not_full_below (life_of c.args.self.now.life).node c.position.result c.position.ensures c.if-position-lt-SLOTS.true full)

pub claims-init : goal.claims-init
claims-init g c = (
  serves_none g.S.Stable (server_of c.args.self.now),
  refl,
  refl,
  omega arith,
  λ now held. moves_same g.S.Stable now (process_of c.args.self.now) (process_of c.args.self.now) refl,
)

pub turn_away_next-requires : goal.turn_away_next-requires
turn_away_next-requires g c =
    subst (λ l. IsFull (life_of l).node) (sym c.claims.invariant.1)
    (full_at (life_of c.args.self.now.life).node c.position.result c.position.ensures (omega (arith, c.if-position-lt-SLOTS.false)))

pub returns-in_err-turn_away_next-clause-serves : goal.returns-in_err-turn_away_next-clause-serves
returns-in_err-turn_away_next-clause-serves g c =
    serves_then g.S.Stable _ _ _ [] [] [] [] c.claims.invariant.0 c.turn_away_next.ensures.serves

pub claims-preserved : goal.claims-preserved
claims-preserved g c = (
  serves_then g.S.Stable _ _ _ [] [] [] [] c.claims.invariant.0 c.turn_away_next.ensures.serves,
  c.turn_away_next.ensures.life ∙ c.claims.invariant.1,
  c.turn_away_next.ensures.questions ∙ c.claims.invariant.2,
  omega (arith, c.claims.invariant.3, c.in_ok-turn_away_next.ensures.less),
  λ now held. moves_then g.S.Stable now (process_of c.args.self.now) (process_of c.claims.self) (process_of c.turn_away_next.new.self)
      [] [] [] [] (c.claims.invariant.4 now held)
      (c.in_ok-turn_away_next.ensures.moves now (ap (λ l. (life_of l).held) c.claims.invariant.1 ∙ held)),
)

pub returns-clause-serves : goal.returns-clause-serves
returns-clause-serves g c =
    serves_then g.S.Stable _ _ _ [] [] [] [] c.claims.invariant.0 (serves_clearing g.S.Stable _ _ refl refl c.clear.ensures)

pub returns-clause-full : goal.returns-clause-full
returns-clause-full g c = λ full. (
  nothing_left _ _ c.claims.counter c.claims.invariant.3
      (omega (arith, ap {B = ℕ} (λ (cs : List Claim). length cs) c.claims-end.ensures)),
  c.clear.ensures,
)

pub returns-then-position-lt-SLOTS-clause-moves : goal.returns-then-position-lt-SLOTS-clause-moves
returns-then-position-lt-SLOTS-clause-moves g c = λ now held.
    moves_same g.S.Stable now (process_of c.args.self.now) (process_of c.args.self.now) refl

pub returns-clause-moves : goal.returns-clause-moves
returns-clause-moves g c = λ now held.
    moves_then g.S.Stable now (process_of c.args.self.now) (process_of c.claims.self)
    (record (process_of c.claims.self) { requests = c.clear.new.self }) [] [] [] [] (c.claims.invariant.4 now held)
    (moves_clearing g.S.Stable now (process_of c.claims.self) c.clear.new.self (ap (λ l. (life_of l).held) c.claims.invariant.1 ∙ held)
    (subst (λ l. IsFull (life_of l).node) (sym c.claims.invariant.1)
    (full_at (life_of c.args.self.now.life).node c.position.result c.position.ensures (omega (arith, c.if-position-lt-SLOTS.false))))
    c.clear.ensures)

pub returns-in_err-turn_away_next-clause-stops : goal.returns-in_err-turn_away_next-clause-stops
returns-in_err-turn_away_next-clause-stops g c = λ now held.
    on_err _ (breaks_moved g.S.Stable now (process_of c.args.self.now) (process_of c.claims.self) _ _ (c.claims.invariant.4 now held)
    (ends_before g.S.Stable IsAsked _ _ _ refl (ap (λ l. (life_of l).node) c.turn_away_next.ensures.life)))
