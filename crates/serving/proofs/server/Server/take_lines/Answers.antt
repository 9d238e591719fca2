use Rattle.std.proofs.Common.{◌≡◌, List, [], arith, length}
use Rattle.serving.specs.Moves.{Moves, Taking}
use Rattle.serving.specs.Moves.Moves.{none}
use Rattle.serving.specs.Seen.{process_of, server_of}
use Rattle.serving.specs.Tapes.{Talk, read}
use Rattle.serving.proofs.Moving.{moves_then}
use Rattle.serving.proofs.Passing.{clients_none, clients_then}
use Rattle.serving.proofs.Taking.{came_then, none_came, read_the_most, read_to_the_last}
use Rattle.serving.specs.Resting.{AllCame}
use Rattle.serving.proofs.Breaking.{breaks_then, lines_kept, on_err}
use Rattle.serving.proofs.Stopping.{clients_stop_then}
use Rattle.std.proofs.lemmas.Result.{err_from_is_err_and}
use Rattle.serving.proofs.server.Server.take_lines.Goals as goal

pub lines-init : goal.lines-init
lines-init g c = (
  clients_none g.S.Stable g.D.Desk.tape g.D.Desk.Tells (server_of c.args.self.now) c.args.desk.now,
  omega arith,
  λ now. none_came g.D.Desk.tape g.D.Desk.Tells read
      (λ (xs : List Talk). Moves g.S.Stable now Taking (process_of c.args.self.now) [] xs (process_of c.args.self.now))
      c.args.desk.now (none (process_of c.args.self.now)),
)

pub returns-in_err-take_next_line-clause-serves : goal.returns-in_err-take_next_line-clause-serves
returns-in_err-take_next_line-clause-serves g c =
    clients_then g.S.Stable g.D.Desk.tape g.D.Desk.Tells _ _ _ _ _ _ c.lines.invariant.0 c.take_next_line.ensures.serves

pub returns-then-not-branch-clause-serves : goal.returns-then-not-branch-clause-serves
returns-then-not-branch-clause-serves g c =
    clients_then g.S.Stable g.D.Desk.tape g.D.Desk.Tells _ _ _ _ _ _ c.lines.invariant.0 c.take_next_line.ensures.serves

pub lines-preserved : goal.lines-preserved
lines-preserved g c =
    let p = process_of c.args.self.now in
    let q = process_of c.lines.self in
    let r = process_of c.take_next_line.new.self in (
      clients_then g.S.Stable g.D.Desk.tape g.D.Desk.Tells _ _ _ _ _ _ c.lines.invariant.0 c.take_next_line.ensures.serves,
      omega (arith, c.lines-test.true),
      λ now. came_then g.D.Desk.tape g.D.Desk.Tells read (λ (xs : List Talk). Moves g.S.Stable now Taking p [] xs q)
          (λ (xs : List Talk). Moves g.S.Stable now Taking q [] xs r) (λ (xs : List Talk). Moves g.S.Stable now Taking p [] xs r)
          (λ xs ys h k. moves_then g.S.Stable now p q r [] [] xs ys h k) c.lines.counter c.args.desk.now c.lines.desk
          c.take_next_line.new.desk c.in_ok-take_next_line.field-0 c.if-not-branch.false (c.lines.invariant.2 now)
          (c.in_ok-take_next_line.ensures.takes now),
    )

pub returns-then-not-branch-clause-takes : goal.returns-then-not-branch-clause-takes
returns-then-not-branch-clause-takes g c = λ now.
    let p = process_of c.args.self.now in
    let q = process_of c.lines.self in
    let r = process_of c.take_next_line.new.self in
    read_to_the_last g.D.Desk.tape g.D.Desk.Tells read (λ (xs : List Talk). Moves g.S.Stable now Taking p [] xs q)
    (λ (xs : List Talk). Moves g.S.Stable now Taking q [] xs r) (λ (xs : List Talk). Moves g.S.Stable now Taking p [] xs r)
    (λ xs ys h k. moves_then g.S.Stable now p q r [] [] xs ys h k) c.lines.counter c.args.desk.now c.lines.desk
    c.take_next_line.new.desk c.in_ok-take_next_line.field-0 c.if-not-branch.true (omega (arith, c.lines-test.true))
    (c.lines.invariant.2 now) (c.in_ok-take_next_line.ensures.takes now)

pub returns-clause-takes : goal.returns-clause-takes
returns-clause-takes g c = λ now.
    read_the_most g.D.Desk.tape g.D.Desk.Tells read
    (λ (xs : List Talk). Moves g.S.Stable now Taking (process_of c.args.self.now) [] xs (process_of c.lines.self))
    c.lines.counter c.args.desk.now c.lines.desk c.lines.invariant.1 (omega (arith, c.lines-test.false)) (c.lines.invariant.2 now)

pub returns-in_err-take_next_line-clause-breaks : goal.returns-in_err-take_next_line-clause-breaks
returns-in_err-take_next_line-clause-breaks g c =
    on_err _ (
    let p = process_of c.args.self.now in
    let q = process_of c.lines.self in
    breaks_then g.D.Desk.tape g.D.Desk.Tells p.waiting q.waiting c.args.desk.now c.lines.desk c.take_next_line.new.desk
    (lines_kept g.D.Desk.tape g.D.Desk.Tells g.S.Stable 0 (λ (xs : List Talk). AllCame read xs × (length xs ≡ c.lines.counter)) p q c.args.desk.now c.lines.desk
    (record {
      passed = (c.lines.invariant.2 0).passed;
      are = ((c.lines.invariant.2 0).are.0, ((c.lines.invariant.2 0).are.1, (c.lines.invariant.2 0).are.2));
      passes = (c.lines.invariant.2 0).passes;
    }))
    c.in_err-take_next_line.ensures.breaks)

pub returns-in_err-take_next_line-clause-stops : goal.returns-in_err-take_next_line-clause-stops
returns-in_err-take_next_line-clause-stops g c = λ now.
    let p = err_from_is_err_and c.from_residual.result c.from_residual.ensures.1 in
    rw (p.1, p.2) (clients_stop_then g.S.Stable now g.D.Desk.tape g.D.Desk.Tells (λ (xs : List Talk). AllCame read xs × (length xs ≡ c.lines.counter))
    (process_of c.args.self.now) (process_of c.lines.self) c.args.desk.now c.lines.desk c.take_next_line.new.desk _ _
    (record {
      passed = (c.lines.invariant.2 now).passed;
      are = ((c.lines.invariant.2 now).are.0, ((c.lines.invariant.2 now).are.1, (c.lines.invariant.2 now).are.2));
      passes = (c.lines.invariant.2 now).passes;
    }) (c.in_err-take_next_line.ensures.stops now))
