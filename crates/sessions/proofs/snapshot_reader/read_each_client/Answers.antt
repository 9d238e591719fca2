use Rattle.std.proofs.Common.{arith, ◌≡◌, ◌<◌, ◌-◌, [], length}
use Rattle.std.proofs.lemmas.Result.{err_from_is_err_and}
use Rattle.sessions.specs.Snapshots.{held}
use Rattle.sessions.specs.Restoring.{clients_at}
use Rattle.sessions.specs.Tables.{IsFreeFrom}
use Rattle.sessions.proofs.TableLemmas.{none_held, held_with, free_after}
use Rattle.sessions.proofs.ReadLoops.{no_front, clients_go_on, clients_end, clients_done}
use Rattle.sessions.proofs.snapshot_reader.read_each_client.Goals as goal

-- nothing is kept of any client yet
pub loop-init : goal.loop-init
loop-init c =
    let table = c.new-sessions.result in
    let none : held table ≡ [] = none_held 0 table (λ i le. c.new-sessions.ensures.none i) in
    let whole : c.args.count - 0 ≡ c.args.count = omega arith in (
      rw (none, whole) (no_front (clients_at c.args.count 0 c.args.input.now)),
      ((λ i le. c.new-sessions.ensures.none i), (c.new-sessions.ensures.clients, omega arith)),
    )

-- one client more
pub loop-preserved : goal.loop-preserved
loop-preserved c =
    let h = c.in_ok-held.held in
    let went = clients_go_on (held c.loop.sessions) c.args.count c.loop.counter c.loop.from c.loop.input h c.read_client.new.input
    (clients_at c.args.count 0 c.args.input.now) c.loop-test.true c.in_ok-held.ensures.read c.loop.invariant.0 in
    let known : h.client < length c.loop.sessions = c.keep.ensures.in_table in
    let free : IsFreeFrom h.client c.loop.sessions = λ i le. c.loop.invariant.1.0 i (let late = c.in_ok-held.ensures.late in omega (arith, le, late)) in
    let table = c.keep.ensures.table in
    let from = c.from-from.ensures in
    let places = c.keep.ensures.clients in
    let all = c.loop.invariant.1.1.0 in (
      rw (table, held_with c.loop.sessions h.client h.session known free, from) went,
      (
        rw (table, from) (free_after c.loop.sessions h.client h.session known free),
        (omega (arith, places, all), omega (arith, from, known, all)),
      ),
    )

-- a client could not be read
pub returns-in_err-held-clause-read : goal.returns-in_err-held-clause-read
returns-in_err-held-clause-read c =
    let p = err_from_is_err_and c.from_residual.result c.from_residual.ensures.1 in
    rw (p.1, p.2) (clients_end c.in_err-held.field-0.0 (held c.loop.sessions) c.args.count c.loop.counter c.loop.from c.loop.input
    (clients_at c.args.count 0 c.args.input.now) c.loop-test.true c.in_err-held.ensures.read c.loop.invariant.0)

-- all of them
pub returns-clause-read : goal.returns-clause-read
returns-clause-read c = clients_done (held c.loop.sessions) c.args.count c.loop.counter c.loop.from c.loop.input
    (clients_at c.args.count 0 c.args.input.now) c.loop-test.false c.loop.invariant.0
