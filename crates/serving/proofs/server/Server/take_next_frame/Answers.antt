use Rattle.std.proofs.Common.{ℕ, List, [], ◌∷◌, Ok, ap, sym, ◌∙◌}
use Rattle.serving.specs.Tapes.{Arrived, NothingCame, came_in}
use Rattle.serving.specs.Seen.{process_of, server_of}
use Rattle.serving.specs.Outgoing.{IsArrival}
use Rattle.serving.proofs.Arriving.{nodes_reads, nodes_reads_nothing}
use Rattle.serving.proofs.Passing.{nodes_poll_failed, nodes_polled, nodes_polled_nothing, nodes_quiet, nodes_then, only_one_as}
use Rattle.serving.proofs.Stopping.{nodes_stop_at, nodes_stop_own}
use Rattle.serving.specs.Tapes.{PollFailed}
use Rattle.std.proofs.Common.{refl}
use Rattle.serving.proofs.Ending.{ends_before}
use Rattle.serving.specs.Ending.{IsOfOthers}
use Rattle.std.proofs.lemmas.Result.{err_from_is_err_and}
use Rattle.serving.proofs.server.Server.take_next_frame.Goals as goal

pub returns-in_err-came-clause-serves : goal.returns-in_err-came-clause-serves
returns-in_err-came-clause-serves g c =
    nodes_poll_failed g.S.Stable g.N.Network.tape g.N.Network.Tells (server_of c.args.self.now) _ _ (came_in c.poll.result) (ap came_in c.in_err-came.was) c.poll.ensures.tape c.poll.ensures.told

pub returns-in_default-clause-serves : goal.returns-in_default-clause-serves
returns-in_default-clause-serves g c =
    nodes_polled_nothing g.S.Stable g.N.Network.tape g.N.Network.Tells (server_of c.args.self.now) _ _ (came_in c.poll.result) (ap came_in (c.in_ok-came.was ∙ ap Ok c.in_default.is)) c.poll.ensures.tape c.poll.ensures.told

pub returns-in_err-take_frame-clause-serves : goal.returns-in_err-take_frame-clause-serves
returns-in_err-take_frame-clause-serves g c =
    nodes_polled g.S.Stable g.N.Network.tape g.N.Network.Tells (server_of c.args.self.now) (server_of c.take_frame.new.self) c.args.network.now c.poll.new.self (came_in c.poll.result)
    c.as_slice.result.now (ap came_in (c.in_ok-came.was ∙ ap Ok c.in-Some.is) ∙ ap (λ (b : List ℕ). Arrived b ∷ []) (sym c.as_slice.ensures.value))
    c.poll.ensures.tape c.poll.ensures.told c.take_frame.ensures.serves

pub returns-in_err-take_own-clause-serves : goal.returns-in_err-take_own-clause-serves
returns-in_err-take_own-clause-serves g c =
    nodes_then g.S.Stable g.N.Network.tape g.N.Network.Tells _ _ _ _ _ _ (nodes_polled g.S.Stable g.N.Network.tape g.N.Network.Tells (server_of c.args.self.now) (server_of c.take_frame.new.self) c.args.network.now c.poll.new.self (came_in c.poll.result)
    c.as_slice.result.now (ap came_in (c.in_ok-came.was ∙ ap Ok c.in-Some.is) ∙ ap (λ (b : List ℕ). Arrived b ∷ []) (sym c.as_slice.ensures.value))
    c.poll.ensures.tape c.poll.ensures.told c.take_frame.ensures.serves)
    (nodes_quiet g.S.Stable g.N.Network.tape g.N.Network.Tells _ _ _ c.take_own.ensures.serves)

pub returns-clause-serves : goal.returns-clause-serves
returns-clause-serves g c =
    nodes_then g.S.Stable g.N.Network.tape g.N.Network.Tells _ _ _ _ _ _ (nodes_polled g.S.Stable g.N.Network.tape g.N.Network.Tells (server_of c.args.self.now) (server_of c.take_frame.new.self) c.args.network.now c.poll.new.self (came_in c.poll.result)
    c.as_slice.result.now (ap came_in (c.in_ok-came.was ∙ ap Ok c.in-Some.is) ∙ ap (λ (b : List ℕ). Arrived b ∷ []) (sym c.as_slice.ensures.value))
    c.poll.ensures.tape c.poll.ensures.told c.take_frame.ensures.serves)
    (nodes_quiet g.S.Stable g.N.Network.tape g.N.Network.Tells _ _ _ c.take_own.ensures.serves)

pub returns-in_default-clause-comes : goal.returns-in_default-clause-comes
returns-in_default-clause-comes g c =
    only_one_as g.N.Network.tape g.N.Network.Tells IsArrival c.args.network.now c.poll.new.self (came_in c.poll.result) NothingCame
    (ap came_in (c.in_ok-came.was ∙ ap Ok c.in_default.is)) c.poll.ensures.tape c.poll.ensures.told tt

pub returns-clause-comes : goal.returns-clause-comes
returns-clause-comes g c =
    only_one_as g.N.Network.tape g.N.Network.Tells IsArrival c.args.network.now c.poll.new.self (came_in c.poll.result) (Arrived c.as_slice.result.now)
    (ap came_in (c.in_ok-came.was ∙ ap Ok c.in-Some.is) ∙ ap (λ (b : List ℕ). Arrived b ∷ []) (sym c.as_slice.ensures.value))
    c.poll.ensures.tape c.poll.ensures.told tt

pub returns-in_default-clause-takes : goal.returns-in_default-clause-takes
returns-in_default-clause-takes g c =
    nodes_reads_nothing g.S.Stable c.args.now g.N.Network.tape g.N.Network.Tells (process_of c.args.self.now) c.args.network.now
    c.poll.new.self (came_in c.poll.result) (ap came_in (c.in_ok-came.was ∙ ap Ok c.in_default.is)) c.poll.ensures.tape
    c.poll.ensures.told

pub returns-clause-takes : goal.returns-clause-takes
returns-clause-takes g c =
    nodes_reads g.S.Stable c.args.now g.N.Network.tape g.N.Network.Tells (process_of c.args.self.now)
    (process_of c.take_frame.new.self) (process_of c.take_own.new.self) c.args.network.now c.poll.new.self (came_in c.poll.result)
    c.as_slice.result.now
    (ap came_in (c.in_ok-came.was ∙ ap Ok c.in-Some.is) ∙ ap (λ (b : List ℕ). Arrived b ∷ []) (sym c.as_slice.ensures.value))
    c.poll.ensures.tape c.poll.ensures.told c.in_ok-take_frame.ensures.moves (c.in_ok-take_own.ensures.moves c.args.now)

pub returns-in_err-came-clause-stops : goal.returns-in_err-came-clause-stops
returns-in_err-came-clause-stops g c =
    let p = err_from_is_err_and c.from_residual.result c.from_residual.ensures.1 in
    rw p.1 (nodes_stop_at g.S.Stable c.args.now g.N.Network.tape g.N.Network.Tells (process_of c.args.self.now) c.args.network.now
    c.poll.new.self p.0 _ (came_in c.poll.result) PollFailed (ap came_in c.in_err-came.was) tt c.poll.ensures.tape c.poll.ensures.told
    (ends_before g.S.Stable IsOfOthers _ _ p.0 p.2 refl))

pub returns-in_err-take_frame-clause-stops : goal.returns-in_err-take_frame-clause-stops
returns-in_err-take_frame-clause-stops g c =
    let p = err_from_is_err_and c.from_residual-in_err-take_frame.result c.from_residual-in_err-take_frame.ensures.1 in
    rw (p.1, p.2) (nodes_stop_at g.S.Stable c.args.now g.N.Network.tape g.N.Network.Tells (process_of c.args.self.now) c.args.network.now
    c.poll.new.self _ _ (came_in c.poll.result) (Arrived c.as_slice.result.now)
    (ap came_in (c.in_ok-came.was ∙ ap Ok c.in-Some.is) ∙ ap (λ (b : List ℕ). Arrived b ∷ []) (sym c.as_slice.ensures.value))
    tt c.poll.ensures.tape c.poll.ensures.told c.in_err-take_frame.ensures.stops)

pub returns-in_err-take_own-clause-stops : goal.returns-in_err-take_own-clause-stops
returns-in_err-take_own-clause-stops g c =
    let p = err_from_is_err_and c.from_residual-in_err-take_own.result c.from_residual-in_err-take_own.ensures.1 in
    rw (p.1, p.2) (nodes_stop_own g.S.Stable c.args.now g.N.Network.tape g.N.Network.Tells (process_of c.args.self.now)
    (process_of c.take_frame.new.self) c.args.network.now c.poll.new.self _ _ (came_in c.poll.result) c.as_slice.result.now
    (ap came_in (c.in_ok-came.was ∙ ap Ok c.in-Some.is) ∙ ap (λ (b : List ℕ). Arrived b ∷ []) (sym c.as_slice.ensures.value))
    c.poll.ensures.tape c.poll.ensures.told c.in_ok-take_frame.ensures.moves (c.in_err-take_own.ensures.stops c.args.now))
