use Rattle.std.proofs.Common.{ℕ, List, [], ◌∷◌, ap, refl, subst, sym, OnOk}
use Rattle.serving.specs.Seen.{process_of, server_of}
use Rattle.serving.specs.Serving.{Serves}
use Rattle.serving.specs.Tapes.{Heard, Went, heard}
use Rattle.serving.specs.declared.desk.Came.{Came}
use Rattle.serving.specs.Moves.{Moves, Taking}
use Rattle.serving.specs.Waitings.{WaitingState}
use Rattle.serving.specs.Owing.{HasRoom}
use Rattle.serving.proofs.Coming.{serves_gone}
use Rattle.serving.proofs.Hearing.{gone_moves, line_moves}
use Rattle.serving.proofs.Packets.{on_ok_so}
use Rattle.serving.proofs.Holding.{holds_forgetting}
use Rattle.serving.proofs.server.Server.hear.Goals as goal

pub returns-in-Line-clause-serves : goal.returns-in-Line-clause-serves
returns-in-Line-clause-serves g c =
    subst (λ (w : Came). Serves g.S.Stable (server_of c.args.self.now) [] (heard w ∷ []) (server_of c.take_line.new.self)) (sym c.in-Line.is)
    (subst (λ (b : List ℕ). Serves g.S.Stable (server_of c.args.self.now) [] (Heard c.in-Line.connection b ∷ []) (server_of c.take_line.new.self)) c.as_slice.ensures.value
    c.take_line.ensures.serves)

pub returns-in-Gone-clause-serves : goal.returns-in-Gone-clause-serves
returns-in-Gone-clause-serves g c =
    subst (λ (w : Came). Serves g.S.Stable (server_of c.args.self.now) [] (heard w ∷ []) (record (server_of c.args.self.now) { waiting = c.forget.new.self })) (sym c.in-Gone.is)
    (serves_gone g.S.Stable (server_of c.args.self.now) (record (server_of c.args.self.now) { waiting = c.forget.new.self }) c.in-Gone.connection refl
    (holds_forgetting (Went c.in-Gone.connection ∷ []) (server_of c.args.self.now) (record (server_of c.args.self.now) { waiting = c.forget.new.self }) c.in-Gone.connection
    c.forget.ensures refl))

pub returns-in-Line-clause-moves : goal.returns-in-Line-clause-moves
returns-in-Line-clause-moves g c =
    λ now room. subst (λ (w : Came). OnOk c.take_line.result
    (Moves g.S.Stable now Taking (process_of c.args.self.now) [] (heard w ∷ []) (process_of c.take_line.new.self))) (sym c.in-Line.is)
    (subst (λ (b : List ℕ). OnOk c.take_line.result
    (Moves g.S.Stable now Taking (process_of c.args.self.now) [] (Heard c.in-Line.connection b ∷ []) (process_of c.take_line.new.self)))
    c.as_slice.ensures.value
    (on_ok_so c.take_line.result
    (line_moves g.S.Stable now (process_of c.args.self.now) (process_of c.take_line.new.self) c.in-Line.connection c.as_slice.result.now
    (subst (λ (b : List ℕ). HasRoom c.args.self.now.waiting (Heard c.in-Line.connection b)) (sym c.as_slice.ensures.value)
    (subst (λ (w : Came). HasRoom c.args.self.now.waiting (heard w)) c.in-Line.is room)))
    c.take_line.ensures.taken))

pub returns-in-Gone-clause-moves : goal.returns-in-Gone-clause-moves
returns-in-Gone-clause-moves g c =
    λ now room. subst (λ (w : Came). Moves g.S.Stable now Taking (process_of c.args.self.now) [] (heard w ∷ [])
    (record (process_of c.args.self.now) { waiting = c.forget.new.self })) (sym c.in-Gone.is)
    (gone_moves g.S.Stable now (process_of c.args.self.now) (record (process_of c.args.self.now) { waiting = c.forget.new.self })
    c.in-Gone.connection
    (ap (λ (w : WaitingState). record (process_of c.args.self.now) { waiting = w }) c.forget.ensures))
