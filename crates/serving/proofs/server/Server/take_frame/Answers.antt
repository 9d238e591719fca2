use Rattle.std.proofs.Common.{ℕ, List, [], ◌∷◌, None, Some, subst, sym}
use Rattle.std.proofs.lemmas.Bool.Decides.{Decides-eqb}
use Rattle.std.proofs.lemmas.Slice.Eq.{strip_prefix_is}
use Rattle.serving.specs.Seen.{process_of, server_of}
use Rattle.serving.specs.Serving.{Serves}
use Rattle.serving.specs.Tapes.{Arrived}
use Rattle.serving.proofs.Arriving.{message_moves, request_moves}
use Rattle.serving.proofs.Packets.{on_ok_so}
use Rattle.serving.proofs.server.Server.take_frame.Goals as goal

pub returns-in-Some-clause-serves : goal.returns-in-Some-clause-serves
returns-in-Some-clause-serves g c =
    subst (λ (b : List ℕ). Serves g.S.Stable (server_of c.args.self.now) (Arrived b ∷ []) [] (server_of c.take_handed_on.new.self)) (sym (strip_prefix_is Decides-eqb c.args.bytes.now (70 ∷ []) (Some c.in-Some.line) c.in-Some.ensures.cases))
    c.take_handed_on.ensures.serves

pub returns-in-Some-clause-moves : goal.returns-in-Some-clause-moves
returns-in-Some-clause-moves g c =
    on_ok_so c.take_handed_on.result
    (request_moves g.S.Stable c.args.now (process_of c.args.self.now) (process_of c.take_handed_on.new.self) c.args.bytes.now
    c.in-Some.line.now
    (strip_prefix_is Decides-eqb c.args.bytes.now (70 ∷ []) (Some c.in-Some.line) c.in-Some.ensures.cases)
    c.take_handed_on.ensures.others)
    c.take_handed_on.ensures.taken

pub returns-clause-moves : goal.returns-clause-moves
returns-clause-moves g c =
    on_ok_so c.take_message.result
    (message_moves g.S.Stable c.args.now (process_of c.args.self.now) (process_of c.take_message.new.self) c.args.bytes.now
    (strip_prefix_is Decides-eqb c.args.bytes.now (70 ∷ []) None c.in_default.ensures.cases)
    c.take_message.ensures.others)
    c.take_message.ensures.taken
