use Rattle.std.proofs.Common.{[], subst, ◌∙◌}
use Rattle.serving.specs.Moves.Moves.{none}
use Rattle.serving.specs.Seen.{process_of, server_of}
use Rattle.life.specs.Seen.{life_of}
use Rattle.serving.proofs.Checkpointing.{IsFloor, checkpointed_already, checkpointed_now, checkpointed_still, checkpoint_keeps_own, not_checkpointed, trim_keeps_own}
use Rattle.serving.proofs.Keeping.{moves_given_twice}
use Rattle.serving.proofs.Leading.{serves_none, serves_then}
use Rattle.serving.specs.Moves.StopsKeepingRecords.{at_checkpoint, at_trim}
use Rattle.std.proofs.lemmas.Result.{err_from_is_err_and}
use Rattle.serving.proofs.server.Server.keep_records.Goals as goal

pub returns-then-not-is_checkpoint_due-clause-serves : goal.returns-then-not-is_checkpoint_due-clause-serves
returns-then-not-is_checkpoint_due-clause-serves g c =
    serves_none g.S.Stable (server_of c.args.self.now)

pub returns-in_err-give-2-clause-serves : goal.returns-in_err-give-2-clause-serves
returns-in_err-give-2-clause-serves g c =
    serves_then g.S.Stable _ _ _ [] [] [] [] c.give.ensures.serves c.give-2.ensures.serves

pub returns-clause-serves : goal.returns-clause-serves
returns-clause-serves g c =
    serves_then g.S.Stable _ _ _ [] [] [] [] c.give.ensures.serves c.give-2.ensures.serves

pub returns-then-not-is_checkpoint_due-clause-checkpoints : goal.returns-then-not-is_checkpoint_due-clause-checkpoints
returns-then-not-is_checkpoint_due-clause-checkpoints g c =
    checkpointed_already g.S.Stable (life_of c.args.self.now.life).node c.is_checkpoint_due.result c.position.result c.floor.result
    c.position.ensures (subst (λ n. IsFloor n c.floor.result) c.node.ensures c.floor.ensures) c.if-not-is_checkpoint_due.true
    c.is_checkpoint_due.ensures

pub returns-clause-checkpoints : goal.returns-clause-checkpoints
returns-clause-checkpoints g c =
    checkpointed_still g.S.Stable (life_of c.give.new.self.life) (life_of c.give-2.new.self.life) c.in_ok-give-2.ensures.gives
    (checkpointed_now g.S.Stable (life_of c.args.self.now.life) (life_of c.give.new.self.life) c.position.result c.floor.result
    c.in_ok-give.ensures.gives c.position.ensures (subst (λ n. IsFloor n c.floor.result) c.node.ensures c.floor.ensures)
    (c.is_checkpoint_due.ensures.0 c.if-not-is_checkpoint_due.false))

pub returns-then-not-is_checkpoint_due-clause-moves : goal.returns-then-not-is_checkpoint_due-clause-moves
returns-then-not-is_checkpoint_due-clause-moves g c = λ now. none (process_of c.args.self.now)

pub returns-clause-moves : goal.returns-clause-moves
returns-clause-moves g c = λ now.
    let is = not_checkpointed (life_of c.args.self.now.life).node c.position.result c.floor.result c.position.ensures
    (subst (λ n. IsFloor n c.floor.result) c.node.ensures c.floor.ensures)
    (c.is_checkpoint_due.ensures.0 c.if-not-is_checkpoint_due.false) in
    moves_given_twice g.S.Stable now (process_of c.args.self.now) (process_of c.give.new.self) (process_of c.give-2.new.self) is
    c.in_ok-give.ensures.gives c.in_ok-give-2.ensures.gives c.give.ensures.others c.give-2.ensures.others

pub returns-clause-own : goal.returns-clause-own
returns-clause-own g c =
    trim_keeps_own g.S.Stable (life_of c.give.new.self.life) (life_of c.give-2.new.self.life) c.in_ok-give-2.ensures.gives
    ∙ checkpoint_keeps_own g.S.Stable (life_of c.args.self.now.life) (life_of c.give.new.self.life) c.in_ok-give.ensures.gives

pub returns-in_err-give-clause-stops : goal.returns-in_err-give-clause-stops
returns-in_err-give-clause-stops g c =
    let due = not_checkpointed (life_of c.args.self.now.life).node c.position.result c.floor.result c.position.ensures
    (subst (λ n. IsFloor n c.floor.result) c.node.ensures c.floor.ensures)
    (c.is_checkpoint_due.ensures.0 c.if-not-is_checkpoint_due.false) in
    let p = err_from_is_err_and c.from_residual.result c.from_residual.ensures.1 in
    rw (p.1, p.2) (at_checkpoint due c.in_err-give.ensures.stops)

pub returns-in_err-give-2-clause-stops : goal.returns-in_err-give-2-clause-stops
returns-in_err-give-2-clause-stops g c =
    let due = not_checkpointed (life_of c.args.self.now.life).node c.position.result c.floor.result c.position.ensures
    (subst (λ n. IsFloor n c.floor.result) c.node.ensures c.floor.ensures)
    (c.is_checkpoint_due.ensures.0 c.if-not-is_checkpoint_due.false) in
    let p = err_from_is_err_and c.from_residual-in_err-give-2.result c.from_residual-in_err-give-2.ensures.1 in
    rw (p.1, p.2) (at_trim (life_of c.give.new.self.life) due c.in_ok-give.ensures.gives c.in_err-give-2.ensures.stops)
