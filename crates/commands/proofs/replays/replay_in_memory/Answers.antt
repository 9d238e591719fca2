use Rattle.std.proofs.Common.{List, ℕ, subst, sym}
use Rattle.std.proofs.lemmas.Result.{IfErr-weaker, IfOk-weaker}
use Rattle.stable.specs.Memory.{in_memory}
use Rattle.stable.specs.Storages.{scripted}
use Rattle.replay.specs.Runs.{IsReplay}
use Rattle.commands.proofs.Endings.{replay_ends}
use Rattle.commands.proofs.replays.replay_in_memory.Goals as goal

-- the text is that of the world in which the run has ended
pub returns-in-Ok-clause-replay : goal.returns-in-Ok-clause-replay
returns-in-Ok-clause-replay c =
    IfOk-weaker c.tell_world.result _ _ (λ text told.
    subst (λ (t : List ℕ). IsReplay (scripted in_memory) c.args.bytes.now t) (sym told) c.in-Ok.ensures.ended.0) c.tell_world.ensures.told

pub returns-in-Ok-clause-ends : goal.returns-in-Ok-clause-ends
returns-in-Ok-clause-ends c =
    IfErr-weaker c.tell_world.result _ _ (λ failure memory other. absurd (other memory)) c.tell_world.ensures.memory

pub returns-in-Err-clause-ends : goal.returns-in-Err-clause-ends
returns-in-Err-clause-ends c =
    replay_ends _ _ c.in-Err.fault c.replay_failure.result c.in-Err.ensures.fault c.replay_failure.ensures.memory
    c.replay_failure.ensures.line
