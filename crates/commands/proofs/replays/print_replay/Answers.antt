use Rattle.std.proofs.Common.{inl, inr, refl}
use Rattle.std.proofs.lemmas.Result.{IfErr-weaker, on_ok_weaker}
use Rattle.replay.specs.Runs.{told_of}
use Rattle.world.specs.Seen.{world_of}
use Rattle.commands.proofs.Endings.{replay_ends}
use Rattle.commands.proofs.replays.print_replay.Goals as goal

-- what is printed is the transcript of the world in which the run has ended
pub returns-clause-printed : goal.returns-clause-printed
returns-clause-printed g c =
    on_ok_weaker c.print_world-printed.result (λ takes. (told_of (world_of c.in-Ok.world), c.in-Ok.ensures.ended.0, takes)) c.print_world-printed.ensures.printed

pub returns-clause-ends : goal.returns-clause-ends
returns-clause-ends g c =
    IfErr-weaker c.print_world-printed.result _ _ (λ failure ends. elim ends [
      | inl wanting ↦ inl (wanting.1, λ other. absurd (other wanting.0))
      | inr failed ↦ inr (failed.0, told_of (world_of c.in-Ok.world), c.in-Ok.ensures.ended.0, failed.1)
    ]) c.print_world-printed.ensures.ends

-- the run has not ended well
pub returns-in-Err-clause-ends : goal.returns-in-Err-clause-ends
returns-in-Err-clause-ends g c =
    inl (
      refl,
      replay_ends _ _ c.in-Err.fault c.replay_failure.result c.in-Err.ensures.fault c.replay_failure.ensures.memory c.replay_failure.ensures.line,
    )
