-- LineByLine: lines are done one after another, and where they end that can't be done, whatever they are done to.
use Rattle.std.specs.Prelude.{◌≡◌, List, [], ◌∷◌, ◌++◌}
use Rattle.events.specs.declared.fault.WorldFault.{WorldFault}
use Rattle.schedule.specs.Causes.{memory}
use Rattle.schedule.specs.Schedules.{Plan, last_number}
use Rattle.schedule.specs.declared.action.Action.{Action}
use Rattle.schedule.specs.declared.schedule.ScheduleLine.{ScheduleLine}
use Rattle.schedule.specs.declared.replay_fault.ReplayCause.TheVariants.{World}
use Rattle.schedule.specs.declared.replay_fault.ReplayFault.{ReplayFault}

-- to something of which it is known when what a line asks for is done
module _ {W : Type 0} (IsDone : Action → W → W → Type 0) where
  -- the lines are done, one after another
  abbrev pub AllDone : List ScheduleLine → W → W → Type 0
  AllDone [] old new = new ≡ old
  AllDone (line ∷ lines) old new = (between : W) × IsDone line.action old between × AllDone lines between new

-- and of which it is known why it isn't, and what there is then
module _ {W : Type 0} (IsRefused : Action → W → WorldFault → W → Type 0) where
  -- a line isn't done
  pub record LineStops (line : ScheduleLine) (old : W) (fault : ReplayFault) (new : W) : Type 0 where
    pub number : fault.line ≡ line.number
    pub why : WorldFault
    pub cause : fault.cause ≡ World why
    pub refused : IsRefused line.action old why new

module _ {W : Type 0} (IsDone : Action → W → W → Type 0) (IsRefused : Action → W → WorldFault → W → Type 0) where
  -- the lines before one are done, and it is not
  pub record StopsAtOne (lines : List ScheduleLine) (old : W) (fault : ReplayFault) (new : W) : Type 0 where
    pub before : List ScheduleLine
    pub line : ScheduleLine
    pub after : List ScheduleLine
    pub parts : lines ≡ before ++ line ∷ after
    pub reached : W
    pub led : AllDone IsDone before old reached
    pub stopped : LineStops IsRefused line reached fault new

  -- why there is no transcript, and what there is in the end: a line isn't done, or at the last one memory is wanting for
  -- the text
  pub data EndsWithout (plan : Plan) (start : W) (fault : ReplayFault) (end : W) : Type 0 where
    at_a_line : StopsAtOne plan.lines start fault end → EndsWithout plan start fault end
    at_the_last : AllDone IsDone plan.lines start end → fault.cause ≡ memory → fault.line ≡ last_number plan
        → EndsWithout plan start fault end
