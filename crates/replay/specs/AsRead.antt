-- Lines that are done as they are read.
use Rattle.std.specs.Prelude.{ℕ, List}
use Rattle.schedule.specs.Lines.{NumberedText}
use Rattle.schedule.specs.Reading.{IsLaterRefusal}
use Rattle.schedule.specs.Schedules.{SpellEach}
use Rattle.schedule.specs.declared.replay_fault.ReplayFault.{ReplayFault}
use Rattle.schedule.specs.declared.schedule.ScheduleLine.{ScheduleLine}
use Rattle.stable.specs.Script.{Script}
use Rattle.stable.specs.declared.stable.Stable.{Ghosts}
use Rattle.world_model.specs.Worlds.{WorldState}
use Rattle.replay.specs.Runs.{EndsAt, Leads}

-- over storages of which it is known what their calls may do
module _ {S : Type 0} (storages : Ghosts (Script S)) where
  -- the texts spell lines, and these are done
  pub record AreDoneAsRead (nodes : ℕ) (texts : List NumberedText) (old new : WorldState S) : Type 0 where
    pub lines : List ScheduleLine
    pub spelled : SpellEach nodes texts lines
    pub led : Leads storages lines old new

  -- one of the texts is no line, wherever the run has come to then; or all are, and the run ends at one that isn't done
  pub data EndsAsRead (nodes : ℕ) (texts : List NumberedText) (old : WorldState S) (fault : ReplayFault) (new : WorldState S) : Type 0 where
    unread : IsLaterRefusal nodes texts fault → EndsAsRead nodes texts old fault new
    undone : (lines : List ScheduleLine) → SpellEach nodes texts lines → EndsAt storages lines old fault new
        → EndsAsRead nodes texts old fault new
