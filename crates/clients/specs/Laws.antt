-- What holds of all lines of clients.
use Rattle.std.specs.Prelude.{◌≡◌, ℕ, List}
use Rattle.schedule.specs.declared.fault.ScheduleFault.{ScheduleFault}
use Rattle.schedule.specs.declared.replay_fault.ReplayCause.TheVariants.{Schedule}
use Rattle.clients.specs.ClientLines.{IsClientFault, IsClientLine}
use Rattle.clients.specs.declared.line.ClientLine.{ClientLine}

-- no line asks for two things
abbrev pub LinesAskForOne : Type 0
LinesAskForOne = (text : List ℕ) (a b : ClientLine) → IsClientLine text a → IsClientLine text b → a ≡ b

-- no line has a fault and asks for something
abbrev pub FaultyAskForNothing : Type 0
FaultyAskForNothing = (text : List ℕ) (fault : ScheduleFault) (asked : ClientLine)
    → IsClientFault text (Schedule fault) → ¬ (IsClientLine text asked)
