-- What holds of all files.
use Rattle.std.specs.Prelude.{◌≡◌, ℕ, List}
use Rattle.schedule.specs.Schedules.{Plan, IsScheduleOf, IsFirstFault}
use Rattle.schedule.specs.declared.fault.ScheduleFault.{ScheduleFault}

-- no bytes spell two schedules
abbrev pub SchedulesAreOne : Type 0
SchedulesAreOne = (bytes : List ℕ) (a b : Plan)
    → IsScheduleOf bytes a → IsScheduleOf bytes b → a ≡ b

-- no bytes have a faulty line and spell a schedule
abbrev pub FaultyIsNoSchedule : Type 0
FaultyIsNoSchedule = (bytes : List ℕ) (number : ℕ) (fault : ScheduleFault) (plan : Plan)
    → IsFirstFault bytes number fault → ¬ (IsScheduleOf bytes plan)

-- no bytes have two first faults
abbrev pub FirstFaultsAreOne : Type 0
FirstFaultsAreOne = (bytes : List ℕ) (j k : ℕ) (f g : ScheduleFault)
    → IsFirstFault bytes j f → IsFirstFault bytes k g → (j ≡ k) × (f ≡ g)
