-- Why a line of a schedule is not done, and what is printed of it.
use Rattle.std.specs.Prelude.{ℕ, List}
use Rattle.events.specs.Faults.{fault_text as world_text, world_code}
use Rattle.events.specs.declared.fault.WorldFault.{WorldFault}
use Rattle.events.specs.declared.fault.WorldFault.TheVariants as world_fault
use Rattle.schedule.specs.Codes.{at_line, code_of, fault_text}
use Rattle.schedule.specs.declared.fault.ScheduleFault.{ScheduleFault}
use Rattle.schedule.specs.declared.replay_fault.ReplayCause.{ReplayCause}
use Rattle.schedule.specs.declared.replay_fault.ReplayCause.TheVariants.{Schedule, World}
use Rattle.schedule.specs.declared.replay_fault.ReplayFault.{ReplayFault}

-- out of memory
abbrev pub memory : ReplayCause
memory = World world_fault.Memory

-- the number of a cause
abbrev pub cause_code : ReplayCause → ℕ
cause_code (Schedule fault) = code_of fault
cause_code (World fault) = world_code fault

-- ---- what is printed
abbrev pub cause_text : ReplayCause → List ℕ
cause_text (Schedule fault) = fault_text fault
cause_text (World fault) = world_text fault

abbrev pub replay_text : ReplayFault → List ℕ
replay_text fault = at_line fault.line (cause_text fault.cause)

-- ---- why a text was not read: it has this fault, or memory ran out, of which this is known then
abbrev pub WhyUnread : (ScheduleFault → Type 0) → Type 0 → ReplayCause → Type 0
WhyUnread Has OnMemory (Schedule fault) = Has fault
WhyUnread Has OnMemory (World world_fault.Memory) = OnMemory
WhyUnread Has OnMemory (World other) = ⊥
