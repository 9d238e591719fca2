-- Faults of frames by number and as texts, and those that fields bring.
use Rattle.std.specs.Prelude.{ℕ, List, codes}
use Rattle.fields.specs.declared.fault.FieldFault.{FieldFault}
use Rattle.fields.specs.declared.fault.FieldFault.TheVariants as field
use Rattle.wire.specs.declared.frames.fault.WireFault.{WireFault}
use Rattle.wire.specs.declared.frames.fault.WireFault.TheVariants.{Short, Magic, Version, Kind, Field, Trailing, Long, Memory}

-- the number that is told of a fault
abbrev pub code_of : WireFault → ℕ
code_of Short = 1
code_of Magic = 2
code_of Version = 3
code_of Kind = 4
code_of Field = 5
code_of Trailing = 6
code_of Long = 7
code_of Memory = 8

-- what is printed of a fault
abbrev pub fault_text : WireFault → List ℕ
fault_text Short = codes "the frame ends too early"
fault_text Magic = codes "the first two bytes are no frame's"
fault_text Version = codes "no kind of message has this version"
fault_text Kind = codes "the version has no message of this kind"
fault_text Field = codes "a field holds a value that it can't have"
fault_text Trailing = codes "bytes stand after the message"
fault_text Long = codes "there are more bytes than a frame has at most"
fault_text Memory = codes "out of memory"

-- the fault of a frame that a field's fault is
abbrev pub widened : FieldFault → WireFault
widened field.Short = Short
widened field.Field = Field
widened field.Memory = Memory
