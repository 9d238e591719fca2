-- How the program ends where nothing is done.
use Rattle.std.specs.Prelude.{◌≡◌, ◌⊎◌, ℕ, List, Err}
use Rattle.hex.specs.declared.error.FromHexError.{FromHexError}
use Rattle.hex.specs.declared.error.FromHexError.TheVariants as digits
use Rattle.mfjson.specs.Faults as documents
use Rattle.mfjson.specs.Faults.{IsFaultOf}
use Rattle.mfjson.specs.declared.fault.MfFault.{MfFault}
use Rattle.mfjson.specs.declared.fault.MfFault.TheVariants as document
use Rattle.proposer.specs.declared.fault.SubmitFault.{SubmitFault}
use Rattle.proposer.specs.declared.fault.SubmitFault.TheVariants as submit
use Rattle.wire.specs.Faults.{code_of}
use Rattle.sessions.specs.declared.command.Command.{Command}
use Rattle.synod.specs.declared.ballot.Ballot.{Ballot}
use Rattle.wire.specs.FrameReading.{frame_in}
use Rattle.wire.specs.RecordForms.{IsVoteRecord}
use Rattle.wire.specs.declared.frames.fault.WireFault.{WireFault}
use Rattle.wire.specs.declared.frames.fault.WireFault.TheVariants as wire
use Rattle.conformance.specs.declared.fault.Fault.{Fault}
use Rattle.conformance.specs.declared.fault.Fault.TheVariants.{Usage, Memory, Device, Frame, Vote, Document, Example, StrayFile}

-- the exit status
abbrev pub status_of : Fault → ℕ
status_of Usage = 2
status_of Memory = 3
status_of Device = 3
status_of (Frame code) = 1
status_of Vote = 1
status_of (Document code fault) = 1
status_of Example = 1
status_of StrayFile = 1

-- more requests than may wait are too many
abbrev pub of_submit : SubmitFault → Fault
of_submit submit.QueueFull = Usage
of_submit submit.Memory = Memory

-- what is no hexadecimal digits asks for nothing
abbrev pub of_digits : FromHexError → Fault
of_digits digits.OutOfMemory = Memory
of_digits fault = Usage

-- why bytes are no frame
abbrev pub of_wire : WireFault → Fault
of_wire wire.Memory = Memory
of_wire fault = Frame (code_of fault)

-- why a text is no document
abbrev pub of_document : MfFault → Fault
of_document document.Memory = Memory
of_document fault = Document (documents.code_of fault) fault

-- bytes are refused among so many nodes for want of memory, or for the fault that they have
abbrev pub IsRefusalOf : ℕ → List ℕ → Fault → Type 0
IsRefusalOf nodes bytes Memory = Unit {0}
IsRefusalOf nodes bytes fault = (why : WireFault) × (frame_in nodes bytes ≡ Err why) × (fault ≡ of_wire why)

-- bytes are the record of no vote, or memory is wanting
abbrev pub IsNoVote : List ℕ → Fault → Type 0
IsNoVote bytes Vote = (b : Ballot) (c : Command) → ¬ IsVoteRecord bytes b c
IsNoVote bytes fault = fault ≡ Memory

-- bytes are no document, for the fault that they have, or memory is wanting
abbrev pub DocumentIsRefused : List ℕ → Fault → Type 0
DocumentIsRefused bytes Memory = Unit {0}
DocumentIsRefused bytes fault = (why : MfFault) × IsFaultOf bytes why × (fault ≡ of_document why)

-- a work is not done: memory is wanting, or it can't be done on so many things
abbrev pub IsUntimed : Fault → Type 0
IsUntimed fault = (fault ≡ Memory) ⊎ (fault ≡ Usage)
