use Rattle.std.proofs.Common.{drop}
use Rattle.replay.proofs.Parts.{AddsSoFar}
use Rattle.replay.specs.Transcripts.{transcript_of}
use Rattle.replay.proofs.report.print_run.Given as goal

-- the lines of the outcomes before this one are added
abbrev pub invariant-loop-outcome : goal.invariant-loop-outcome
invariant-loop-outcome g l =
    AddsSoFar g.K.Sink.takes l.initial.sink l.initial.part.items (transcript_of l.outcomes l.initial.unprinted)
    (transcript_of (drop l.outcome-index l.outcomes) l.unprinted) l.sink l.part.items
