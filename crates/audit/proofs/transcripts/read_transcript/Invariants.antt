use Rattle.std.proofs.Common.{length}
use Rattle.audit.proofs.FileLemmas.{ArePassed}
use Rattle.audit.proofs.transcripts.read_transcript.Given as goal

-- the lines so far were read
abbrev pub invariant-loop-line : goal.invariant-loop-line
invariant-loop-line l = ArePassed l.nodes l.file l.initial.lines l.lines l.initial.read l.read

abbrev pub decreases-loop-line : goal.decreases-loop-line
decreases-loop-line l = length l.lines
