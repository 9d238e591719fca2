use Rattle.std.proofs.Common.{drop, flat_map}
use Rattle.replay.proofs.Parts.{AddsSoFar}
use Rattle.replay.specs.Transcripts.{answer_line}
use Rattle.replay.proofs.print.print_answers.Given as goal

-- the lines before this one are added
abbrev pub invariant-loop-answered : goal.invariant-loop-answered
invariant-loop-answered g l =
    AddsSoFar g.K.Sink.takes l.initial.sink l.initial.part.items (flat_map answer_line l.answers) (flat_map answer_line (drop l.answered-index l.answers)) l.sink l.part.items
