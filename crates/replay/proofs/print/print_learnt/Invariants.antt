use Rattle.std.proofs.Common.{drop, flat_map}
use Rattle.replay.proofs.Parts.{AddsSoFar}
use Rattle.replay.specs.Transcripts.{learn_line}
use Rattle.replay.proofs.print.print_learnt.Given as goal

-- the lines before this one are added
abbrev pub invariant-loop-learnt : goal.invariant-loop-learnt
invariant-loop-learnt g l =
    AddsSoFar g.K.Sink.takes l.initial.sink l.initial.part.items (flat_map learn_line l.entries) (flat_map learn_line (drop l.learnt-index l.entries)) l.sink l.part.items
