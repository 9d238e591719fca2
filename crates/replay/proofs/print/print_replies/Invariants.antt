use Rattle.std.proofs.Common.{drop, flat_map}
use Rattle.replay.proofs.Parts.{AddsSoFar}
use Rattle.replay.specs.Transcripts.{reply_line}
use Rattle.replay.proofs.print.print_replies.Given as goal

-- the lines before this one are added
abbrev pub invariant-loop-replied : goal.invariant-loop-replied
invariant-loop-replied g l =
    AddsSoFar g.K.Sink.takes l.initial.sink l.initial.part.items (flat_map reply_line l.replies) (flat_map reply_line (drop l.replied-index l.replies)) l.sink l.part.items
