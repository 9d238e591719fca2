use Rattle.std.specs.Vec.Iter.{into_iter_items, into_iter_len}
use Rattle.cluster.specs.ClusterViews.{cluster_of}
use Rattle.replay.proofs.LineByLine.{DoneSoFar}
use Rattle.replay.specs.ClusterRuns.{DoneThrough}
use Rattle.replay.proofs.cluster_run.do_lines_through.Given as goal

-- the lines that were taken are done, and the others are left
abbrev pub invariant-loop-line : goal.invariant-loop-line
invariant-loop-line g l =
    DoneSoFar (DoneThrough g.T.Transport) (into_iter_items l.initial.line-iterator) l.yielded
    (into_iter_items l.line-iterator) (into_iter_len l.line-iterator) (cluster_of l.fn.cluster) (cluster_of l.cluster)
