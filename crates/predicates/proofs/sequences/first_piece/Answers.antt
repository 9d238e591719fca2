use Rattle.std.proofs.Common.{◌+◌, ltb, arith, rules}
use Rattle.std.proofs.lemmas.List.Sorted.{IsPartitionPoint-from_clause}
use Rattle.tpoint.specs.declared.point.Point.{Point}
use Rattle.predicates.proofs.SequenceLemmas.{parted_by_time, before_and_after}
use Rattle.predicates.proofs.sequences.first_piece.Goals as goal

pub returns-clause-before : goal.returns-clause-before
returns-clause-before c =
    let parted = parted_by_time c.args.points.now c.args.period.now.begin c.requires.increasing in
    let clause = c.partition_point-earlier.ensures.partitioned in
    let split = IsPartitionPoint-from_clause (λ (p : Point). ltb p.t c.args.period.now.begin) _ _ clause parted (λ a r q k. search rules) in
    λ k h. (before_and_after _ _ _ split).0 (k + 1) (omega arith)

pub returns-clause-after : goal.returns-clause-after
returns-clause-after c =
    let parted = parted_by_time c.args.points.now c.args.period.now.begin c.requires.increasing in
    let clause = c.partition_point-earlier.ensures.partitioned in
    let split = IsPartitionPoint-from_clause (λ (p : Point). ltb p.t c.args.period.now.begin) _ _ clause parted (λ a r q k. search rules) in
    λ k h. (before_and_after _ _ _ split).1 k (omega arith)
