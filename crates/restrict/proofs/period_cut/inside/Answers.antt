use Rattle.std.proofs.Common.{◌≡◌, ◌-◌, ◌≤◌, List, leb, ltb, length, take, drop, true, false, sym, subst, rules}
use Rattle.std.proofs.lemmas.List.Sorted.{IsPartitionPoint-from_clause, IsPartitionedBy-leb, IsPartitionedBy-ltb}
use Rattle.std.specs.List.Sorted.{IsPartitionPoint, IsPartitionedBy}
use Rattle.tpoint.specs.Extents.{first_whole, last_whole}
use Rattle.tpoint.specs.declared.point.Point.{Point}
use Rattle.restrict.specs.Inside.{IsInside}
use Rattle.restrict.proofs.InsideLemmas.{rising_points, rising_rest, whole_rest, found_inside}
use Rattle.restrict.proofs.period_cut.inside.Goals as goal

pub returns-clause-points : goal.returns-clause-points
returns-clause-points c =
    let ps = c.args.points.now in
    let p = c.args.period.now in
    let first = c.partition_point-first.result in
    let count = c.partition_point-count.result in
    let same = whole_rest ps first in
    let begin = IsPartitionPoint-from_clause (λ q. ltb q.t (first_whole p)) _ _ c.partition_point-first.ensures.partitioned
    (IsPartitionedBy-ltb (λ q. q.t) ps (first_whole p) (rising_points ps c.requires)) (λ a r f k. search rules) in
    let ordered : IsPartitionedBy (λ q. leb q.t (last_whole p)) (take (length ps - first) (drop first ps)) = subst
    (IsPartitionedBy (λ q. leb q.t (last_whole p))) (sym same)
    (IsPartitionedBy-leb (λ q. q.t) (drop first ps) (last_whole p) (rising_rest ps c.requires first)) in
    let end = IsPartitionPoint-from_clause (λ q. leb q.t (last_whole p)) _ _ c.partition_point-count.ensures.partitioned ordered
    (λ a r f k. search rules) in
    let P : List Point → Type 0 = λ l. count ≤ length l → IsPartitionPoint (λ (q : Point). leb q.t (last_whole p) ≡ true)
    (λ q. leb q.t (last_whole p) ≡ false) l count → IsInside ps p (take count l) in
    subst P (sym same) (λ bound found. found_inside ps p first count c.requires bound begin found) c.partition_point-count.ensures.bound
    end
