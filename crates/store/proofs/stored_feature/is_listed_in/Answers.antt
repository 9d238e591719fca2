use Rattle.std.proofs.Common.{ltb, ltb-true, ltb-false, rules, ◌≡◌, ◌≤◌, ◌↔◌, true, length, sym, arith}
use Rattle.std.proofs.lemmas.List.Sorted.{IsPartitionPoint-from_clause}
use Rattle.tpoint.specs.Extents.{first_whole, last_whole}
use Rattle.tpoint.specs.declared.point.Point.{Point}
use Rattle.tpoint.proofs.PlaceLemmas.{stands_at}
use Rattle.tpoint.proofs.ValueLemmas.{points_rise}
use Rattle.predicates.proofs.SequenceLemmas.{parted_by_time, before_and_after}
use Rattle.store.proofs.ListedLemmas.{listed_shares, first_listed, whole_shares}
use Rattle.store.proofs.stored_feature.is_listed_in.Goals as goal

-- it is the first from the period's begin on
pub returns-in-Some : goal.returns-in-Some
returns-in-Some c =
    let ps = c.points-points.result.now in
    let p = c.args.period.now in
    let n = c.partition_point-earlier.result in
    let first = c.in-Some.first.now in
    let from = c.first_whole-from in
    let rise = points_rise _ _ c.points-points.ensures.valid c.points-points.ensures.value in
    let parted = parted_by_time ps from.result rise in
    let clause = c.partition_point-earlier.ensures.partitioned in
    let split = IsPartitionPoint-from_clause (λ (p : Point). ltb p.t from.result) _ _ clause parted (λ a r q k. search rules) in
    let times = before_and_after _ _ _ split in
    let there = stands_at ps n first (ltb-true _ _ (sym c.in-Some.ensures.lookup.0)) c.in-Some.ensures.lookup.1 in
    let begun : first_whole p ≤ first.t = omega (arith, times.1 n (omega arith) first there, from.ensures.value) in
    let same : (c.le.result ≡ true) ↔ (first.t ≤ last_whole p) = search rules in
    let whole = whole_shares c.args.seq.now ps p c.requires c.points-points.ensures.value in (
      λ told. whole.0 (listed_shares ps p n first from.ensures.has_instant there begun (same.0 told)),
      λ shared.
          same.1 ((first_listed ps p from.result n rise from.ensures.has_instant from.ensures.value times.0 (whole.1 shared)).1 first there),
    )

-- all are before the period's begin
pub returns-in-None : goal.returns-in-None
returns-in-None c =
    let ps = c.points-points.result.now in
    let p = c.args.period.now in
    let n = c.partition_point-earlier.result in
    let from = c.first_whole-from in
    let rise = points_rise _ _ c.points-points.ensures.valid c.points-points.ensures.value in
    let parted = parted_by_time ps from.result rise in
    let clause = c.partition_point-earlier.ensures.partitioned in
    let split = IsPartitionPoint-from_clause (λ (p : Point). ltb p.t from.result) _ _ clause parted (λ a r q k. search rules) in
    let times = before_and_after _ _ _ split in
    let over : length ps ≤ n = ltb-false _ _ (sym c.in-None.ensures.lookup.0) in
    let whole = whole_shares c.args.seq.now ps p c.requires c.points-points.ensures.value in (
      λ told. absurd (search rules),
      λ shared.
          let within = (first_listed ps p from.result n rise from.ensures.has_instant from.ensures.value times.0 (whole.1 shared)).0 in
          absurd (omega (arith, within, over)),
    )
