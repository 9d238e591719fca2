use Rattle.std.proofs.Common.{◌<◌, ◌≤◌, List, length, subst}
use Rattle.std.specs.List.{AllWithin}
use Rattle.tpoint.specs.Listing.{instants_of}
use Rattle.tpoint.specs.declared.point.Point.{Point}
use Rattle.tpoint.proofs.Searching.{instants_listed, points_passed, points_to_come}
use Rattle.tpoint.proofs.values.passed_at.Goals as goal

pub new-probed-requires : goal.new-probed-requires
new-probed-requires c = instants_listed c.args.points.now c.requires.increasing c.requires.not_too_many

pub returns-clause-passed : goal.returns-clause-passed
returns-clause-passed c =
    let same = c.new-probed.ensures.points in
    let P : List Point → Type 0 = λ ps. AllWithin (λ s. s ≤ c.args.t) (instants_of ps) 0 c.search-count.result in
    points_passed c.args.points.now c.args.t c.search-count.result (subst P same c.search-count.ensures.passed)

pub returns-clause-to_come : goal.returns-clause-to_come
returns-clause-to_come c =
    let same = c.new-probed.ensures.points in
    let P : List Point → Type 0 = λ ps. AllWithin (λ s. c.args.t < s) (instants_of ps) c.search-count.result (length (instants_of ps)) in
    points_to_come c.args.points.now c.args.t c.search-count.result (subst P same c.search-count.ensures.to_come)
