use Rattle.std.proofs.Common.{rules, SFits}
use Rattle.std.proofs.lemmas.Int.{to_z-of_z}
use mir.Syntax.{w64}
use Rattle.store.proofs.BoundsLemmas.{BoundsFit}
use Rattle.store.proofs.bounds.Bounds.with.Goals as goal

pub returns-clause-had : goal.returns-clause-had
returns-clause-had c =
    let s : BoundsFit c.args.self = search rules in
    let x0 : SFits w64 c.lesser.result = search rules in
    let y0 : SFits w64 c.lesser-2.result = search rules in
    let x1 : SFits w64 c.greater.result = search rules in
    let y1 : SFits w64 c.greater-2.result = search rules in
    simp (to_z-of_z, x0, y0, x1, y1)
    (record {
      from_x = simp (to_z-of_z, s.x0) at c.lesser.ensures.first;
      to_x = simp (to_z-of_z, s.x1) at c.greater.ensures.first;
      from_y = simp (to_z-of_z, s.y0) at c.lesser-2.ensures.first;
      to_y = simp (to_z-of_z, s.y1) at c.greater-2.ensures.first;
    })

pub returns-clause-added : goal.returns-clause-added
returns-clause-added c =
    let px : SFits w64 c.args.point.now.x = search rules in
    let py : SFits w64 c.args.point.now.y = search rules in
    let x0 : SFits w64 c.lesser.result = search rules in
    let y0 : SFits w64 c.lesser-2.result = search rules in
    let x1 : SFits w64 c.greater.result = search rules in
    let y1 : SFits w64 c.greater-2.result = search rules in
    simp (to_z-of_z, x0, y0, x1, y1)
    (record {
      from_x = simp (to_z-of_z, px) at c.lesser.ensures.second;
      to_x = simp (to_z-of_z, px) at c.greater.ensures.second;
      from_y = simp (to_z-of_z, py) at c.lesser-2.ensures.second;
      to_y = simp (to_z-of_z, py) at c.greater-2.ensures.second;
    })
