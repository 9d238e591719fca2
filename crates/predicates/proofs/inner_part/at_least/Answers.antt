use Rattle.std.proofs.Common.{◌-ℤ◌, SFits, arith}
use Rattle.std.proofs.lemmas.Int.{ints, to_z-of_z}
use mir.Syntax.{w64}
use Rattle.predicates.proofs.Margins.{over}
use Rattle.predicates.proofs.WindowLemmas.{same_part}
use Rattle.predicates.proofs.inner_part.at_least.Goals as goal

pub returns : goal.returns
returns c =
    let fit : SFits w64 (c.args.from -ℤ c.args.low) × SFits w64 (c.args.to -ℤ c.args.low) = (omega (arith, ints), omega (arith, ints)) in
    let is = simp (to_z-of_z, c.ranges.from, c.ranges.to, c.ranges.low, fit.0, fit.1) at c.clip.ensures in
    same_part c.args.window _ _ _ is (over c.args.counts c.args.low c.args.from c.args.to)
