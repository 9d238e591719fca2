use Rattle.std.proofs.Common.{◌-ℤ◌, SFits, arith}
use Rattle.std.proofs.lemmas.Int.{ints, to_z-of_z}
use mir.Syntax.{w64}
use Rattle.predicates.proofs.Margins.{under}
use Rattle.predicates.proofs.WindowLemmas.{same_part}
use Rattle.predicates.proofs.inner_part.at_most.Goals as goal

pub returns : goal.returns
returns c =
    let fit : SFits w64 (c.args.high -ℤ c.args.from) × SFits w64 (c.args.high -ℤ c.args.to) = (omega (arith, ints), omega (arith, ints)) in
    let is = simp (to_z-of_z, c.ranges.from, c.ranges.to, c.ranges.high, fit.0, fit.1) at c.clip.ensures in
    same_part c.args.window _ _ _ is (under c.args.counts c.args.high c.args.from c.args.to)
