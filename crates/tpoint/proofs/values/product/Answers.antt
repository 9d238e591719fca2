use Rattle.std.proofs.Common.{◌*ℤ◌}
use Rattle.std.proofs.lemmas.Int.{to_z-of_z}
use mir.Syntax.{w128}
use Rattle.tpoint.proofs.Ranges.{wider, wide_product, small_product}
use Rattle.tpoint.proofs.values.product.Goals as goal

pub overflow_mul-result : goal.overflow_mul-result
overflow_mul-result c =
    rw (wider c.args.a c.ranges.a, wider c.args.b c.ranges.b)
    (wide_product c.args.a c.args.b c.requires.a_small c.requires.b_small)

pub returns-clause-value : goal.returns-clause-value
returns-clause-value c =
    rw (wider c.args.a c.ranges.a, wider c.args.b c.ranges.b)
    (to_z-of_z w128 (c.args.a *ℤ c.args.b) (wide_product c.args.a c.args.b c.requires.a_small c.requires.b_small))

pub returns-clause-small : goal.returns-clause-small
returns-clause-small c =
    rw (returns-clause-value c) (small_product c.args.a c.args.b c.requires.a_small c.requires.b_small)
