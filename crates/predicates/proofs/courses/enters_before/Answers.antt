use Rattle.std.proofs.Common.{◌≡◌, to_z, of_z, rules}
use mir.Syntax.{w128}
use Rattle.predicates.proofs.courses.enters_before.Goals as goal

pub returns : goal.returns
returns c =
    let here : to_z w128 (of_z w128 c.product.result) ≡ c.product.result = search rules in
    let there : to_z w128 (of_z w128 c.product-2.result) ≡ c.product-2.result = search rules in
    rw (here, there, c.product.ensures, c.product-2.ensures) (search rules)
