use Rattle.std.proofs.Common.{◌≡◌, w64, rules, refl, subst}
use mir.Val.{to_z, of_z}
use Rattle.serde_json.specs.Read.{number_of}
use Rattle.mfjson.specs.Tokens.{IsWhole}
use Rattle.mfjson.proofs.TokenLemmas.{coordinate_told}
use Rattle.mfjson.proofs.tokens.coordinate_in.Goals as goal

pub returns-then-is_coordinate : goal.returns-then-is_coordinate
returns-then-is_coordinate c =
    let text = c.in_ok-as_number.field-0 in
    let same : c.in_ok-z.z ≡ to_z w64 (of_z w64 c.in_ok-z.z) = search rules in
    let whole = subst (λ z. IsWhole (number_of c.as_bytes.result.now) z) same c.in_ok-z.ensures in
    coordinate_told c.as_number.result text c.args.value.now _ c.as_number.ensures c.in_ok-as_number.was
    (subst (λ s. IsWhole (number_of s) (to_z w64 (of_z w64 c.in_ok-z.z))) c.as_bytes.ensures.value whole)
    (c.if-is_coordinate.ensures.0 refl)
