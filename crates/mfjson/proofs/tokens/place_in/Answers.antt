use Rattle.std.proofs.Common.{◌≡◌, w64, rules, subst}
use mir.Val.{to_z, of_z}
use Rattle.mfjson.specs.Faults.{SaysCoordinate}
use Rattle.mfjson.specs.Tokens.{ValueIsTold}
use Rattle.mfjson.proofs.TokenLemmas.{place_told}
use Rattle.mfjson.proofs.tokens.place_in.Goals as goal

pub returns : goal.returns
returns c =
    let x : c.in_ok-coordinate_in.field-0 ≡ to_z w64 (of_z w64 c.in_ok-coordinate_in.field-0) = search rules in
    let y : c.in_ok-coordinate_in-2.field-0 ≡ to_z w64 (of_z w64 c.in_ok-coordinate_in-2.field-0) = search rules in
    record {
      told = λ j begins.
          let inside = c.in_ok-items.ensures j begins in
          let first = c.in_ok-x.ensures.value inside.0 inside.2 in
          let second = c.in_ok-y.ensures.value first.1 first.4 in
          let over = c.in-None.ensures.value second.1 second.4 in
          let tx = subst (λ z. ValueIsTold 0 SaysCoordinate first.0 z) x (c.in_ok-coordinate_in.ensures.told first.0 first.3) in
          let ty = subst (λ z. ValueIsTold 0 SaysCoordinate second.0 z) y (c.in_ok-coordinate_in-2.ensures.told second.0 second.3) in
          place_told j first.0 second.0 inside.0 first.1 second.1 _ _ inside.1 first.2 second.2 over tx ty;
    }
