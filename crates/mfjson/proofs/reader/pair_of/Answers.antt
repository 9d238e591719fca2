use Rattle.std.proofs.Common.{◌≡◌, Some, length, rules, arith, sym, ap, ◌∙◌}
use Rattle.std.proofs.lemmas.List.{length-map}
use Rattle.std.proofs.lemmas.Option.{same_Some}
use Rattle.serde_json.specs.Find.{as_array}
use Rattle.serde_json.specs.View.{view, items_view}
use Rattle.mfjson.proofs.PlaceLemmas.{two_items}
use Rattle.mfjson.proofs.reader.pair_of.Goals as goal

pub returns-then-len-ne2 : goal.returns-then-len-ne2
returns-then-len-ne2 c d e same =
    let pair = c.in_ok-pair.pair.now.items in
    let found : as_array (view c.args.value.now) ≡ Some (items_view pair) = search rules in
    let two = two_items _ d e (same_Some _ _ (sym found ∙ ap as_array same)) in
    let long : c.len.result ≡ length pair = search rules in
    omega (arith, two, length-map pair view)
