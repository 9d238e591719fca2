use Rattle.std.proofs.Common.{Some, map, codes, refl, sym, ap, subst, ◌∙◌}
use Rattle.std.specs.Prelude.{IsSome}
use Rattle.serde_json.specs.View.{view, items_view}
use Rattle.mfjson.proofs.PartLemmas.{array_here, elements_here}
use Rattle.mfjson.proofs.reader.lists_of.Goals as goal

pub returns : goal.returns
returns c =
    let g = view c.args.geometry.now in
    let times = c.in_ok-datetimes.datetimes.now.items in
    let here_times = array_here (codes "datetimes") g _ (items_view times) (sym c.in_ok-get.ensures) (sym c.in_ok-datetimes.ensures) in
    let places = c.in_ok-coordinates.coordinates.now.items in
    let here_places =
    array_here (codes "coordinates") g _ (items_view places) (sym c.in_ok-get-2.ensures) (sym c.in_ok-coordinates.ensures) in
    record {
      is_moving_point = record {
        four = sym c.member_count.ensures ∙ c.if-member_count-ne4.false;
        kind = sym c.in_ok-kind.ensures ∙ ap Some (c.if-not-is_text.ensures.0 refl);
        interpolation = subst IsSome c.in_ok-_interpolation.ensures refl;
        datetimes = subst IsSome (sym here_times) refl;
        coordinates = subst IsSome (sym here_places) refl;
      };
      times_are = ap (map view) c.as_slice.ensures.value ∙ sym (elements_here (codes "datetimes") g (map view times) here_times);
      places_are = ap (map view) c.as_slice-2.ensures.value ∙ sym (elements_here (codes "coordinates") g (map view places) here_places);
    }
