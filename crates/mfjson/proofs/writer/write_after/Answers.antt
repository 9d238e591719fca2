use Rattle.std.proofs.Common.{◌++◌, codes, ap, subst, ◌∙◌}
use Rattle.tpoint.specs.Interps.{interp_name}
use Rattle.mfjson.specs.Document.{WritesWhen, WritesWhere}
use Rattle.mfjson.specs.Texts.{ListsPoints}
use Rattle.mfjson.proofs.ReadBack.{document_written}
use Rattle.mfjson.proofs.writer.write_after.Goals as goal

pub returns : goal.returns
returns c =
    let f = c.args.feature.now in
    let start = c.args.start.now in
    let a = c.extend_from_slice-2.new.self.items in
    let h = c.extend_from_slice-6.new.self.items in
    let points = c.points-points.ensures.value in
    let begun = c.in_ok-extend_from_slice.ensures.items ∙ ap (λ s. s ++ start) c.in_ok-text.ensures.items in
    let opened = c.in_ok-extend_from_slice-2.ensures.items ∙ ap (λ s. s ++ codes "{\"id\":\"") begun in
    let id = c.in_ok-extend_from_slice-3.ensures.items ∙ ap (λ s. a ++ s) (c.as_bytes.ensures.value ∙ c.as_str-id.ensures.value) in
    let places = subst (λ ps. ListsPoints WritesWhere ps c.extend_from_slice-4.new.self.items c.push_coordinates.new.text.items) points
    c.in_ok-push_coordinates.ensures in
    let times = subst (λ ps. ListsPoints WritesWhen ps c.extend_from_slice-5.new.self.items c.push_datetimes.new.text.items) points
    c.in_ok-push_datetimes.ensures in
    let name = c.as_bytes-2.ensures.value ∙ c.name-interpolation.ensures ∙ ap interp_name c.interp.ensures.value in
    document_written f start a _ _ _ _ _ h _ _ c.as_str-id.ensures.valid c.points-points.ensures.valid opened id
    c.in_ok-extend_from_slice-4.ensures.items places c.in_ok-extend_from_slice-5.ensures.items times
    c.in_ok-extend_from_slice-6.ensures.items
    (c.in_ok-extend_from_slice-7.ensures.items ∙ ap (λ s. h ++ s) name) c.in_ok-extend_from_slice-8.ensures.items
