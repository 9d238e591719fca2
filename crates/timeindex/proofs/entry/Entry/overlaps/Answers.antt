use Rattle.std.proofs.Common.{◌≡◌, ◌&&◌, nat_le, subst, ◌∙◌}
use Rattle.timeindex.specs.Entries.{overlaps}
use Rattle.timeindex.proofs.Sides.{overlaps_by_whole}
use Rattle.timeindex.proofs.entry.Entry.overlaps.Goals as goal

pub returns : goal.returns
returns c =
    let first = c.first_whole.ensures.value in
    let last = c.last_whole.ensures.value in
    let told = c.touch.ensures ∙ (λ i. nat_le c.self.inside.first (last i) && nat_le (first i) c.self.inside.last) in
    subst (λ e. c.touch.result ≡ overlaps c.args.period.now e) c.self.view_is
    (told ∙ overlaps_by_whole c.args.period.now
    (record { id = c.self.inside.id.value; first = c.self.inside.first; last = c.self.inside.last })
    c.last_whole.ensures.has_instant)
