use Rattle.std.proofs.Common.{◌≤◌, length, refl, arith}
use Rattle.std.proofs.lemmas.Bool.Decides.{nat_tests}
use Rattle.std.proofs.lemmas.Option.{slice_get_past, slice_get_read}
use Rattle.diagram.proofs.DrawnLemmas.{found_told, not_there}
use Rattle.diagram.proofs.arrow_lines.draw_next.Goals as goal

pub returns-in-Some : goal.returns-in-Some
returns-in-Some c =
    let found = c.in-Some.ensures.lookup in
    found_told c.args.scene.now c.args.layout.now.ends.items c.args.arrow.now _ _ c.draw_sent.result c.in-Some.frame.now
    (slice_get_read c.args.scene.now.frames.now (length c.args.scene.now.frames.now) c.args.arrow.now.frame c.in-Some.frame.now refl
    found.3.0 found.1)
    c.draw_sent.ensures

pub returns-in-None : goal.returns-in-None
returns-in-None c =
    let lookup = c.in-None.ensures.lookup in
    let past : length c.args.scene.now.frames.now ≤ c.args.arrow.now.frame = first_of (omega arith, grind (arith, nat_tests)) in
    not_there c.args.scene.now c.args.layout.now.ends.items c.args.arrow.now _ _ (slice_get_past _ _ past)
