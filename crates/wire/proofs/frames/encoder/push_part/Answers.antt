use Rattle.std.proofs.Common.{◌++◌, length}
use Rattle.byteorder.specs.Endian.{big_bytes}
use Rattle.wire.specs.Parts.{offset_of}
use Rattle.fields.proofs.PushLemmas.{after_push}
use Rattle.wire.proofs.frames.encoder.push_part.Goals as goal

pub returns-clause-spelled : goal.returns-clause-spelled
returns-clause-spelled c =
    let p = c.args.part.now in
    let counted = big_bytes 2 (length p.bytes) ++ p.bytes in
    let begun = big_bytes 4 (offset_of p.number) in
    after_push c.push_counted.result c.args.out.now.items c.push_u32.new.out.items c.push_counted.new.out.items
    (big_bytes 4 p.position) (big_bytes 4 p.total ++ (begun ++ counted))
    (rw (← c.position.ensures, ← c.value.ensures.value) c.in_ok-push_u32.ensures.spelled)
    (after_push c.push_counted.result c.push_u32.new.out.items c.push_u32-2.new.out.items c.push_counted.new.out.items
    (big_bytes 4 p.total) (begun ++ counted)
    (rw (← c.total.ensures.value) c.in_ok-push_u32-2.ensures.spelled)
    (after_push c.push_counted.result c.push_u32-2.new.out.items c.push_u32-3.new.out.items c.push_counted.new.out.items
    begun counted
    (rw (← c.number.ensures, ← c.offset.ensures) c.in_ok-push_u32-3.ensures.spelled)
    (rw (← c.bytes.ensures.value) c.push_counted.ensures.spelled)))
