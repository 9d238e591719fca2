use Rattle.std.proofs.Common.{rules, drop}
use Rattle.std.proofs.lemmas.List.{take_min, take_rest}
use Rattle.wire.specs.declared.frames.part.TheConstants.{PART}
use Rattle.wire.proofs.frames.part.part_from.Goals as goal

pub returns-clause-bytes : goal.returns-clause-bytes
returns-clause-bytes c =
    let rest = take_rest c.args.text.now c.args.offset in
    let part = take_min PART (drop c.args.offset c.args.text.now) in
    search (rules, rest, part)
