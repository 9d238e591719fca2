use Rattle.std.proofs.Common.{arith, rules}
use Rattle.std.proofs.lemmas.Fmt.{length-decimal-le, length_signed_le}
use Rattle.textbuf.proofs.write_whole.Goals as goal

pub write_digits-start-requires : goal.write_digits-start-requires
write_digits-start-requires c = (
  omega (arith, length-decimal-le 19 c.unsigned_abs.result (omega arith) (omega arith) (omega arith)),
  search
      rules,
)

pub returns-then-n-ge0-clause-short : goal.returns-then-n-ge0-clause-short
returns-then-n-ge0-clause-short c = length_signed_le 19 c.args.n (omega (arith, c.ranges.n.sfits)) (omega (arith, c.ranges.n.sfits))

pub write_byte-requires-clause-room : goal.write_byte-requires-clause-room
write_byte-requires-clause-room c = omega (arith, length-decimal-le 19 c.unsigned_abs.result (omega arith) (omega arith) (omega arith))

pub returns-clause-short : goal.returns-clause-short
returns-clause-short c = length_signed_le 19 c.args.n (omega (arith, c.ranges.n.sfits)) (omega (arith, c.ranges.n.sfits))
