use Rattle.std.proofs.Common.{◌≡◌, ◌<◌, ◌^◌, take}
use Rattle.mfjson.specs.Digits.{digits}
use Rattle.mfjson.proofs.datetime.number.Given as goal

-- the number that was read so far
abbrev pub invariant-loop-byte : goal.invariant-loop-byte
invariant-loop-byte l = record { below : l.n < 10 ^ l.byte-index; read : take l.byte-index l.text ≡ digits l.byte-index l.n }
