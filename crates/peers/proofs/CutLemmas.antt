-- The packet with which bytes begin.
use Rattle.std.proofs.Common.{◌≡◌, ℕ, ◌+◌, ◌≤◌, List, ◌++◌, length, take, drop, sym, ap, ◌∙◌, append_assoc, arith}
use Rattle.std.proofs.lemmas.List.{length-append, length-drop, length-take, length-take-le, take-append-drop, take-take}
use Rattle.byteorder.specs.Endian.{big_bytes, big_number}
use Rattle.byteorder.specs.Numbers.{big_from-take, big_number-reads_back}
use Rattle.fields.proofs.FieldLemmas.{IsBytes, IsBytes-take, back4}
use Rattle.peers.specs.Cutting.{IsAhead, IsPacket, announced}
use Rattle.peers.specs.declared.run.TheConstants.{LONGEST_PACKET}
use Rattle.peers.specs.Sealing.{framed}

-- a packet so long is ahead, as the number before it says
pub ahead : (bytes : List ℕ) (n : ℕ) → IsBytes bytes → n ≡ announced bytes → n ≤ LONGEST_PACKET → 4 + n ≤ length bytes
    → IsAhead bytes n
ahead bytes n fits is few there =
    let short : length (take 4 bytes) ≡ 4 = length-take-le 4 bytes (omega arith) in
    let number : big_number 4 (take 4 bytes) ≡ n = big_from-take 0 4 4 bytes (omega arith) ∙ sym is in record {
      fits = few;
      spelled = sym (back4 (take 4 bytes) short (IsBytes-take 4 bytes fits)) ∙ ap (big_bytes 4) number;
      is_there = there;
    }

-- the packet that is ahead, and what follows it
pub cut : (bytes : List ℕ) (n : ℕ) → IsAhead bytes n
    → bytes ≡ framed (drop 4 (take (4 + n) bytes)) ++ drop (4 + n) bytes
cut bytes n ahead =
    let there : 4 + n ≤ length bytes = ahead.is_there in
    let packet : length (drop 4 (take (4 + n) bytes)) ≡ n =
    omega (arith, there, length-drop 4 (take (4 + n) bytes), length-take-le (4 + n) bytes there) in
    let whole : take 4 bytes ++ drop 4 (take (4 + n) bytes) ≡ take (4 + n) bytes =
    ap (λ (xs : List ℕ). xs ++ drop 4 (take (4 + n) bytes)) (sym (take-take 4 (4 + n) bytes (omega arith)))
    ∙ take-append-drop 4 (take (4 + n) bytes) in
    sym
    (ap (λ (k : ℕ). (big_bytes 4 k ++ drop 4 (take (4 + n) bytes)) ++ drop (4 + n) bytes) packet
    ∙ ap (λ (xs : List ℕ). (xs ++ drop 4 (take (4 + n) bytes)) ++ drop (4 + n) bytes) (sym ahead.spelled)
    ∙ ap (λ (xs : List ℕ). xs ++ drop (4 + n) bytes) whole
    ∙ take-append-drop (4 + n) bytes)

-- how long it is
pub cut_fits : (bytes : List ℕ) (n : ℕ) → IsAhead bytes n → IsPacket (drop 4 (take (4 + n) bytes))
cut_fits bytes n ahead =
    omega (arith, ahead.fits, length-drop 4 (take (4 + n) bytes), length-take (4 + n) bytes)

-- the length before a packet is the packet's
pub packet_announced : (packet rest : List ℕ) → IsPacket packet → announced (framed packet ++ rest) ≡ length packet
packet_announced packet rest fits =
    ap (λ (xs : List ℕ). big_number 4 xs) (append_assoc (big_bytes 4 (length packet)) packet rest)
    ∙ big_number-reads_back 4 (length packet) (packet ++ rest) (omega (arith, fits))

-- how long both are
pub framed_len : (packet rest : List ℕ) → length (framed packet ++ rest) ≡ 4 + length packet + length rest
framed_len packet rest = omega (arith, length-append packet rest)
