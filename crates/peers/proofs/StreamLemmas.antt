-- However a stream is cut, it hands out the same packets.
use Rattle.std.proofs.Common.{◌≡◌, ℕ, ◌+◌, List, [], ◌∷◌, ◌++◌, length, take, drop, All, refl, sym, ap, ap₂, ◌∙◌, append_assoc, append-nil, arith, inl, inr}
use Rattle.std.specs.List.{flat_map}
use Rattle.std.proofs.lemmas.Grind.{flat_map-append}
use Rattle.std.proofs.lemmas.List.{append_cancel_left, take_at, drop_at}
use Rattle.std.proofs.lemmas.List.Elements.{All-append, All-cons, All-head, All-nil, All-tail}
use Rattle.byteorder.specs.Endian.{big_bytes}
use Rattle.peers.specs.Cutting.{IsPacket, IsIncomplete, Stops, Streams, announced}
use Rattle.peers.specs.Sealing.{framed}
use Rattle.peers.proofs.CutLemmas.{packet_announced, framed_len}

-- ---- what was handed out, and what is held, make what was fed
pub streams_together : (given left : List ℕ) (packets : List (List ℕ)) → Streams given packets left
    → (given ≡ flat_map framed packets ++ left) × All IsPacket packets
streams_together _ _ _ Streams.empty = (refl, All-nil IsPacket)
streams_together _ _ _ (Streams.fed given left bytes packets before) =
    let it = streams_together given left packets before in
    (ap (λ (xs : List ℕ). xs ++ bytes) it.0 ∙ append_assoc (flat_map framed packets) left bytes, it.1)
streams_together _ _ _ (Streams.handed_out given left packet packets fits before) =
    let it = streams_together given (framed packet ++ left) packets before in
    let one : flat_map framed (packets ++ packet ∷ []) ≡ flat_map framed packets ++ framed packet =
    flat_map-append framed packets (packet ∷ [])
    ∙ ap (λ (xs : List ℕ). flat_map framed packets ++ xs) (append-nil (framed packet)) in (
      it.0
          ∙ sym (append_assoc (flat_map framed packets) (framed packet) left)
          ∙ ap (λ (xs : List ℕ). xs ++ left) (sym one),
      All-append IsPacket packets (packet ∷ []) it.1 (All-cons IsPacket packet [] fits (All-nil IsPacket)),
    )

-- ---- there is one way to cut bytes
-- where a packet comes next, the stream doesn't stop
never_stops : (packet rest bytes : List ℕ) → IsPacket packet → bytes ≡ framed packet ++ rest → ¬ (Stops bytes)
never_stops packet rest bytes fits is stops =
    let number : announced bytes ≡ length packet = ap announced is ∙ packet_announced packet rest fits in
    let long : length bytes ≡ 4 + length packet + length rest = ap (λ (xs : List ℕ). length xs) is ∙ framed_len packet rest in
    elim stops [
      | inl (IsIncomplete.in_length short) ↦ omega (arith, short, long)
      | inl (IsIncomplete.in_packet few short) ↦ omega (arith, short, long, number)
      | inr more ↦ omega (arith, more.beyond, number, fits)
    ]

record SameCut (packet other rest left : List ℕ) : Type 0 where
  packet_is : packet ≡ other
  rest_is : rest ≡ left

-- two packets at the front of the same bytes are one
one_packet : (packet other rest left : List ℕ) → IsPacket packet → IsPacket other
    → framed packet ++ rest ≡ framed other ++ left → SameCut packet other rest left
one_packet packet other rest left fits other_fits same =
    let len : length packet ≡ length other = sym (packet_announced packet rest fits) ∙ ap announced same ∙ packet_announced other left other_fits in
    let inner : packet ++ rest ≡ other ++ left =
    append_cancel_left (big_bytes 4 (length other)) (packet ++ rest) (other ++ left)
    (ap (λ (n : ℕ). big_bytes 4 n ++ (packet ++ rest)) (sym len)
    ∙ sym (append_assoc (big_bytes 4 (length packet)) packet rest)
    ∙ same
    ∙ append_assoc (big_bytes 4 (length other)) other left) in record {
      packet_is = sym (take_at packet rest (length other) len)
          ∙ ap (λ (xs : List ℕ). take (length other) xs) inner
          ∙ take_at other left (length other) refl;
      rest_is = sym (drop_at packet rest (length other) len)
          ∙ ap (λ (xs : List ℕ). drop (length other) xs) inner
          ∙ drop_at other left (length other) refl;
    }

pub one_cut : (packets others : List (List ℕ)) (rest left : List ℕ) → All IsPacket packets → All IsPacket others
    → flat_map framed packets ++ rest ≡ flat_map framed others ++ left → Stops rest → Stops left
    → (packets ≡ others) × (rest ≡ left)
one_cut [] [] rest left fit others_fit same stop other_stop = (refl, same)
one_cut [] (q ∷ qs) rest left fit others_fit same stop other_stop =
    absurd
    (never_stops q (flat_map framed qs ++ left) rest (All-head IsPacket q qs others_fit)
    (same ∙ append_assoc (framed q) (flat_map framed qs) left) stop)
one_cut (p ∷ ps) [] rest left fit others_fit same stop other_stop =
    absurd
    (never_stops p (flat_map framed ps ++ rest) left (All-head IsPacket p ps fit)
    (sym same ∙ append_assoc (framed p) (flat_map framed ps) rest) other_stop)
one_cut (p ∷ ps) (q ∷ qs) rest left fit others_fit same stop other_stop =
    let first = one_packet p q (flat_map framed ps ++ rest) (flat_map framed qs ++ left) (All-head IsPacket p ps fit)
    (All-head IsPacket q qs others_fit)
    (sym (append_assoc (framed p) (flat_map framed ps) rest) ∙ same ∙ append_assoc (framed q) (flat_map framed qs) left) in
    let others = one_cut ps qs rest left (All-tail IsPacket p ps fit) (All-tail IsPacket q qs others_fit) first.rest_is stop other_stop in
    (ap₂ (λ (x : List ℕ) (xs : List (List ℕ)). x ∷ xs) first.packet_is others.0, others.1)

pub streams_one : (given rest left : List ℕ) (packets others : List (List ℕ)) → Streams given packets rest → Stops rest
    → Streams given others left → Stops left → (packets ≡ others) × (rest ≡ left)
streams_one given rest left packets others stream stop other other_stop =
    let it = streams_together given rest packets stream in
    let that = streams_together given left others other in
    one_cut packets others rest left it.1 that.1 (sym it.0 ∙ that.0) stop other_stop
