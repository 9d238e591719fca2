-- Ballots and slots: what is read was spelled so, and what is spelled so is read, whatever follows.
use Rattle.std.proofs.Common.{◌≡◌, ℕ, ◌^◌, ◌<◌, ◌≤◌, false, eqb, leb, List, [], ◌∷◌, ◌++◌, Ok, refl, sym, ap, subst, ◌∙◌, append_assoc, arith}
use Rattle.std.proofs.lemmas.Bool.Decides.{nat_tests}
use Rattle.byteorder.specs.Endian.{big_bytes}
use Rattle.fields.specs.Reading.{number_at, byte_at}
use Rattle.fields.proofs.FieldLemmas.{IsBytes, guard_ok, ok_is, Takes, Takes-then, Took, number_takes, number_again, back4, back8, byte_takes}
use Rattle.fields.proofs.FieldLemmas.{from_zero, below}
use Rattle.synod.specs.declared.ballot.Ballot.{Ballot}
use Rattle.synod.specs.declared.slot.TheConstants.{SLOTS}
use Rattle.wire.specs.declared.frames.fault.WireFault.TheVariants.{Field}
use Rattle.wire.specs.Spelling.{ballot_bytes, BallotFits, slot_bytes, SlotFits}
use Rattle.wire.specs.Reading.{ballot_of, ballot_at, slot_at}
use Rattle.wire.proofs.BallotLemmas.{ballot_is, round_is, node_is}
use Rattle.wire.proofs.WideLemmas.{bind_wide}

-- ---- ballots
pub ballot_takes : (nodes : ℕ) → nodes ≤ 7 → (bytes : List ℕ) (x : Ballot × List ℕ) → IsBytes bytes → ballot_at nodes bytes ≡ Ok x
    → Took ballot_bytes (BallotFits nodes) bytes x
unfolding ballot_at
ballot_takes nodes few bytes x fits e =
    let r = bind_wide (number_at 8 bytes) _ x e in
    let t = number_takes 8 back8 bytes r.0.0 r.0.1 fits r.1 in
    let g = guard_ok (eqb r.0.0 0) Field _ x r.2 in
    let n = bind_wide (byte_at r.0.1) _ x g.1 in
    let u = byte_takes r.0.1 n.0.0 n.0.1 t.0.rest_fits n.1 in
    let h = guard_ok (leb nodes n.0.0) Field _ x n.2 in
    let low : n.0.0 < nodes = below nodes n.0.0 h.0 in
    let round : (ballot_of r.0.0 n.0.0).round ≡ r.0.0 = round_is r.0.0 n.0.0 (from_zero r.0.0 g.0) in
    let node : (ballot_of r.0.0 n.0.0).node ≡ n.0.0 = node_is r.0.0 n.0.0 (omega arith) in
    let both = Takes-then bytes (big_bytes 8 r.0.0) r.0.1 (n.0.0 ∷ []) n.0.1 t.0 u.0 in
    let takes : Takes bytes (ballot_bytes (ballot_of r.0.0 n.0.0)) n.0.1 =
    subst (λ (m : ℕ). Takes bytes (big_bytes 8 (ballot_of r.0.0 n.0.0).round ++ m ∷ []) n.0.1) (sym node)
    (subst (λ (m : ℕ). Takes bytes (big_bytes 8 m ++ n.0.0 ∷ []) n.0.1) (sym round) both) in
    let it : Took ballot_bytes (BallotFits nodes) bytes (ballot_of r.0.0 n.0.0, n.0.1) = record {
      takes = takes;
      fits = record { round = subst (λ (m : ℕ). m < 2 ^ 64) (sym round) t.1; node = subst (λ (m : ℕ). m < nodes) (sym node) low };
    } in
    subst (Took ballot_bytes (BallotFits nodes) bytes) (ok_is _ _ h.1) it

pub ballot_again : (nodes : ℕ) (b : Ballot) (rest : List ℕ) → BallotFits nodes b → ballot_at nodes (ballot_bytes b ++ rest) ≡ Ok (b, rest)
unfolding ballot_at
ballot_again nodes b rest fits =
    let first : number_at 8 (ballot_bytes b ++ rest) ≡ Ok (b.round, b.node ∷ rest) = ap (number_at 8)
    (append_assoc (big_bytes 8 b.round) (b.node ∷ []) rest) ∙ number_again 8 b.round (b.node ∷ rest) fits.round in
    let begun : 1 ≤ b.round = b.begun in
    let round : eqb b.round 0 ≡ false = grind (arith, nat_tests) in
    let low : b.node < nodes = fits.node in
    let node : leb nodes b.node ≡ false = grind (arith, nat_tests) in
    rw (first, round, node) (ap (λ (c : Ballot). Ok (c, rest)) (ballot_is b))

-- ---- slots
pub slot_takes : (bytes : List ℕ) (x : ℕ × List ℕ) → IsBytes bytes → slot_at bytes ≡ Ok x → Took slot_bytes SlotFits bytes x
unfolding slot_at
slot_takes bytes x fits e =
    let r = bind_wide (number_at 4 bytes) _ x e in
    let t = number_takes 4 back4 bytes r.0.0 r.0.1 fits r.1 in
    let g = guard_ok (leb SLOTS r.0.0) Field _ x r.2 in
    let it : Took slot_bytes SlotFits bytes r.0 = record { takes = t.0; fits = below SLOTS r.0.0 g.0 } in
    subst (Took slot_bytes SlotFits bytes) (ok_is _ _ g.1) it

pub slot_again : (n : ℕ) (rest : List ℕ) → SlotFits n → slot_at (slot_bytes n ++ rest) ≡ Ok (n, rest)
unfolding slot_at
slot_again n rest low =
    let first = number_again 4 n rest (omega arith) in
    let fits : leb SLOTS n ≡ false = grind (arith, nat_tests) in
    rw (first, fits) refl
