-- What carries a snapshot: what is read was spelled so, and what is spelled so is read, whatever follows; and a text's parts make it.
use Rattle.std.proofs.Common.{◌≡◌, ℕ, suc, ◌+◌, ◌-◌, ◌*◌, ◌/◌, ◌%◌, ◌<◌, ◌≤◌, min, Bool, true, false, eqb, leb, ltb, not, ◌||◌}
use Rattle.std.proofs.Common.{List, [], ◌∷◌, ◌++◌, length, take, drop, slice_get, Option, Some, None, Ok}
use Rattle.std.proofs.Common.{refl, sym, ap, subst, ◌∙◌, append_assoc, arith}
use Rattle.std.proofs.Math.Nat.{div-add-mod, mod-lt, mul-mod_right, mul-div_cancel_left, min-le_left}
use Rattle.std.proofs.Math.Seq.{take-append_seam}
use Rattle.std.proofs.lemmas.Bool.Decides.{nat_tests}
use Rattle.std.proofs.lemmas.Bool.{le-ltb, ltb-false}
use Rattle.std.proofs.lemmas.List.{drop_at, length-append, length-take, take-append-drop, take-take, drop-take, drop-drop, take_all}
use Rattle.byteorder.specs.Endian.{big_bytes}
use Rattle.synod.specs.declared.slot.TheConstants.{SLOTS}
use Rattle.sessions.specs.declared.snapshot.TheConstants.{LONGEST_SNAPSHOT}
use Rattle.fields.specs.declared.fault.FieldFault.TheVariants.{Short}
use Rattle.fields.specs.Reading.{number_at, bytes_at}
use Rattle.fields.proofs.FieldLemmas.{IsBytes, IsBytes-drop, bind_ok, guard_ok, ok_is, Takes, Takes-then, Took, number_takes, number_again}
use Rattle.fields.proofs.FieldLemmas.{back2, back4, from_zero, below, at_most, is_number}
use Rattle.wire.specs.declared.frames.fault.WireFault.TheVariants.{Field}
use Rattle.wire.specs.declared.frames.part.TheConstants.{PART}
use Rattle.wire.specs.FrameReading.{position_at, part_below, total_at, part_bytes_at, piece_at}
use Rattle.wire.specs.FrameSpelling.{offset_bytes, piece_bytes}
use Rattle.wire.specs.Parts.{IsPosition, IsPartNumber, Piece, IsPiece, offset_of, is_total, piece, parts_in, joined}
use Rattle.wire.proofs.WideLemmas.{bind_wide, wide_ok, neither, both_hold}

-- ---- positions
pub position_takes : (bytes : List ℕ) (x : ℕ × List ℕ) → IsBytes bytes → position_at bytes ≡ Ok x → Took (big_bytes 4) IsPosition bytes x
unfolding position_at
position_takes bytes x fits e =
    let r = bind_wide (number_at 4 bytes) _ x e in
    let t = number_takes 4 back4 bytes r.0.0 r.0.1 fits r.1 in
    let g = guard_ok (eqb r.0.0 0 || ltb SLOTS r.0.0) Field _ x r.2 in
    let n = neither _ _ g.0 in
    let fit : IsPosition r.0.0 = record { from_one = from_zero r.0.0 n.0; in_log = at_most SLOTS r.0.0 n.1 } in
    let it : Took (big_bytes 4) IsPosition bytes r.0 = record { takes = t.0; fits = fit } in
    subst (Took (big_bytes 4) IsPosition bytes) (ok_is _ _ g.1) it

pub position_again : (n : ℕ) (rest : List ℕ) → IsPosition n → position_at (big_bytes 4 n ++ rest) ≡ Ok (n, rest)
unfolding position_at
position_again n rest fits =
    let low : 1 ≤ n = fits.from_one in
    let high : n ≤ SLOTS = fits.in_log in
    let first = number_again 4 n rest (omega (arith, high)) in
    let one : eqb n 0 ≡ false = grind (arith, nat_tests) in
    let two : ltb SLOTS n ≡ false = grind (arith, nat_tests) in
    rw (first, one, two) refl

-- ---- where a part begins
abbrev Begins : ℕ → ℕ → Type 0
Begins total number = offset_of number < total

pub whole_parts : (n : ℕ) → n % PART ≡ 0 → offset_of (n / PART) ≡ n
whole_parts n e = let d = div-add-mod n PART in omega (arith, d, e)

part_takes : (total : ℕ) (bytes : List ℕ) (x : ℕ × List ℕ) → IsBytes bytes → part_below total bytes ≡ Ok x
    → Took offset_bytes (Begins total) bytes x
unfolding part_below
part_takes total bytes x fits e =
    let r = bind_wide (number_at 4 bytes) _ x e in
    let t = number_takes 4 back4 bytes r.0.0 r.0.1 fits r.1 in
    let g = guard_ok (not (eqb (r.0.0 % PART) 0) || leb total r.0.0) Field _ x r.2 in
    let n = neither _ _ g.0 in
    let back : offset_of (r.0.0 / PART) ≡ r.0.0 = whole_parts r.0.0 (is_number _ _ n.0) in
    let taken : Takes bytes (offset_bytes (r.0.0 / PART)) r.0.1 = subst (λ (m : ℕ). Takes bytes (big_bytes 4 m) r.0.1) (sym back) t.0 in
    let low : offset_of (r.0.0 / PART) < total = subst (λ (m : ℕ). m < total) (sym back) (below total r.0.0 n.1) in
    let it : Took offset_bytes (Begins total) bytes (r.0.0 / PART, r.0.1) = record { takes = taken; fits = low } in
    subst (Took offset_bytes (Begins total) bytes) (ok_is _ _ g.1) it

part_again : (total number : ℕ) (rest : List ℕ) → total ≤ LONGEST_SNAPSHOT → offset_of number < total
    → part_below total (offset_bytes number ++ rest) ≡ Ok (number, rest)
unfolding part_below
part_again total number rest most low =
    let first = number_again 4 (offset_of number) rest (omega (arith, most, low)) in
    let whole : offset_of number % PART ≡ 0 = mul-mod_right PART number in
    let back : offset_of number / PART ≡ number = mul-div_cancel_left number (omega arith) in
    let right : leb total (offset_of number) ≡ false = grind (arith, nat_tests) in
    rw (first, whole, right, back) refl

number_within : (total number : ℕ) → total ≤ LONGEST_SNAPSHOT → offset_of number < total → IsPartNumber number
number_within total number most low = omega (arith, most, low)

begins_within : (number : ℕ) → IsPartNumber number → offset_of number < LONGEST_SNAPSHOT
begins_within number low = omega (arith, low)

-- of the longest text
pub part_number_takes : (bytes : List ℕ) (x : ℕ × List ℕ) → IsBytes bytes → part_below LONGEST_SNAPSHOT bytes ≡ Ok x
    → Took offset_bytes IsPartNumber bytes x
part_number_takes bytes x fits e =
    let t = part_takes LONGEST_SNAPSHOT bytes x fits e in
    record { takes = t.takes; fits = number_within LONGEST_SNAPSHOT x.0 (omega arith) t.fits }

pub part_number_again : (number : ℕ) (rest : List ℕ) → IsPartNumber number
    → part_below LONGEST_SNAPSHOT (offset_bytes number ++ rest) ≡ Ok (number, rest)
part_number_again number rest low = part_again LONGEST_SNAPSHOT number rest (omega arith) (begins_within number low)

-- ---- how many bytes a text has
record TotalFits (total : ℕ) : Type 0 where
  pub least : 4 ≤ total
  pub most : total ≤ LONGEST_SNAPSHOT

at_least : (k n : ℕ) → leb k n ≡ true → k ≤ n
at_least k n e = grind (arith, nat_tests)

holds : (a : Bool) → not a ≡ false → a ≡ true
holds true e = refl
holds false e = absurd cc

total_takes : (bytes : List ℕ) (x : ℕ × List ℕ) → IsBytes bytes → total_at bytes ≡ Ok x → Took (big_bytes 4) TotalFits bytes x
unfolding total_at
total_takes bytes x fits e =
    let r = bind_wide (number_at 4 bytes) _ x e in
    let t = number_takes 4 back4 bytes r.0.0 r.0.1 fits r.1 in
    let g = guard_ok (not (is_total r.0.0)) Field _ x r.2 in
    let n = both_hold _ _ (holds _ g.0) in
    let fit : TotalFits r.0.0 = record { least = at_least 4 r.0.0 n.0; most = at_least r.0.0 LONGEST_SNAPSHOT n.1 } in
    let it : Took (big_bytes 4) TotalFits bytes r.0 = record { takes = t.0; fits = fit } in
    subst (Took (big_bytes 4) TotalFits bytes) (ok_is _ _ g.1) it

total_again : (n : ℕ) (rest : List ℕ) → 4 ≤ n → n ≤ LONGEST_SNAPSHOT → total_at (big_bytes 4 n ++ rest) ≡ Ok (n, rest)
unfolding total_at
total_again n rest low high =
    let first = number_again 4 n rest (omega (arith, high)) in
    let one : leb 4 n ≡ true = grind (arith, nat_tests) in
    let two : leb n LONGEST_SNAPSHOT ≡ true = grind (arith, nat_tests) in
    rw (first, one, two) refl

-- ---- bytes as they stand
bytes_take : (n : ℕ) (bytes : List ℕ) (x : List ℕ × List ℕ) → IsBytes bytes → bytes_at n bytes ≡ Ok x
    → Takes bytes x.0 x.1 × (length x.0 ≡ n)
bytes_take n bytes x fits e =
    let g = guard_ok (ltb (length bytes) n) Short (Ok (take n bytes, drop n bytes)) x e in
    let long : n ≤ length bytes = ltb-false _ _ g.0 in
    let len : length (take n bytes) ≡ n = omega (arith, long, length-take n bytes) in
    subst (λ (y : List ℕ × List ℕ). Takes bytes y.0 y.1 × (length y.0 ≡ n)) (ok_is _ _ g.1)
    (record { parts = sym (take-append-drop n bytes); rest_fits = IsBytes-drop n bytes fits }, len)

bytes_again : (text rest : List ℕ) → bytes_at (length text) (text ++ rest) ≡ Ok (text, rest)
bytes_again text rest =
    let long : ltb (length (text ++ rest)) (length text) ≡ false = le-ltb _ _ (omega (arith, length-append text rest)) in
    rw (long, take-append_seam text rest, drop_at text rest (length text) refl) refl

abbrev counted : List ℕ → List ℕ
counted text = big_bytes 2 (length text) ++ text

abbrev IsWhole : ℕ → ℕ → List ℕ → Type 0
IsWhole total number text = length text ≡ min PART (total - offset_of number)

text_takes : (total number : ℕ) (bytes : List ℕ) (x : List ℕ × List ℕ) → IsBytes bytes → part_bytes_at total number bytes ≡ Ok x
    → Took counted (IsWhole total number) bytes x
unfolding part_bytes_at
text_takes total number bytes x fits e =
    let r = bind_wide (number_at 2 bytes) _ x e in
    let t = number_takes 2 back2 bytes r.0.0 r.0.1 fits r.1 in
    let g = guard_ok (not (eqb r.0.0 (min PART (total - offset_of number)))) Field _ x r.2 in
    let u = bytes_take r.0.0 r.0.1 x t.0.rest_fits (wide_ok _ x g.1) in
    let both = Takes-then bytes (big_bytes 2 r.0.0) r.0.1 x.0 x.1 t.0 u.0 in record {
      takes = subst (λ (n : ℕ). Takes bytes (big_bytes 2 n ++ x.0) x.1) (sym u.1) both;
      fits = u.1 ∙ is_number _ _ g.0;
    }

text_again : (total number : ℕ) (text rest : List ℕ) → IsWhole total number text
    → part_bytes_at total number (counted text ++ rest) ≡ Ok (text, rest)
unfolding part_bytes_at
text_again total number text rest whole =
    let most : min PART (total - offset_of number) ≤ PART = min-le_left PART (total - offset_of number) in
    let first = number_again 2 (length text) (text ++ rest) (omega (arith, whole, most)) in
    let right : eqb (length text) (min PART (total - offset_of number)) ≡ true = grind (arith, nat_tests) in
    ap (part_bytes_at total number) (append_assoc (big_bytes 2 (length text)) text rest)
    ∙ rw (first, right, bytes_again text rest) refl

-- ---- parts
pub piece_takes : (bytes : List ℕ) (x : Piece × List ℕ) → IsBytes bytes → piece_at bytes ≡ Ok x → Took piece_bytes IsPiece bytes x
unfolding piece_at
piece_takes bytes x fits e =
    let p = bind_ok (position_at bytes) _ x e in
    let tp = position_takes bytes p.0 fits p.1 in
    let l = bind_ok (total_at p.0.1) _ x p.2 in
    let tl = total_takes p.0.1 l.0 tp.takes.rest_fits l.1 in
    let n = bind_ok (part_below l.0.0 l.0.1) _ x l.2 in
    let tn = part_takes l.0.0 l.0.1 n.0 tl.takes.rest_fits n.1 in
    let b = bind_ok (part_bytes_at l.0.0 n.0.0 n.0.1) _ x n.2 in
    let tb = text_takes l.0.0 n.0.0 n.0.1 b.0 tn.takes.rest_fits b.1 in
    let last = Takes-then l.0.1 (offset_bytes n.0.0) n.0.1 (counted b.0.0) b.0.1 tn.takes tb.takes in
    let later = Takes-then p.0.1 (big_bytes 4 l.0.0) l.0.1 (offset_bytes n.0.0 ++ counted b.0.0) b.0.1 tl.takes last in
    let behind = big_bytes 4 l.0.0 ++ (offset_bytes n.0.0 ++ counted b.0.0) in
    let all = Takes-then bytes (big_bytes 4 p.0.0) p.0.1 behind b.0.1 tp.takes later in
    let made : Piece = record { position = p.0.0; total = l.0.0; number = n.0.0; bytes = b.0.0 } in
    let fit : IsPiece made = record
    { position = tp.fits; least = tl.fits.least; most = tl.fits.most; begins = tn.fits; whole = tb.fits } in
    let it : Took piece_bytes IsPiece bytes (made, b.0.1) = record { takes = all; fits = fit } in
    subst (Took piece_bytes IsPiece bytes) (ok_is _ _ b.2) it

-- four parts, and what follows
four : (a b c d rest : List ℕ) → (a ++ (b ++ (c ++ d))) ++ rest ≡ a ++ (b ++ (c ++ (d ++ rest)))
four a b c d rest =
    append_assoc a (b ++ (c ++ d)) rest
    ∙ ap (λ (r : List ℕ). a ++ r) (append_assoc b (c ++ d) rest ∙ ap (λ (r : List ℕ). b ++ r) (append_assoc c d rest))

pub piece_again : (p : Piece) (rest : List ℕ) → IsPiece p → piece_at (piece_bytes p ++ rest) ≡ Ok (p, rest)
unfolding piece_at
piece_again p rest fits =
    let last = counted p.bytes ++ rest in
    let third = offset_bytes p.number ++ last in
    ap piece_at (four (big_bytes 4 p.position) (big_bytes 4 p.total) (offset_bytes p.number) (counted p.bytes) rest)
    ∙ rw (
      position_again p.position (big_bytes 4 p.total ++ third) fits.position,
      total_again p.total third fits.least fits.most,
      part_again p.total p.number last fits.most fits.begins,
      text_again p.total p.number p.bytes rest fits.whole,
    ) refl

-- how long a part is as a body
pub piece_most : (p : Piece) → IsPiece p → length p.bytes ≤ PART
piece_most p fits =
    let most : min PART (p.total - offset_of p.number) ≤ PART = min-le_left PART (p.total - offset_of p.number) in
    omega (arith, fits.whole, most)

-- ---- a text from its parts
take_more : (n k : ℕ) (text : List ℕ) → take (n + k) text ≡ take n text ++ take k (drop n text)
take_more n k text =
    sym (take-append-drop n (take (n + k) text))
    ∙ ap (λ (xs : List ℕ). xs ++ drop n (take (n + k) text)) (take-take n (n + k) text (omega arith))
    ∙ ap (λ (xs : List ℕ). take n text ++ xs) (drop-take n k text)

same_bytes : (p q : Piece) → Some (Some p) ≡ Some (Some q) → p.bytes ≡ q.bytes
same_bytes p q e = cc

-- the parts from one on, joined, are as much of the text from its place on
joined_from : (position : ℕ) (text : List ℕ) (held : List (Option Piece)) (from : ℕ)
    → ((k : ℕ) → k < length held → slice_get held k ≡ Some (Some (piece position text (from + k))))
    → joined held ≡ take (PART * length held) (drop (offset_of from) text)
joined_from position text [] from each = refl
joined_from position text (None ∷ held) from each = absurd (let first = each 0 (omega arith) in cc)
joined_from position text (Some p ∷ held) from each =
    let rest = drop (offset_of from) text in
    let at_first : from + 0 ≡ from = omega arith in
    let first : p.bytes ≡ take PART rest = same_bytes p (piece position text (from + 0)) (each 0 (omega arith))
    ∙ ap (λ (n : ℕ). take PART (drop (offset_of n) text)) at_first in
    let others : joined held ≡ take (PART * length held) (drop (offset_of (from + 1)) text) =
    joined_from position text held (from + 1)
    (λ k low. let next : from + suc k ≡ from + 1 + k = omega arith in
    subst (λ (n : ℕ). slice_get held k ≡ Some (Some (piece position text n))) next (each (suc k) (omega (arith, low)))) in
    let place : offset_of (from + 1) ≡ offset_of from + PART = omega arith in
    let behind : drop (offset_of (from + 1)) text ≡ drop PART rest = ap (λ (n : ℕ). drop n text) place
    ∙ sym (drop-drop PART (offset_of from) text) in
    let len : PART + PART * length held ≡ PART * length (Some p ∷ held) = omega arith in
    ap (λ (xs : List ℕ). xs ++ joined held) first
    ∙ ap (λ (xs : List ℕ). take PART rest ++ xs) (others ∙ ap (λ (xs : List ℕ). take (PART * length held) xs) behind)
    ∙ sym (take_more PART (PART * length held) rest)
    ∙ ap (λ (n : ℕ). take n rest) len

covered : (total : ℕ) → total ≤ PART * parts_in total
covered total =
    let whole = div-add-mod (total + PART - 1) PART in
    let short : (total + PART - 1) % PART < PART = mod-lt (total + PART - 1) (omega arith) in
    omega (arith, whole, short)

pub parts_make : (position : ℕ) (text : List ℕ) (held : List (Option Piece)) → length held ≡ parts_in (length text)
    → ((k : ℕ) → k < length held → slice_get held k ≡ Some (Some (piece position text k))) → joined held ≡ text
parts_make position text held all each =
    let enough : length text ≤ PART * length held = subst (λ (n : ℕ). length text ≤ PART * n) (sym all) (covered (length text)) in
    joined_from position text held 0
    (λ k low. let same : k ≡ 0 + k = omega arith in
    subst (λ (n : ℕ). slice_get held k ≡ Some (Some (piece position text n))) same (each k low))
    ∙ take_all (PART * length held) text enough
