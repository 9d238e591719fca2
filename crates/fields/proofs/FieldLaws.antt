-- For each field: what is read was spelled so, and fits; and what fits is read from its spelling, whatever follows.
use Rattle.std.proofs.Common.{◌≡◌, ℕ, zero, suc, ◌+◌, ◌^◌, ◌<◌, ◌≤◌, Bool, true, false, eqb, ltb, not, ◌&&◌, ◌||◌, List, [], ◌∷◌, ◌++◌}
use Rattle.std.proofs.Common.{length, take, Ok, refl, sym, ap, subst, ◌∙◌, append_assoc, arith, inl, inr}
use Rattle.std.specs.Prelude.{ℤ, pos, negsuc, neg_ℤ, ◌≤ℤ◌, ◌<ℤ◌}
use Rattle.std.specs.List.{flat_map, list_all}
use Rattle.std.specs.Int.{cast_signed, cast_unsigned, w64}
use Rattle.std.specs.Int.RustNames.{FitsSigned}
use Rattle.std.specs.Ordering.{MatchOrdering, int_cmp, is_le}
use Rattle.std.specs.Cmp.{int_ranks}
use Rattle.std.specs.declared.cmp.Ordering.{Ordering}
use Rattle.std.specs.declared.cmp.Ordering.TheVariants.{Less, Equal, Greater}
use Rattle.std.proofs.lemmas.Bool.Decides.{nat_tests}
use Rattle.std.proofs.lemmas.Bool.{le-ltb}
use Rattle.std.proofs.lemmas.Int.{ints, of_z-to_z, to_z-of_z}
use Rattle.std.proofs.lemmas.List.{length-append, length-take, take-append-drop, take_at, drop_at}
use Rattle.std.proofs.lemmas.List.Sums.{AllPass-from_list_all, list_all-from_AllPass}
use Rattle.std.proofs.lemmas.List.Concat.{flat_map-cons}
use Rattle.byteorder.specs.Endian.{big_bytes}
use Rattle.tpoint.specs.Coordinates.{InRange}
use Rattle.tpoint.specs.Ids.{IsId, is_id_byte}
use Rattle.tpoint.specs.Instants.{IsInstant}
use Rattle.tpoint.specs.Moving.{Sequence}
use Rattle.tpoint.specs.declared.coordinate.TheConstants.{FURTHEST}
use Rattle.tpoint.specs.declared.id.TheConstants.{LONGEST_ID}
use Rattle.tpoint.specs.declared.interp.Interp.{Interp}
use Rattle.tpoint.specs.declared.interp.Interp.TheVariants.{Discrete, Step, Linear}
use Rattle.tpoint.specs.declared.point.Point.{Point}
use Rattle.fields.specs.declared.fault.FieldFault.TheVariants.{Short, Field}
use Rattle.fields.specs.Spelling.{id_bytes, triple_bytes, TripleFits, TriplesFit, interp_byte}
use Rattle.fields.specs.Spelling.{sequence_bytes, SequenceFits}
use Rattle.fields.specs.Reading.{Read, byte_at, number_at, text_at, id_at, instant_at, is_coordinate}
use Rattle.fields.specs.Reading.{coordinate_at, triple_at, triple_from, triples_at, interp_at, count_at, sequence_at}
use Rattle.fields.proofs.FieldLemmas.{IsBytes, IsBytes-drop, bind_ok, guard_ok, chosen, ok_is, Takes, Takes-then, Took, number_takes}
use Rattle.fields.proofs.FieldLemmas.{number_again, back2, back8, byte_takes, from_zero, at_most, is_equal}

-- ---- ids
pub not_false : (b : Bool) → not b ≡ false → b ≡ true
not_false true e = refl
not_false false e = absurd cc

pub neither : (a b : Bool) → (a || b) ≡ false → (a ≡ false) × (b ≡ false)
neither true b e = absurd cc
neither false b e = (refl, e)

pub text_takes : (len : ℕ) (bytes : List ℕ) (x : List ℕ × List ℕ) → IsBytes bytes → text_at len bytes ≡ Ok x → Takes bytes x.0 x.1
    × (length x.0 ≡ len) × (list_all is_id_byte x.0 ≡ true)
text_takes len bytes x fits e =
    let g = guard_ok (not (list_all is_id_byte (take len bytes))) Field _ x e in
    let h = guard_ok (ltb (length bytes) len) Short _ x g.1 in
    let long : len ≤ length bytes = at_most (length bytes) len h.0 in
    let right : length (take len bytes) ≡ len = omega (arith, length-take len bytes) in
    subst (λ (y : List ℕ × List ℕ). Takes bytes y.0 y.1 × (length y.0 ≡ len) × (list_all is_id_byte y.0 ≡ true)) (ok_is _ _ h.1)
    (record { parts = sym (take-append-drop len bytes); rest_fits = IsBytes-drop len bytes fits }, right, not_false _ g.0)

pub text_again : (id rest : List ℕ) → IsId id → text_at (length id) (id ++ rest) ≡ Ok (id, rest)
text_again id rest valid =
    let all : list_all is_id_byte id ≡ true = list_all-from_AllPass is_id_byte id valid.of_id_bytes in
    let long : ltb (length (id ++ rest)) (length id) ≡ false = le-ltb _ _ (omega (arith, length-append id rest)) in
    rw (take_at id rest (length id) refl, all, long, drop_at id rest (length id) refl) refl

pub id_takes : (bytes : List ℕ) (x : List ℕ × List ℕ) → IsBytes bytes → id_at bytes ≡ Ok x → Took id_bytes IsId bytes x
unfolding id_at
id_takes bytes x fits e =
    let b = bind_ok (byte_at bytes) _ x e in
    let t = byte_takes bytes b.0.0 b.0.1 fits b.1 in
    let g = guard_ok (eqb b.0.0 0 || ltb LONGEST_ID b.0.0) Field _ x b.2 in
    let u = text_takes b.0.0 b.0.1 x t.0.rest_fits g.1 in
    let bounds = neither _ _ g.0 in
    let some : 1 ≤ b.0.0 = from_zero b.0.0 bounds.0 in
    let few : b.0.0 ≤ LONGEST_ID = at_most LONGEST_ID b.0.0 bounds.1 in
    let both : Takes bytes (b.0.0 ∷ x.0) x.1 = Takes-then bytes (b.0.0 ∷ []) b.0.1 x.0 x.1 t.0 u.0 in
    record {
      takes = subst (λ (n : ℕ). Takes bytes (n ∷ x.0) x.1) (sym u.1) both;
      fits = record {
        not_empty = subst (λ (n : ℕ). 1 ≤ n) (sym u.1) some;
        not_too_long = subst (λ (n : ℕ). n ≤ LONGEST_ID) (sym u.1) few;
        of_id_bytes = AllPass-from_list_all is_id_byte x.0 u.2;
      };
    }

pub id_again : (id rest : List ℕ) → IsId id → id_at (id_bytes id ++ rest) ≡ Ok (id, rest)
unfolding id_at
id_again id rest valid =
    let some : 1 ≤ length id = valid.not_empty in
    let few : length id ≤ LONGEST_ID = valid.not_too_long in
    let bounds : (eqb (length id) 0 || ltb LONGEST_ID (length id)) ≡ false = grind (arith, nat_tests) in
    rw bounds (text_again id rest valid)

-- ---- instants and coordinates
pub instant_takes : (bytes : List ℕ) (x : ℕ × List ℕ) → IsBytes bytes → instant_at bytes ≡ Ok x → Took (big_bytes 8)
    (λ t. IsInstant (pos t)) bytes x
unfolding instant_at
instant_takes bytes x fits e =
    let r = bind_ok (number_at 8 bytes) _ x e in
    let t = number_takes 8 back8 bytes r.0.0 r.0.1 fits r.1 in
    let g = guard_ok (ltb 253402300799999 r.0.0) Field _ x r.2 in
    let low : r.0.0 ≤ 253402300799999 = at_most 253402300799999 r.0.0 g.0 in
    let it : Took (big_bytes 8) (λ t. IsInstant (pos t)) bytes r.0 =
    record { takes = t.0; fits = record { not_before = omega (arith, ints); not_after = omega (arith, ints) } } in
    subst (Took (big_bytes 8) (λ t. IsInstant (pos t)) bytes) (ok_is _ _ g.1) it

pub instant_again : (t : ℕ) (rest : List ℕ) → IsInstant (pos t) → instant_at (big_bytes 8 t ++ rest) ≡ Ok (t, rest)
unfolding instant_at
instant_again t rest valid =
    let last = valid.not_after in
    let low : t ≤ 253402300799999 = omega (arith, ints, last) in
    let first = number_again 8 t rest (omega arith) in
    let fits : ltb 253402300799999 t ≡ false = grind (arith, nat_tests) in
    rw (first, fits) refl

le_from : (a b : ℤ) (o : Ordering) → MatchOrdering o (a <ℤ b) (a ≡ b) (b <ℤ a) → is_le o ≡ true → a ≤ℤ b
le_from a b Less r e = omega (arith, ints, r)
le_from a b Equal r e = omega (arith, ints, r)
le_from a b Greater r e = absurd cc

le_to : (a b : ℤ) (o : Ordering) → MatchOrdering o (a <ℤ b) (a ≡ b) (b <ℤ a) → a ≤ℤ b → is_le o ≡ true
le_to a b Less r e = refl
le_to a b Equal r e = refl
le_to a b Greater r e = absurd (omega (arith, ints, r, e))

both_true : (a b : Bool) → (a && b) ≡ true → (a ≡ true) × (b ≡ true)
both_true true b e = (refl, e)
both_true false b e = absurd cc

pub in_range : (z : ℤ) → is_coordinate z ≡ true → InRange z
in_range z e =
    let two = both_true _ _ e in
    record {
      least = le_from (neg_ℤ FURTHEST) z (int_cmp (neg_ℤ FURTHEST) z) (int_ranks (neg_ℤ FURTHEST) z) two.0;
      greatest = le_from z FURTHEST (int_cmp z FURTHEST) (int_ranks z FURTHEST) two.1;
    }

range_in : (z : ℤ) → InRange z → is_coordinate z ≡ true
range_in z r =
    let low : is_le (int_cmp (neg_ℤ FURTHEST) z) ≡ true = le_to (neg_ℤ FURTHEST) z (int_cmp (neg_ℤ FURTHEST) z)
    (int_ranks (neg_ℤ FURTHEST) z) r.least in
    let high : is_le (int_cmp z FURTHEST) ≡ true = le_to z FURTHEST (int_cmp z FURTHEST) (int_ranks z FURTHEST) r.greatest in
    rw (low, high) refl

fits_signed : (z : ℤ) → InRange z → FitsSigned w64 z
fits_signed (pos n) r = let high = r.greatest in record { sfits = omega (arith, ints, high) }
fits_signed (negsuc n) r = let low = r.least in record { sfits = omega (arith, ints, low) }

fits_unsigned : (z : ℤ) → InRange z → cast_unsigned w64 z < 256 ^ 8
fits_unsigned (pos n) r = let high = r.greatest in omega (arith, ints, high)
fits_unsigned (negsuc n) r = omega arith

abbrev pub signed_bytes : ℤ → List ℕ
signed_bytes z = big_bytes 8 (cast_unsigned w64 z)

pub coordinate_takes : (bytes : List ℕ) (x : ℤ × List ℕ) → IsBytes bytes → coordinate_at bytes ≡ Ok x → Took signed_bytes InRange bytes x
unfolding coordinate_at
coordinate_takes bytes x fits e =
    let r = bind_ok (number_at 8 bytes) _ x e in
    let t = number_takes 8 back8 bytes r.0.0 r.0.1 fits r.1 in
    let g = guard_ok (not (is_coordinate (cast_signed w64 r.0.0))) Field _ x r.2 in
    let back : cast_unsigned w64 (cast_signed w64 r.0.0) ≡ r.0.0 = of_z-to_z w64 r.0.0 t.1 in
    let it : Took signed_bytes InRange bytes (cast_signed w64 r.0.0, r.0.1) = record {
      takes = subst (λ (n : ℕ). Takes bytes (big_bytes 8 n) r.0.1) (sym back) t.0;
      fits = in_range (cast_signed w64 r.0.0) (not_false _ g.0);
    } in
    subst (Took signed_bytes InRange bytes) (ok_is _ _ g.1) it

pub coordinate_again : (z : ℤ) (rest : List ℕ) → InRange z → coordinate_at (signed_bytes z ++ rest) ≡ Ok (z, rest)
unfolding coordinate_at
coordinate_again z rest r =
    let first = number_again 8 (cast_unsigned w64 z) rest (fits_unsigned z r) in
    let back : cast_signed w64 (cast_unsigned w64 z) ≡ z = to_z-of_z w64 z (fits_signed z r) in
    let right : is_coordinate z ≡ true = range_in z r in
    rw (first, back, right) refl

-- ---- triples
pub triple_takes : (bytes : List ℕ) (x : Point × List ℕ) → IsBytes bytes → triple_at bytes ≡ Ok x → Took triple_bytes TripleFits bytes x
unfolding triple_at triple_bytes
triple_takes bytes x fits e =
    let a = bind_ok (instant_at bytes) _ x e in
    let b = bind_ok (coordinate_at a.0.1) _ x a.2 in
    let c = bind_ok (coordinate_at b.0.1) _ x b.2 in
    let t = instant_takes bytes a.0 fits a.1 in
    let u = coordinate_takes a.0.1 b.0 t.takes.rest_fits b.1 in
    let v = coordinate_takes b.0.1 c.0 u.takes.rest_fits c.1 in
    let two = Takes-then bytes (big_bytes 8 a.0.0) a.0.1 (signed_bytes b.0.0) b.0.1 t.takes u.takes in
    let three = Takes-then bytes (big_bytes 8 a.0.0 ++ signed_bytes b.0.0) b.0.1 (signed_bytes c.0.0) c.0.1 two v.takes in
    let made : Point = record { t = a.0.0; x = b.0.0; y = c.0.0 } in
    let it : Took triple_bytes TripleFits bytes (made, c.0.1) =
    record { takes = three; fits = record { instant = t.fits; in_bounds = record { x_fits = u.fits; y_fits = v.fits } } } in
    subst (Took triple_bytes TripleFits bytes) (ok_is _ _ c.2) it

pub triple_again : (p : Point) (rest : List ℕ) → TripleFits p → triple_at (triple_bytes p ++ rest) ≡ Ok (p, rest)
unfolding triple_at triple_bytes
triple_again p rest fits =
    let y = signed_bytes p.y ++ rest in
    let x = signed_bytes p.x ++ y in
    let regrouped : triple_bytes p ++ rest ≡ big_bytes 8 p.t ++ x =
    append_assoc (big_bytes 8 p.t ++ signed_bytes p.x) (signed_bytes p.y) rest
    ∙ append_assoc (big_bytes 8 p.t) (signed_bytes p.x) (signed_bytes p.y ++ rest) in
    ap triple_at regrouped ∙ rw (
      instant_again p.t x fits.instant,
      coordinate_again p.x y fits.in_bounds.x_fits,
      coordinate_again p.y rest
          fits.in_bounds.y_fits,
    ) refl

pub triple_from_takes : (from : ℕ) (bytes : List ℕ) (x : Point × List ℕ) → IsBytes bytes → triple_from from bytes ≡ Ok x → Took triple_bytes
    (λ p. TripleFits p × (from ≤ p.t)) bytes x
unfolding triple_from
triple_from_takes from bytes x fits e =
    let a = bind_ok (triple_at bytes) _ x e in
    let t = triple_takes bytes a.0 fits a.1 in
    let g = guard_ok (ltb a.0.0.t from) Field _ x a.2 in
    let it : Took triple_bytes (λ p. TripleFits p × (from ≤ p.t)) bytes a.0 =
    record { takes = t.takes; fits = (t.fits, at_most a.0.0.t from g.0) } in
    subst (Took triple_bytes (λ p. TripleFits p × (from ≤ p.t)) bytes) (ok_is _ _ g.1) it

pub triple_from_again : (from : ℕ) (p : Point) (rest : List ℕ) → TripleFits p → from ≤ p.t → triple_from from (triple_bytes p ++ rest)
    ≡ Ok (p, rest)
unfolding triple_from
triple_from_again from p rest fits late =
    let right : ltb p.t from ≡ false = grind (arith, nat_tests) in
    rw (triple_again p rest fits, right) refl

-- so many triples
pub record TookTriples (count from : ℕ) (bytes : List ℕ) (x : List Point × List ℕ) : Type 0 where
  pub takes : Takes bytes (flat_map triple_bytes x.0) x.1
  pub counted : length x.0 ≡ count
  pub fits : TriplesFit from x.0

pub triples_take : (count from : ℕ) (bytes : List ℕ) (x : List Point × List ℕ) → IsBytes bytes → triples_at count from bytes ≡ Ok x
    → TookTriples count from bytes x
unfolding triples_at
triples_take zero from bytes x fits e =
    let it : TookTriples 0 from bytes ([], bytes) = record { takes = record { parts = refl; rest_fits = fits }; counted = refl; fits = tt }
    in
    subst (TookTriples 0 from bytes) (ok_is _ _ e) it
triples_take (suc count) from bytes x fits e =
    let a = bind_ok (triple_from from bytes) _ x e in
    let b = bind_ok (triples_at count (a.0.0.t + 1) a.0.1) _ x a.2 in
    let t = triple_from_takes from bytes a.0 fits a.1 in
    let u = triples_take count (a.0.0.t + 1) a.0.1 b.0 t.takes.rest_fits b.1 in
    let both = Takes-then bytes (triple_bytes a.0.0) a.0.1 (flat_map triple_bytes b.0.0) b.0.1 t.takes u.takes in
    let made : List Point × List ℕ = (a.0.0 ∷ b.0.0, b.0.1) in
    let it : TookTriples (suc count) from bytes made =
    record { takes = rw flat_map-cons both; counted = ap suc u.counted; fits = (t.fits.0, t.fits.1, u.fits) } in
    subst (TookTriples (suc count) from bytes) (ok_is _ _ b.2) it

pub triples_again : (from : ℕ) (ps : List Point) (rest : List ℕ) → TriplesFit from ps
    → triples_at (length ps) from (flat_map triple_bytes ps ++ rest) ≡ Ok (ps, rest)
unfolding triples_at
triples_again from [] rest fits = refl
triples_again from (p ∷ ps) rest fits =
    let regrouped : flat_map triple_bytes (p ∷ ps) ++ rest ≡ triple_bytes p ++ (flat_map triple_bytes ps ++ rest) =
    ap (λ (x : List ℕ). x ++ rest) (flat_map-cons triple_bytes p ps) ∙ append_assoc (triple_bytes p) (flat_map triple_bytes ps) rest in
    ap (triples_at (suc (length ps)) from) regrouped
    ∙ rw (triple_from_again from p (flat_map triple_bytes ps ++ rest) fits.0 fits.1, triples_again (p.t + 1) ps rest fits.2) refl

-- ---- sequences
abbrev pub interp_bytes : Interp → List ℕ
interp_bytes interp = interp_byte interp ∷ []

abbrev AnyInterp : Interp → Type 0
AnyInterp interp = Unit {0}

interp_case : (bytes rest : List ℕ) (byte : ℕ) (interp : Interp) (x : Interp × List ℕ) → Takes bytes (byte ∷ []) rest → byte
    ≡ interp_byte interp → ◌≡◌ {A = Read Interp} (Ok (interp, rest)) (Ok x) → Took interp_bytes AnyInterp bytes x
interp_case bytes rest byte interp x t is e =
    let it : Took interp_bytes AnyInterp bytes (interp, rest) = record
    { takes = subst (λ (b : ℕ). Takes bytes (b ∷ []) rest) is t; fits = tt } in
    subst (Took interp_bytes AnyInterp bytes) (ok_is _ _ e) it

pub interp_takes : (bytes : List ℕ) (x : Interp × List ℕ) → IsBytes bytes → interp_at bytes ≡ Ok x → Took interp_bytes AnyInterp bytes x
unfolding interp_at
interp_takes bytes x fits e =
    let b = bind_ok (byte_at bytes) _ x e in
    let t = byte_takes bytes b.0.0 b.0.1 fits b.1 in
    elim (chosen (eqb b.0.0 1) _ _ x b.2) [
      | inl one ↦ interp_case bytes b.0.1 b.0.0 Discrete x t.0 (is_equal _ _ one.0) one.1
      | inr more ↦ elim (chosen (eqb b.0.0 2) _ _ x more.1) [
        | inl two ↦ interp_case bytes b.0.1 b.0.0 Step x t.0 (is_equal _ _ two.0) two.1
        | inr others ↦ elim (chosen (eqb b.0.0 3) _ _ x others.1) [
          | inl three ↦ interp_case bytes b.0.1 b.0.0 Linear x t.0 (is_equal _ _ three.0) three.1
          | inr none ↦ absurd (let bad = none.1 in cc)
        ]
      ]
    ]

pub interp_again : (interp : Interp) (rest : List ℕ) → interp_at (interp_bytes interp ++ rest) ≡ Ok (interp, rest)
unfolding interp_at
interp_again Discrete rest = refl
interp_again Step rest = refl
interp_again Linear rest = refl

abbrev IsCount : ℕ → ℕ → Type 0
IsCount most n = (1 ≤ n) × (n ≤ most)

pub count_takes : (most : ℕ) (bytes : List ℕ) (x : ℕ × List ℕ) → IsBytes bytes → count_at most bytes ≡ Ok x → Took (big_bytes 2) (IsCount most) bytes x
unfolding count_at
count_takes most bytes x fits e =
    let r = bind_ok (number_at 2 bytes) _ x e in
    let t = number_takes 2 back2 bytes r.0.0 r.0.1 fits r.1 in
    let g = guard_ok (eqb r.0.0 0 || ltb most r.0.0) Field _ x r.2 in
    let bounds = neither _ _ g.0 in
    let it : Took (big_bytes 2) (IsCount most) bytes r.0 = record {
      takes = t.0;
      fits =
          (from_zero r.0.0 bounds.0, at_most most r.0.0 bounds.1);
    } in
    subst (Took (big_bytes 2) (IsCount most) bytes) (ok_is _ _ g.1) it

pub count_again : (most n : ℕ) (rest : List ℕ) → most < 256 ^ 2 → 1 ≤ n → n ≤ most → count_at most (big_bytes 2 n ++ rest) ≡ Ok (n, rest)
unfolding count_at
count_again most n rest low some few =
    let first = number_again 2 n rest (omega arith) in
    let bounds : (eqb n 0 || ltb most n) ≡ false = grind (arith, nat_tests) in
    rw (first, bounds) refl

pub sequence_takes : (most : ℕ) (bytes : List ℕ) (x : Sequence × List ℕ) → IsBytes bytes → sequence_at most bytes ≡ Ok x
    → Took sequence_bytes (SequenceFits most) bytes x
unfolding sequence_at
sequence_takes most bytes x fits e =
    let a = bind_ok (interp_at bytes) _ x e in
    let b = bind_ok (count_at most a.0.1) _ x a.2 in
    let c = bind_ok (triples_at b.0.0 0 b.0.1) _ x b.2 in
    let t = interp_takes bytes a.0 fits a.1 in
    let u = count_takes most a.0.1 b.0 t.takes.rest_fits b.1 in
    let v = triples_take b.0.0 0 b.0.1 c.0 u.takes.rest_fits c.1 in
    let some : 1 ≤ b.0.0 = u.fits.0 in
    let few : b.0.0 ≤ most = u.fits.1 in
    let two = Takes-then a.0.1 (big_bytes 2 b.0.0) b.0.1 (flat_map triple_bytes c.0.0) c.0.1 u.takes v.takes in
    let three = Takes-then bytes (interp_bytes a.0.0) a.0.1 (big_bytes 2 b.0.0 ++ flat_map triple_bytes c.0.0) c.0.1 t.takes two in
    let made : Sequence = record { interp = a.0.0; points = c.0.0 } in
    let it : Took sequence_bytes (SequenceFits most) bytes (made, c.0.1) = record {
      takes = subst (λ (n : ℕ). Takes bytes (interp_byte a.0.0 ∷ (big_bytes 2 n ++ flat_map triple_bytes c.0.0)) c.0.1) (sym v.counted)
          three;
      fits = record {
        not_empty = subst (λ (n : ℕ). 1 ≤ n) (sym v.counted) some;
        not_too_many = subst
            (λ (n : ℕ). n ≤ most) (sym v.counted) few;
        triples = v.fits;
      };
    } in
    subst (Took sequence_bytes (SequenceFits most) bytes) (ok_is _ _ c.2) it

pub sequence_again : (most : ℕ) (s : Sequence) (rest : List ℕ) → most < 256 ^ 2 → SequenceFits most s → sequence_at most (sequence_bytes s ++ rest) ≡ Ok (s, rest)
unfolding sequence_at
sequence_again most s rest low fits =
    let triples = flat_map triple_bytes s.points ++ rest in
    let counted = big_bytes 2 (length s.points) ++ triples in
    let regrouped : sequence_bytes s ++ rest ≡ interp_bytes s.interp ++ counted =
    ap (λ (xs : List ℕ). interp_byte s.interp ∷ xs) (append_assoc (big_bytes 2 (length s.points)) (flat_map triple_bytes s.points) rest) in
    ap (sequence_at most) regrouped
    ∙ rw (
      interp_again s.interp counted,
      count_again most (length s.points) triples low fits.not_empty fits.not_too_many,
      triples_again 0 s.points
          rest fits.triples,
    ) refl
