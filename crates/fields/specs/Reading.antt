-- Reading from left to right: a value and the bytes after it, or the first fault that is met.
--
-- Each number is read whole and then tested by itself, before the next one is read. A test that compares with an
-- earlier part is made at the last number of the later one.
use Rattle.std.specs.Prelude.{◌≡◌, ℕ, zero, suc, ◌+◌, ℤ, neg_ℤ, Bool, ◌&&◌, ◌||◌, not, ◌==◌}
use Rattle.std.specs.Prelude.{List, [], ◌∷◌, length, take, drop, Result, Ok, Err, nat_lt, if◌then◌else◌}
use Rattle.std.specs.List.{list_all}
use Rattle.std.specs.Ordering.{int_cmp, is_le}
use Rattle.std.specs.Int.{cast_signed, w64}
use Rattle.byteorder.specs.Endian.{big_number}
use Rattle.tpoint.specs.Ids.{is_id_byte}
use Rattle.tpoint.specs.Moving.{Sequence}
use Rattle.tpoint.specs.declared.coordinate.TheConstants.{FURTHEST}
use Rattle.tpoint.specs.declared.id.TheConstants.{LONGEST_ID}
use Rattle.tpoint.specs.declared.interp.Interp.{Interp}
use Rattle.tpoint.specs.declared.interp.Interp.TheVariants.{Discrete, Step, Linear}
use Rattle.tpoint.specs.declared.point.Point.{Point}
use Rattle.fields.specs.declared.fault.FieldFault.{FieldFault}
use Rattle.fields.specs.declared.fault.FieldFault.TheVariants.{Short, Field, Memory}

-- ---- reading, whatever the faults are
infixl 10 ◌>>=◌
abbrev pub ◌>>=◌ : {A B F : Type 0} → Result A F → (A → Result B F) → Result B F
(Ok x) >>= f = f x
(Err e) >>= f = Err e

-- what a function that takes no memory returned, seen by view, is what reading gives
abbrev pub Tells : {X Y F : Type 0} → (X → Y) → Result X F → Result Y F → Type 0
Tells view (Ok x) read = read ≡ Ok (view x)
Tells view (Err e) read = read ≡ Err e

-- ---- reading fields
-- the same of a function that takes memory: what it returned is what reading gives, unless memory ran out
abbrev pub FieldFails : {Y : Type 0} → FieldFault → Result Y FieldFault → Type 0
FieldFails Memory read = Unit {0}
FieldFails e read = read ≡ Err e

abbrev pub FieldGives : {X Y : Type 0} → (X → Y) → Result X FieldFault → Result Y FieldFault → Type 0
FieldGives view (Ok x) read = read ≡ Ok (view x)
FieldGives view (Err e) read = FieldFails e read

-- a value and the bytes after it, or a fault
abbrev pub Read : Type 0 → Type 0
Read A = Result (A × List ℕ) FieldFault

-- ---- numbers
abbrev pub byte_at : List ℕ → Read ℕ
byte_at [] = Err Short
byte_at (b ∷ rest) = Ok (b, rest)

abbrev pub number_at : ℕ → List ℕ → Read ℕ
number_at n bytes = if nat_lt (length bytes) n then Err Short else Ok (big_number n bytes, drop n bytes)

-- so many bytes, as they stand
abbrev pub bytes_at : ℕ → List ℕ → Read (List ℕ)
bytes_at n bytes = if nat_lt (length bytes) n then Err Short else Ok (take n bytes, drop n bytes)

-- ---- ids
-- so many bytes, each of them an id's; one that is none is met before the bytes end
abbrev pub text_at : ℕ → List ℕ → Read (List ℕ)
text_at len bytes = if not (list_all is_id_byte (take len bytes)) then Err Field else
    (if nat_lt (length bytes) len then Err Short else Ok (take len bytes, drop len bytes))

unfoldable pub id_at : List ℕ → Read (List ℕ)
id_at bytes = do
  len ← byte_at bytes
  if len.0 == 0 || nat_lt LONGEST_ID len.0 then Err Field else text_at len.0 len.1

-- ---- triples
-- An instant is never negative: eight bytes that are negative as two's complement are a number far above the last.
unfoldable pub instant_at : List ℕ → Read ℕ
instant_at bytes = do
  t ← number_at 8 bytes
  if nat_lt 253402300799999 t.0 then Err Field else Ok t

abbrev pub is_coordinate : ℤ → Bool
is_coordinate z = is_le (int_cmp (neg_ℤ FURTHEST) z) && is_le (int_cmp z FURTHEST)

unfoldable pub coordinate_at : List ℕ → Read ℤ
coordinate_at bytes = do
  bits ← number_at 8 bytes
  if not (is_coordinate (cast_signed w64 bits.0)) then Err Field else Ok (cast_signed w64 bits.0, bits.1)

unfoldable pub triple_at : List ℕ → Read Point
triple_at bytes = do
  t ← instant_at bytes
  x ← coordinate_at t.1
  y ← coordinate_at x.1
  Ok (record { t = t.0; x = x.0; y = y.0 }, y.1)

-- a triple that is not before an instant
unfoldable pub triple_from : ℕ → List ℕ → Read Point
triple_from from bytes = do
  p ← triple_at bytes
  if nat_lt p.0.t from then Err Field else Ok p

-- so many triples, the first not before an instant, and each later than the one before it
unfoldable pub triples_at : ℕ → ℕ → List ℕ → Read (List Point)
triples_at zero from bytes = Ok ([], bytes)
triples_at (suc count) from bytes = do
  first ← triple_from from bytes
  others ← triples_at count (first.0.t + 1) first.1
  Ok (first.0 ∷ others.0, others.1)

-- ---- sequences
unfoldable pub interp_at : List ℕ → Read Interp
interp_at bytes = do
  byte ← byte_at bytes
  if byte.0 == 1 then Ok (Discrete, byte.1) else
      (if byte.0 == 2 then Ok (Step, byte.1) else
      (if byte.0 == 3 then Ok (Linear, byte.1) else Err Field))

unfoldable pub count_at : ℕ → List ℕ → Read ℕ
count_at most bytes = do
  count ← number_at 2 bytes
  if count.0 == 0 || nat_lt most count.0 then Err Field else Ok count

unfoldable pub sequence_at : ℕ → List ℕ → Read Sequence
sequence_at most bytes = do
  interp ← interp_at bytes
  count ← count_at most interp.1
  points ← triples_at count.0 0 count.1
  Ok (record { interp = interp.0; points = points.0 }, points.1)
