-- Where a line ends.
use Rattle.std.proofs.Common.{◌≡◌, ◌∙◌, ℕ, ◌+◌, ◌<◌, ◌≤◌, true, false, List, ◌∷◌, ◌++◌, length, take, drop, get_or, Some, None, arith, sym, ap, cond, nat_lt}
use Rattle.std.specs.List.{position, position_or_len}
use Rattle.std.specs.Option.{unwrap_or}
use Rattle.std.proofs.lemmas.List.{take-append-drop, drop_more, get_or-take}
use Rattle.std.proofs.lemmas.List.Elements.{All-from_get_or}
use Rattle.std.proofs.lemmas.List.Sums.{fails_before_first, passes_at_first, prefix_len-le-length}
use Rattle.std.proofs.lemmas.Bool.Decides.{nat_tests}
use Rattle.std.proofs.lemmas.Grind.{common_steps}
use Rattle.mfpxd.specs.Streams.{FEED, HasNoFeed, HasNoLine, IsFirstLine, IsTooLong, is_feed}
use Rattle.mfpxd.specs.declared.inbox.TheConstants.{LONGEST_LINE}

-- the first line feed stands among the bytes, or at their end
pub ends_within : (bytes : List ℕ) → position_or_len is_feed bytes ≤ length bytes
ends_within bytes = prefix_len-le-length _ bytes

-- the place of the first line feed, as one number
pub place_or_end : (bytes : List ℕ) → unwrap_or (position is_feed bytes) (length bytes) ≡ position_or_len is_feed bytes
place_or_end bytes = at_or_end (position_or_len is_feed bytes) (length bytes) (ends_within bytes)
  where
    at_or_end : (i n : ℕ) → i ≤ n → unwrap_or (cond (nat_lt i n) (Some i) None) n ≡ i
    at_or_end i n le = grind (arith, nat_tests)

-- before the first line feed there is none
none_before : (bytes : List ℕ) (count : ℕ) → count ≤ position_or_len is_feed bytes → HasNoFeed (take count bytes)
none_before bytes count le =
    All-from_get_or (λ byte. is_feed byte ≡ false) (take count bytes) 0 (λ i within.
    let early : i < count = grind (arith, common_steps) in
    rw (get_or-take count bytes i 0 early) (fails_before_first is_feed bytes i 0 (omega arith)))

-- what is told apart as a line feed is one
feeds : (byte : ℕ) → is_feed byte ≡ true → byte ≡ FEED
feeds byte h = grind (arith, nat_tests)

-- the bytes before the first line feed are the first line
line_before : (bytes : List ℕ) (end : ℕ) → end ≡ position_or_len is_feed bytes → end < length bytes
    → IsFirstLine bytes (take end bytes) (drop (end + 1) bytes)
line_before bytes end place within =
    let found : is_feed (get_or bytes end 0) ≡ true = rw place (passes_at_first is_feed bytes 0 (rw place at within)) in
    let from : drop end bytes ≡ FEED ∷ drop (end + 1) bytes =
    drop_more bytes end 0 within ∙ ap (λ byte. byte ∷ drop (end + 1) bytes) (feeds (get_or bytes end 0) found) in
    record {
      parts = sym (take-append-drop end bytes) ∙ ap (λ rest. take end bytes ++ rest) from;
      is_one = none_before bytes end (omega arith);
    }

-- the same of what was cut out, and what is left
pub first_line : (bytes slice line rest : List ℕ) (end : ℕ) → slice ≡ bytes → end ≡ position_or_len is_feed slice → end < length slice
    → line ≡ take end slice → rest ≡ drop (end + 1) bytes → IsFirstLine bytes line rest
first_line bytes slice line rest end same place within cut left =
    rw (cut, left, same) (line_before bytes end (rw same at place) (rw same at within))

-- without a line feed there is no line
pub no_line : (bytes slice : List ℕ) (end : ℕ) → slice ≡ bytes → end ≡ position_or_len is_feed slice → length slice ≤ end
    → end ≤ LONGEST_LINE → HasNoLine bytes
no_line bytes slice end same place past fits =
    let first : end ≡ position_or_len is_feed bytes = rw same at place in
    let behind : length bytes ≤ end = rw same at past in
    record {
      has_no_feed =
          All-from_get_or (λ byte. is_feed byte ≡ false) bytes 0 (λ i within. fails_before_first is_feed bytes i 0 (omega arith));
      fits = omega arith;
    }

-- one that comes too late ends no line
pub too_long : (bytes slice : List ℕ) (end : ℕ) → slice ≡ bytes → end ≡ position_or_len is_feed slice → end ≤ length slice
    → LONGEST_LINE < end → IsTooLong bytes
too_long bytes slice end same place within late =
    let first : end ≡ position_or_len is_feed bytes = rw same at place in
    let inside : end ≤ length bytes = rw same at within in
    record {
      is_there = omega arith;
      has_no_feed = none_before bytes (LONGEST_LINE + 1) (omega arith);
    }
