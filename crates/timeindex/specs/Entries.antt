-- A set of entries by ids: from when to when something is.
--
-- A set is seen as the list of its entries in the byte order of their ids.
use Rattle.std.specs.Prelude.{ℕ, List, map, filter, Bool, ◌&&◌, nat_le, nat_lt, is_some, if◌then◌else◌}
use Rattle.tpoint.specs.Extents.{Span}
use Rattle.timeindex.specs.Ascending.{IdsAscend, element_of, with_element, without}

-- something with an id is from its first instant to its last, both included
pub record Entry : Type 0 where
  pub id : List ℕ
  pub first : ℕ
  pub last : ℕ

abbrev pub id_of : Entry → List ℕ
id_of e = e.id

-- at most one entry for an id
pub record IsSet (es : List Entry) : Type 0 where
  pub ascending : IdsAscend id_of es

-- an entry has the id
abbrev pub is_known : List Entry → List ℕ → Bool
is_known es id = is_some (element_of id_of es id)

-- the set with an entry, in the place of any other with its id
abbrev pub with_entry : List Entry → Entry → List Entry
with_entry = with_element id_of

-- the set without the entry of an id
abbrev pub without_entry : List Entry → List ℕ → List Entry
without_entry = without id_of

-- ---- the filter
-- the entry shares an instant with the period: it doesn't begin after the period, nor end before it; nor does it begin, or end, at an
-- end that isn't in the period
abbrev pub begins_by_the_end : Span → Entry → Bool
begins_by_the_end p e = if p.end_in then nat_le e.first p.end else nat_lt e.first p.end

abbrev pub lasts_to_the_begin : Span → Entry → Bool
lasts_to_the_begin p e = if p.begin_in then nat_le p.begin e.last else nat_lt p.begin e.last

abbrev pub overlaps : Span → Entry → Bool
overlaps p e = begins_by_the_end p e && lasts_to_the_begin p e

-- the ids of the entries that overlap a period, in byte order
abbrev pub ids_overlapping : List Entry → Span → List (List ℕ)
ids_overlapping es p = map id_of (filter (overlaps p) es)
