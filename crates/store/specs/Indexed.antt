-- What the index over time keeps of features.
use Rattle.std.specs.Prelude.{◌≡◌, List, map}
use Rattle.tpoint.specs.Spans.{span_of}
use Rattle.mfjson.specs.declared.feature.Feature.{Feature}
use Rattle.timeindex.specs.Entries.{Entry}
use Rattle.store.specs.Features.{IsDatabase}

-- an entry for a feature: its id, and from when to when it is
abbrev pub entry_of : Feature → Entry
entry_of f =
    record { id = f.id; first = (span_of f.seq.points).begin; last = (span_of f.seq.points).end }

-- the entries of the features, and no other
abbrev pub entries_of : List Feature → List Entry
entries_of fs = map entry_of fs

-- a database and its index
pub record IndexIsKept (fs : List Feature) (es : List Entry) : Type 0 where
  pub database : IsDatabase fs
  pub indexed : es ≡ entries_of fs
