-- The table of records.
use Rattle.std.specs.Prelude.{true, false, [], ◌∷◌, None, codes}
use Rattle.sqlite_value.specs.declared.keys.Collation.TheVariants.{Binary}
use Rattle.sqlite_value.specs.declared.value.Value.TheVariants.{Null}
use Rattle.sqlite_schema.specs.declared.schema.Table.{Table}
use Rattle.sqlite_schema.specs.declared.schema.Schema.{Schema}
use Rattle.sqlite_schema.specs.declared.schema.Index.{Index}
use Rattle.sqlite_schema.specs.declared.schema.Kind.TheVariants.{Blob}
use Rattle.sqlite_catalog.specs.Change.{created}

-- nothing is there
abbrev pub no_schema : Schema
no_schema = record { tables = []; indexes = []; views = [] }

-- the columns k and v, of bytes and nothing else, none of them NULL; no key comes twice
abbrev pub record_table : Table
record_table = record {
  name = codes "record";
  tree = 0;
  columns = (record { name = codes "k"; kind = Blob; is_strict = true; not_null = true; default = Null; collation = Binary })
      ∷ (record { name = codes "v"; kind = Blob; is_strict = true; not_null = true; default = Null; collation = Binary }) ∷ [];
  key = None;
  primary = 1 ∷ [];
  uniques = (1 ∷ []) ∷ [];
  orders = (record { digits = 0 }) ∷ [];
  checks = [];
  references = [];
  computed = [];
  stamps = record { places = []; terms = []; formats = [] };
  is_counted = false;
}

-- that table and the index of its key, as its making leaves them
abbrev pub record_schema : Schema
record_schema = created no_schema record_table

-- the index of its key
abbrev pub record_index : Index
record_index = record {
  name = codes "sqlite_autoindex_record_1";
  tree = 1;
  table = 0;
  columns = 1 ∷ [];
  order = record { digits = 0 };
  is_unique = true;
}

-- the same two, written out
abbrev pub listed_schema : Schema
listed_schema = record { tables = record_table ∷ []; indexes = record_index ∷ []; views = [] }
