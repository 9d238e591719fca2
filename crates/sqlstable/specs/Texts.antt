-- What a text has to mean for each of the four statements: the command that it is under the schema.
use Rattle.std.specs.Prelude.{◌≡◌, ℕ, false, Some, None, Ok, codes, List, [], ◌∷◌, pos, negsuc}
use Rattle.sqlite_value.specs.declared.value.Value.TheVariants.{Null, Int, Blob}
use Rattle.sqlite_value.specs.declared.keys.Collation.TheVariants.{Binary}
use Rattle.sqlite_value.specs.Keys.{ascending}
use Rattle.sqlite_sql.specs.Term.{Term, lit, col, op2}
use Rattle.sqlite_sql.specs.Query.{Query, inner, end}
use Rattle.sqlite_sql.specs.declared.ops.BinaryOp.TheVariants as binary
use Rattle.sqlite_sql.specs.declared.ops.CompareOp.TheVariants.{Eq, Ge, Lt}
use Rattle.sqlite_schema.specs.declared.command.Command.{Command}
use Rattle.sqlite_schema.specs.declared.command.Command.TheVariants.{CreateTable, Delete, InsertOr, Select}
use Rattle.sqlite_schema.specs.declared.command.Conflict.TheVariants.{Abort}
use Rattle.sqlite_schema.specs.declared.command.Source.{Source}
use Rattle.sqlite_schema.specs.declared.command.Source.TheVariants.{Values}
use Rattle.sqlite_schema.specs.declared.command.Upsert.{Upsert}
use Rattle.sqlite_resolve.specs.Compile.{table_defined_by}
use Rattle.sqlite.specs.Listing.{understood, reads_listing}
use Rattle.sqlite.specs.Given.{IsPlain}
use Rattle.sqlite.proofs.Callers.{command_of, statement_of}
use Rattle.sqlstable.specs.Table.{no_schema, record_table, record_schema}

-- a query of the table's rows, with neither groups nor a limit; row 0 has the parameters, row 1 is the table's
abbrev plain : List Term → List Term → Query
plain filter project = record {
  from = inner 0 end;
  filter = filter;
  group = None;
  project = project;
  distinct = false;
  collations = [];
  order = [];
  limit = lit (Int (negsuc 0));
  offset = lit (Int (pos 0));
}

-- it makes the table, where nothing is there
pub record IsMaking (sql : List ℕ) : Type 0 where
  pub command : command_of (understood no_schema sql) ≡ CreateTable
  pub defined : table_defined_by (statement_of sql (understood no_schema sql)) ≡ Ok record_table
  pub bare : IsPlain (understood no_schema sql)

-- the row that is there, whose number is the third of what is given, with the new bytes, the sixth
abbrev pub set_query : Query
set_query = plain (op2 (binary.Compare Eq Binary) (col 1 0) (col 0 2) ∷ []) (col 1 0 ∷ col 1 0 ∷ col 1 1 ∷ col 0 5 ∷ [])

-- a row of the two parameters goes in
abbrev pub put_source : Source
put_source = Values (lit Null ∷ col 0 0 ∷ col 0 1 ∷ []) 3

-- but where the key is there, its row gets the new bytes
abbrev pub put_clause : Upsert
put_clause = record { target = Some (1 ∷ []); update = Some (record { lets = []; body = set_query }) }

abbrev pub put_command : Command
put_command = InsertOr 0 Abort put_source (put_clause ∷ [])

-- it puts the second parameter under the first
pub record StatementPuts (sql : List ℕ) : Type 0 where
  pub command : command_of (understood record_schema sql) ≡ put_command
  pub bare : IsPlain (understood record_schema sql)

-- the bytes of the rows whose key is the parameter
abbrev pub get_query : Query
get_query = plain (op2 (binary.Compare Eq Binary) (col 1 1) (col 0 0) ∷ []) (col 1 2 ∷ [])

-- it selects what the key holds that is the parameter
pub record IsLookup (sql : List ℕ) : Type 0 where
  pub command : command_of (understood record_schema sql) ≡ Select (record { lets = []; body = get_query }) (codes "v" ∷ [])
  pub bare : IsPlain (understood record_schema sql)
  pub unlisted : reads_listing record_schema sql ≡ false

-- the keys of all rows and their numbers, in ascending order of the keys
abbrev pub keys_query : Query
keys_query = record (plain [] (col 1 1 ∷ col 1 0 ∷ [])) { order = (col 1 1, ascending Binary) ∷ [] }

-- it selects the keys in order
pub record IsListing (sql : List ℕ) : Type 0 where
  pub command : command_of (understood record_schema sql) ≡ Select (record { lets = []; body = keys_query })
      (codes "k" ∷ codes "rowid" ∷ [])
  pub bare : IsPlain (understood record_schema sql)
  pub unlisted : reads_listing record_schema sql ≡ false

-- the numbers of the rows whose keys are bytes from 56 on and below the parameter
abbrev pub trim_query : Query
trim_query = plain (op2 (binary.Compare Ge Binary) (col 1 1) (lit (Blob (0x56 ∷ [])))
    ∷ op2 (binary.Compare Lt Binary) (col 1 1) (col 0 0) ∷ []) (col 1 0 ∷ [])

-- it takes those rows out
pub record IsTrim (sql : List ℕ) : Type 0 where
  pub command : command_of (understood record_schema sql) ≡ Delete 0 (record { lets = []; body = trim_query })
  pub bare : IsPlain (understood record_schema sql)
