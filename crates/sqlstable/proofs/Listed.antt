-- Where the list of objects has rows.
use Rattle.std.proofs.Common.{◌≡◌, ◌≢◌, inl, inr, true, List, [], ◌∷◌, filter, refl, subst}
use Rattle.std.specs.List.{AllZip}
use Rattle.std.proofs.lemmas.Bool.{cases_Bool}
use Rattle.sqlite_value.specs.Order.{Row}
use Rattle.sqlite_trees.specs.Objects.{catalog_tree}
use Rattle.sqlite_schema.specs.declared.schema.Schema.{Schema}
use Rattle.sqlite_catalog.specs.Listing.{AreListed, IsTableRow, is_table_row, is_index_row, is_view_row}
use Rattle.sqlite.specs.Effect.{Database, IsDatabase}
use Rattle.sqlstable.specs.Table.{no_schema, record_schema}

-- a database with the table lists it
pub lists_something : (db : Database) → db.schema ≡ record_schema → IsDatabase db → db.trees catalog_tree ≢ []
lists_something db is sound none =
    let tables = subst (λ (s : Schema). AllZip IsTableRow (filter is_table_row (db.trees catalog_tree)) s.tables) is
    sound.lists.listed.tables in
    subst (λ objects. AllZip IsTableRow (filter is_table_row objects) record_schema.tables) none tables

-- a row of the list is one of the three
none_listed : (objects : List Row) → AreListed objects no_schema → objects ≡ []
none_listed [] h = refl
none_listed (row ∷ rows) h = elim (cases_Bool (is_table_row row)) [
  | inl table ↦ absurd (rw table at h.tables)
  | inr other ↦ elim (cases_Bool (is_view_row row)) [
    | inl view ↦ absurd (rw view at h.views)
    | inr neither ↦
        let index : is_index_row row ≡ true = rw (other, neither) refl in
        absurd (rw index at h.indexes)
  ]
]

-- a database of nothing lists nothing
pub lists_nothing : (db : Database) → db.schema ≡ no_schema → IsDatabase db → db.trees catalog_tree ≡ []
lists_nothing db is sound = none_listed (db.trees catalog_tree) (subst (AreListed (db.trees catalog_tree)) is sound.lists.listed)
