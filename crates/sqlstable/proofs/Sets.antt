-- What the update of an upsert does.
use Rattle.std.proofs.Common.{◌≡◌, ℕ, List, [], ◌∷◌, ◌++◌, map, Bool, true, false, Option, Ok, refl, ap, subst, ◌∙◌, ◌&&◌, if◌then◌else◌}
use Rattle.std.specs.List.Sorted.{IsPermutation}
use Rattle.std.specs.Prelude.{flat_map}
use Rattle.sqlite_value.specs.declared.value.Value.{Value}
use Rattle.sqlite_value.specs.declared.value.Value.TheVariants.{Null, Blob}
use Rattle.sqlite_value.specs.declared.keys.Collation.TheVariants.{Binary}
use Rattle.sqlite_value.specs.Order.{Row, column}
use Rattle.sqlite_schema.specs.declared.schema.Keys.{Keys}
use Rattle.sqlite_schema.specs.declared.program.Program.{Program}
use Rattle.sqlite_schema.specs.Rules.{equal}
use Rattle.sqlite_sql.specs.Query.{IsAnswer, Output, output}
use Rattle.sqlite_sql.specs.Term.{Env, holds}
use Rattle.std.specs.List.{list_all}
use Rattle.sqlite_sql.specs.Program.{overlay}
use Rattle.sqlite_rules.specs.declared.error.Rowids.TheVariants.{Given}
use Rattle.sqlite_rules.specs.Edit.{edit_of, edited, are_fresh, left_by}
use Rattle.sqlite_rules.specs.Calls.{ids_of}
use Rattle.sqlite_trees.specs.Tree.{Trees}
use Rattle.sqlite.specs.Rows.{Written, Updates}
use Rattle.sqlite.proofs.Callers.{one_step}
use Rattle.sqlstable.specs.Table.{record_table, record_schema}
use Rattle.sqlstable.specs.Texts.{set_query}
use Rattle.sqlstable.proofs.Puts.{went, same_value}

-- the row with the new bytes, and whether a row is the one that is there
abbrev pub set_row : Value → Row → Output
set_row v r = ([], column r 0 ∷ column r 0 ∷ column r 1 ∷ v ∷ [])

abbrev pub outputs : Value → Value → List Row → List Output
outputs there v [] = []
outputs there v (r ∷ rs) = if equal Binary (column r 0) there then set_row v r ∷ outputs there v rs else outputs there v rs

abbrev pub set_program : Program
set_program = record { lets = []; body = set_query }

one_row : {X Y : Type 0} (f : X → Y) (b : Bool) (x : X) (rest : List X)
    → map f ((if b && true then x ∷ [] else []) ++ rest) ≡ (if b then f x ∷ map f rest else map f rest)
one_row f true x rest = refl
one_row f false x rest = refl

-- what WHERE lets through
abbrev matched : Row → List Row → List Env
matched given rows = flat_map (λ r. if list_all (holds (given ∷ r ∷ [])) set_query.filter then (given ∷ r ∷ []) ∷ [] else []) rows

shown_rows : (k v : List ℕ) (there id : Value) (rows : List Row)
    → map (output set_query) (matched (Blob k ∷ Blob v ∷ there ∷ id ∷ Blob k ∷ Blob v ∷ []) rows) ≡ outputs there (Blob v) rows
shown_rows k v there id [] = refl
shown_rows k v there id (r ∷ rs) =
    let given : Row = Blob k ∷ Blob v ∷ there ∷ id ∷ Blob k ∷ Blob v ∷ [] in
    one_row (output set_query) (equal Binary (column r 0) there) (given ∷ r ∷ []) (matched given rs)
    ∙ ap (λ more. if equal Binary (column r 0) there then set_row (Blob v) r ∷ more else more) (shown_rows k v there id rs)

pub sets : (limit : Option ℕ) (keys : Keys) (params : Row) (k v : List ℕ) (there id : Value) (db : Trees) (one : Written)
    → Updates (record { limit = limit; keys = keys; schema = record_schema; table = record_table; params = params }) set_program
    (Blob k ∷ Blob v ∷ there ∷ id ∷ Blob k ∷ Blob v ∷ []) db (Ok one)
    → (rows : List Row) × (ordered : List Output) × IsPermutation (outputs there (Blob v) (db 0)) ordered
    × (rows ≡ map (λ (o : Output). o.1) ordered)
    × (one.trees 0 ≡ edited db (edit_of db record_table (ids_of rows) Given 1 rows))
    × (are_fresh (left_by db (edit_of db record_table (ids_of rows) Given 1 rows))
    (edit_of db record_table (ids_of rows) Given 1 rows).news ≡ true)
sets limit keys params k v there id db one h =
    let all = went h in
    let done = went all.2 in
    let given : Row = Blob k ∷ Blob v ∷ there ∷ id ∷ Blob k ∷ Blob v ∷ [] in
    let a : IsAnswer set_query (overlay db []) given all.0 = all.1.answer Null in
    let ordered_rows : List Output = a.ordered in
    let step = one_step record_schema keys db done.0 (edit_of db record_table (ids_of all.0) Given 1 all.0) refl done.1 in
    let ended : one.trees ≡ done.0 = ap (λ (it : Written). it.trees) (same_value done.2) in
    let kept : a.kept ≡ map (output set_query) (matched given (db 0)) = a.distinct ∙ ap (map (output set_query)) a.grouped in
    let same : IsPermutation (outputs there (Blob v) (db 0)) a.ordered =
    subst (λ ks. IsPermutation ks a.ordered) (kept ∙ shown_rows k v there id (db 0)) a.same in
    (all.0, a.ordered, same, a.shown, ap (λ (t : Trees). t 0) ended ∙ step.rows, step.fresh)
