-- What the statements do to the table.
use Rattle.std.proofs.Common.{◌≡◌, ◌⊎◌, inl, inr, ℕ, ℤ, List, [], ◌∷◌, Bool, true, false, cond, Option, Some, None, Ok, Err, Result, OnOk}
use Rattle.std.proofs.Common.{refl, sym, ap, subst, ◌∙◌}
use Rattle.sqlite_value.specs.declared.value.Value.{Value}
use Rattle.sqlite_value.specs.declared.value.Value.TheVariants.{Null, Int, Blob}
use Rattle.sqlite_value.specs.Order.{Row}
use Rattle.sqlite_sql.specs.Ops.{unary}
use Rattle.sqlite_schema.specs.declared.schema.Kind.TheVariants.{Integer}
use Rattle.sqlite_schema.specs.declared.command.Command.TheVariants.{CreateTable}
use Rattle.sqlite_schema.specs.declared.command.Conflict.TheVariants.{Abort}
use Rattle.sqlite_rules.specs.declared.error.Refusal.{Refusal}
use Rattle.sqlite_rules.specs.Cast.{cast}
use Rattle.sqlite_rules.specs.declared.error.Rowids.TheVariants.{Chosen, Given}
use Rattle.sqlite_schema.specs.declared.schema.Keys.{Keys}
use Rattle.sqlite_rules.specs.Edit.{put_all, are_fresh, with_rowid, edit_of, next_rowid}
use Rattle.sqlite_catalog.specs.Change.{created, next_tree}
use Rattle.sqlite_trees.specs.Tree.{Trees, put_row}
use Rattle.sqlite.specs.Does.{Tally, Does, lacks_sequence}
use Rattle.sqlite.specs.Rows.{Written, Task, TriesEach, Judged, count_of, Upserts, nothing, Puts}
use Rattle.sqlite.specs.declared.error.Error.{Error}
use Rattle.sqlite.specs.Listing.{understood}
use Rattle.sqlite.specs.Effect.{Database}
use Rattle.sqlite.specs.State.{State, mode_of, Writes, Executes}
use Rattle.sqlite.proofs.Callers.{runs_as, one_step, statement_of}
use Rattle.sqlstable.specs.Table.{record_table, record_schema, no_schema}
use Rattle.sqlstable.specs.Texts.{IsMaking, StatementPuts, put_command, put_clause}

either : (b : Bool) (x : Value) → cond b x x ≡ x
either true x = refl
either false x = refl

cast_null : cast Integer Null ≡ Null
unfolding unary
cast_null = either _ Null

pub cast_int : (n : ℤ) → cast Integer (Int n) ≡ Int n
unfolding unary
cast_int n = either _ (Int n)

pub went : {B E R : Type 0} {b : B} {Stops : E → Type 0} → ((stop : E) × Stops stop × (Ok b ≡ Err stop)) ⊎ R → R
went (inl stopped) = absurd (let e = stopped.2 in cc)
went (inr on) = on

went_on : {B : Type 0} {b : B} {E : Error} {F R : Type 0} → (F × ◌≡◌ {A = Result B (Option Error)} (Ok b) (Err (Some E))) ⊎ R → R
went_on (inl stopped) = absurd (let e = stopped.1 in cc)
went_on (inr on) = on

pub same_value : {B E : Type 0} {a b : B} → ◌≡◌ {A = Result B E} (Ok a) (Ok b) → a ≡ b
same_value e = cc

pub creates : (sql : List ℕ) (making : IsMaking sql) (old new : State) (r : Result ℕ Error) → old.now.schema ≡ no_schema
    → Executes sql [] old new r → OnOk r (new.now.schema ≡ record_schema) × OnOk r (new.now.trees 0 ≡ [])
creates sql making old new (Err e) has h = (tt, tt)
creates sql making old new (Ok count) has h =
    let w : Writes old new None CreateTable (statement_of sql (understood no_schema sql)) [] count =
    runs_as sql [] old new no_schema has CreateTable making.command making.bare count h in
    let all = went w.changed in
    let first = went all.1 in
    let made = first.1 in
    let both : Ok made.table ≡ Ok record_table = sym made.defined ∙ making.defined in
    let same : made.table ≡ record_table = cc in
    let schema : first.0.schema ≡ record_schema = made.is ∙ ap (λ s. created s made.table) has ∙ ap (created no_schema) same in
    let plain : lacks_sequence first.0.schema ≡ false = ap lacks_sequence schema in
    let now : new.now ≡ first.0 = ap (λ (p : Tally × Database). p.1) (same_value all.2) ∙ same_value (rw plain at first.2) in (
      ap (λ (d : Database). d.schema) now ∙ schema,
      ap (λ (d : Database). d.trees 0) now
          ∙ subst (λ s. first.0.trees (next_tree s) ≡ []) has made.empty,
    )

-- the row that a put writes
abbrev pub fresh_row : List Row → List ℕ → List ℕ → Row
fresh_row rows k v = Int (next_rowid rows) ∷ Blob k ∷ Blob v ∷ []

abbrev pub task_of : Option ℕ → State → List ℕ → List ℕ → Task
task_of limit old k v = record {
  limit = limit;
  keys = (mode_of old).keys;
  schema = record_schema;
  table = record_table;
  params = Blob k ∷ Blob v ∷ [];
}

judged_upserts : (task : Task) (new : Row) (db : Trees) (one : Written) (verdict : Option Refusal)
    → Judged task Abort (put_clause ∷ []) new db verdict (Ok one) → Upserts task Abort new db (put_clause ∷ []) (Ok one)
judged_upserts task new db one None h = h
judged_upserts task new db one (Some why) h = absurd (let e = h in cc)

-- a put is one row that goes in, or that takes the place of the rows with its key
pub puts : (sql : List ℕ) (put : StatementPuts sql) (old new : State) (k v : List ℕ) (count : ℕ) → old.now.schema ≡ record_schema
    → Executes sql (Blob k ∷ Blob v ∷ []) old new (Ok count)
    → (new.now.schema ≡ record_schema) × (one : Written) × (new.now.trees ≡ one.trees)
    × Upserts (task_of old.step_limit old k v) Abort (fresh_row (old.now.trees 0) k v) old.now.trees (put_clause ∷ []) (Ok one)
puts sql put old new k v count has h =
    let params = Blob k ∷ Blob v ∷ [] in
    let db = old.now.trees in
    let task = task_of old.step_limit old k v in
    let w = runs_as sql params old new record_schema has put_command put.command put.bare count h in
    let text = statement_of sql (understood record_schema sql) in
    let done = went (subst (λ s. Does old.step_limit (mode_of old) params (record old.now { schema = s }) text None put_command
    (Ok (w.tally, new.now))) has w.changed) in
    let now = ap (λ (p : Tally × Database). p.1) (same_value (went (went done.2).2).2) in
    let given = went done.1 in
    let counter = went given.2 in
    let tried = went counter.2 in
    let counts = went tried.2 in
    let when : given.0 ≡ (Null ∷ Blob k ∷ Blob v ∷ []) ∷ [] = given.1.1 in
    let ended : done.0.trees ≡ counts.0 = ap (λ (it : Written). it.trees) (same_value counts.2) in
    let trees : counts.0 ≡ tried.0.0.trees = same_value counts.1 in
    let each = subst (λ all. TriesEach task Abort (put_clause ∷ []) all (count_of counter.0) (nothing db) (Ok tried.0)) when tried.1 in
    let one = went each in
    let joins : tried.0.0.trees ≡ one.0.trees = ap (λ (p : Written × ℤ). p.0.trees) (same_value one.2) in
    let judged = went_on one.1 in
    let row = judged_upserts task _ db one.0 judged.0 judged.2 in (
      ap (λ (d : Database). d.schema) now,
      one.0,
      ap (λ (d : Database). d.trees) now ∙ ended ∙ trees
          ∙ joins,
      subst (λ x. Upserts task Abort (with_rowid Chosen (db 0) (x ∷ Blob k ∷ Blob v ∷ [])) db (put_clause ∷ []) (Ok one.0))
          cast_null row,
    )

-- a row that no row stands in the way of goes in
pub goes_in : (limit : Option ℕ) (keys : Keys) (params : Row) (id : ℤ) (k v : List ℕ) (db : Trees) (one : Written)
    → Puts (record { limit = limit; keys = keys; schema = record_schema; table = record_table; params = params })
    (Int id ∷ Blob k ∷ Blob v ∷ []) db (Ok one)
    → (one.trees 0 ≡ put_all (db 0) ((Int id ∷ Blob k ∷ Blob v ∷ []) ∷ []))
    × (are_fresh (db 0) ((Int id ∷ Blob k ∷ Blob v ∷ []) ∷ []) ≡ true)
goes_in limit keys params id k v db one h =
    let all = went h in
    let done = one_step record_schema keys db all.0 (edit_of db record_table [] Given 0 ((Int id ∷ Blob k ∷ Blob v ∷ []) ∷ [])) refl all.1
    in
    let ended : one.trees ≡ all.0 = ap (λ (it : Written). it.trees) (same_value all.2) in (
      ap (λ (t : Trees). t 0) ended ∙ done.rows ∙ ap (λ x. put_row (x ∷ Blob k ∷ Blob v ∷ []) (db 0)) (cast_int id),
      subst (λ x. are_fresh (db 0) ((x ∷ Blob k ∷ Blob v ∷ []) ∷ []) ≡ true) (cast_int id) done.fresh,
    )
