-- What a statement that is refused leaves.
use Rattle.std.proofs.Common.{inl, inr, ℕ, List, false, Ok, Err, Result}
use Rattle.std.proofs.lemmas.Bool.{cases_Bool}
use Rattle.sqlite_value.specs.Order.{Row}
use Rattle.sqlite.specs.declared.error.Error.{Error}
use Rattle.sqlite.specs.State.{State, Executes, ExecutesIn, IsNotRun, shows_rows, Runs}
use Rattle.sqlite_schema.specs.declared.command.Returning.{Returning}
use Rattle.std.proofs.Common.{OnErr, IsTrue, Option}
use Rattle.sqlite_schema.specs.declared.command.Command.{Command}
use Rattle.sqlite_schema.specs.declared.command.Command.TheVariants.{Select, Insert, InsertOr, Update, Delete, CreateTable, CreateIndex}
use Rattle.sqlite_schema.specs.declared.command.Command.TheVariants.{DropTable, DropIndex, Begin, Commit, Rollback, Savepoint as Save}
use Rattle.sqlite_schema.specs.declared.command.Command.TheVariants.{Release, RollbackTo, Rows, Nothing, CreateView, DropView}
use Rattle.sqlstable.specs.States.{Leaves}

pub not_run : (old new : State) (sql : List ℕ) (params : Row) (e : Error) → IsNotRun old new sql params e → Leaves old new
unfolding IsNotRun
not_run old new sql params e (inl h) = inl h.1
not_run old new sql params e (inr h) = inr h.3

pub refused_keeps : (old new : State) (sql : List ℕ) (params : Row) (e : Error) → Executes sql params old new (Err e) → Leaves old new
unfolding ExecutesIn
refused_keeps old new sql params e (inl h) = not_run old new sql params e h
refused_keeps old new sql params e (inr h) = elim (cases_Bool (shows_rows false h.0)) [
  | inl shows ↦ inl (rw shows at h.2).1
  | inr runs ↦ elim (rw runs at h.2) [
    | inl x ↦ inl x.1
    | inr x ↦ inr x.3
  ]
]

pub refused_keeps_any : (old new : State) (sql : List ℕ) (params : Row) (r : Result ℕ Error) → Executes sql params old new r
    → OnErr r (Leaves old new)
refused_keeps_any old new sql params (Ok count) h = tt
refused_keeps_any old new sql params (Err e) h = refused_keeps old new sql params e h

kept_open : (old new : State) → Leaves old new → IsTrue new.is_open → IsTrue old.is_open
kept_open old new (inl h) now = h.0.was_open
kept_open old new (inr h) now = h.was_open now

-- a statement that ran found the connection open
runs_open : (old new : State) (returning : Option Returning) (command : Command) (text : List ℕ) (params : Row) (count : ℕ)
    → Runs old new returning command text params count → IsTrue new.is_open → IsTrue old.is_open
runs_open old new returning (Select q names) text params count h now = absurd h
runs_open old new returning (Insert at from) text params count h now = h.shown.was_open
runs_open old new returning (InsertOr at how from clauses) text params count h now = h.shown.was_open
runs_open old new returning (Update at q) text params count h now = h.shown.was_open
runs_open old new returning (Delete at q) text params count h now = h.shown.was_open
runs_open old new returning CreateTable text params count h now = h.shown.was_open
runs_open old new returning (CreateIndex at) text params count h now = h.shown.was_open
runs_open old new returning (DropTable at) text params count h now = h.shown.was_open
runs_open old new returning (DropIndex at) text params count h now = h.shown.was_open
runs_open old new returning Begin text params count h now = h.1.was_open
runs_open old new returning Commit text params count h now = h.1.was_open
runs_open old new returning Rollback text params count h now = h.1.was_open now
runs_open old new returning (Save name) text params count h now = h.0.0.was_open
runs_open old new returning (Release name) text params count h now = elim h.2 [ inl x ↦ x.1.0.was_open | inr x ↦ x.1.0.was_open ]
runs_open old new returning (RollbackTo name) text params count h now = h.2.2.was_open
runs_open old new returning (Rows values width names) text params count h now = h.0.0.was_open
runs_open old new returning Nothing text params count h now = h.0.0.was_open
runs_open old new returning CreateView text params count h now = h.shown.was_open
runs_open old new returning (DropView at) text params count h now = h.shown.was_open

pub executes_open : (old new : State) (sql : List ℕ) (params : Row) (r : Result ℕ Error) → Executes sql params old new r
    → IsTrue new.is_open → IsTrue old.is_open
unfolding ExecutesIn
executes_open old new sql params (Err e) h now = kept_open old new (refused_keeps old new sql params e h) now
executes_open old new sql params (Ok count) h now = elim (cases_Bool (shows_rows false h.0)) [
  | inl shows ↦ absurd (let e = (rw shows at h.2).0 in cc)
  | inr runs ↦ runs_open old new h.0.returning h.0.command _ _ count (rw runs at h.2) now
]
