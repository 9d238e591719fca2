-- Storages, each seen as one record of what it holds and of what its calls may make of it.
use Rattle.std.specs.Prelude.{◌≡◌, ◌+◌, None, IsSome, unwrap_or}
use Rattle.stable.specs.Laws.{KeepsLaws}
use Rattle.stable.specs.Script.{Script, ScriptReads, Looks, ScriptReadFails, ScriptChanges, ScriptFails}
use Rattle.stable.specs.declared.stable.Stable.{Ghosts}

-- it keeps the laws
abbrev pub IsLawful : {S : Type 0} → Ghosts S → Type 0
IsLawful storage = KeepsLaws storage.contents storage.failures storage.IsHonest storage.HasStrayKey storage.IsSettled
    storage.reads storage.looks storage.changes storage.read_fails storage.fails

-- a scripted storage, by the storage inside
abbrev pub scripted : {S : Type 0} → Ghosts S → Ghosts (Script S)
scripted storage = record {
  contents = λ s. storage.contents s.inner;
  failures = λ s. storage.failures s.inner + unwrap_or s.fired 0;
  IsHonest = λ s. storage.IsHonest s.inner × IsSome s.fired;
  HasStrayKey = λ s. storage.HasStrayKey s.inner;
  IsSettled = λ s. s.unsure ≡ None;
  reads = ScriptReads storage.contents storage.IsHonest storage.reads;
  looks = Looks storage.contents storage.IsHonest storage.reads;
  changes = ScriptChanges storage.contents storage.IsHonest storage.reads storage.changes;
  read_fails = ScriptReadFails storage.contents storage.IsHonest storage.reads storage.read_fails;
  fails = ScriptFails storage.contents storage.IsHonest storage.reads storage.read_fails storage.changes storage.fails;
}
