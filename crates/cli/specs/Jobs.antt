-- What a run of the program prints, and how one ends that prints nothing.
use Rattle.std.specs.Prelude.{◌≡◌, ◌≢◌, ◌⊎◌, ℕ, Bool, true, List, Option, Some, None, IfSome}
use Rattle.args.specs.Forms.{AskFor, NameFolder, NameSource}
use Rattle.args.specs.declared.job.Source.{Source}
use Rattle.args.specs.declared.job.Source.TheVariants.{Input, File}
use Rattle.args.specs.declared.job.Work.{Work}
use Rattle.args.specs.declared.job.Work.TheVariants.{Replay, Loopback, Check}
use Rattle.cli.specs.Outside.{OneEach, Outside}
use Rattle.commands.specs.Archives.{EndsKept, IsKept}
use Rattle.commands.specs.Works.{CheckStops, IsChecked, IsLooped, IsUnread, LoopStops, ReplayStops}
use Rattle.commands.specs.declared.archive.Archive.{Ghosts as Archives}
use Rattle.commands.specs.declared.failure.Failure.{Failure}
use Rattle.commands.specs.declared.failure.Failure.TheVariants.{Device, Memory}
use Rattle.replay.specs.Runs.{IsReplay}

-- over an archive of which it is known what its calls may do
module _ {A F : Type 0} (archive : Archives A F) where
  -- the source gives these bytes, and so is the archive then: the input gives all that it has left, where that is known; a FILE what
  -- the archive reads under its very name, once
  abbrev pub Gives : Source → Option (List ℕ) → A → List ℕ → A → Type 0
  Gives Input left before bytes after = IfSome left (λ all. bytes ≡ all) × (after ≡ before)
  Gives (File path) left before bytes after = archive.reads before path.now bytes after

  -- the source gives none: the input has failed, or memory was refused; or the archive can't read that FILE
  abbrev pub GivesNone : Source → (has_failed : Bool) → A → Failure → A → Type 0
  GivesNone Input has_failed before failure after = ((failure ≡ Memory) ⊎ (has_failed ≡ true)) × (after ≡ before)
  GivesNone (File path) has_failed before failure after = archive.read_fails before path.now failure after

  -- so a run ends that can't read what the words name
  pub record IsUnheard (words : List (List ℕ)) (has_failed : Bool) (before : A) (failure : Failure) (after : A) : Type 0 where
    pub source : Source
    pub named : NameSource words source
    pub gives_none : GivesNone source has_failed before failure after

-- over all that surrounds a run: storages in memory, an archive and the records that it hands out, and sockets
module _ {A F : Type 0} (outside : Outside A F) where
  -- the text is what the work makes of the bytes, and so is the archive then; a replay has its records in memory, or in the archive
  abbrev pub MakesIn : Work → Option (List ℕ) → List ℕ → A → List ℕ → A → Type 0
  MakesIn Replay None bytes before text after = IsReplay outside.storages bytes text × (after ≡ before)
  MakesIn Replay (Some folder) bytes before text after = IsKept outside.archive outside.records folder bytes before text after
  MakesIn Loopback folder bytes before text after = IsLooped OneEach outside.transport bytes text × (after ≡ before)
  MakesIn Check folder bytes before text after = IsChecked bytes text × (after ≡ before)

  -- so it ends that makes nothing, and so is the archive then; of a run that is out of memory no more is known, nor of one through
  -- sockets that fail
  abbrev pub EndsIn : Work → Option (List ℕ) → List ℕ → A → Failure → A → Type 0
  EndsIn Replay None bytes before failure after = (failure ≢ Memory → ReplayStops outside.storages bytes failure) × (after ≡ before)
  EndsIn Replay (Some folder) bytes before failure after = EndsKept outside.archive outside.records folder bytes before failure after
  EndsIn Loopback folder bytes before failure after =
      (failure ≢ Memory → failure ≢ Device → IsUnread bytes failure ⊎ LoopStops OneEach outside.transport bytes failure) × (after ≡ before)
  EndsIn Check folder bytes before failure after = (failure ≢ Memory → CheckStops bytes failure) × (after ≡ before)

  -- the text is what the work that the words ask for makes of the bytes that they name, with the records where they say
  pub record IsAnswer (words : List (List ℕ)) (left : Option (List ℕ)) (before : A) (text : List ℕ) (after : A) : Type 0 where
    pub work : Work
    pub folder : Option (List ℕ)
    pub asked : AskFor words work
    pub kept : NameFolder words work folder
    pub source : Source
    pub named : NameSource words source
    pub bytes : List ℕ
    pub read : A
    pub gives : Gives outside.archive source left before bytes read
    pub made : MakesIn work folder bytes read text after

  -- so that work ends on them
  pub record IsFaulty (words : List (List ℕ)) (left : Option (List ℕ)) (before : A) (failure : Failure) (after : A) : Type 0 where
    pub work : Work
    pub folder : Option (List ℕ)
    pub asked : AskFor words work
    pub kept : NameFolder words work folder
    pub source : Source
    pub named : NameSource words source
    pub bytes : List ℕ
    pub read : A
    pub gives : Gives outside.archive source left before bytes read
    pub ends : EndsIn work folder bytes read failure after

  -- so it ends; or what the words name can't be read; or memory was refused before that
  abbrev pub IsCutShort : List (List ℕ) → Option (List ℕ) → (has_failed : Bool) → A → Failure → A → Type 0
  IsCutShort words left has_failed before failure after = ((failure ≡ Memory) × (after ≡ before))
      ⊎ IsUnheard outside.archive words has_failed before failure after ⊎ IsFaulty words left before failure after
