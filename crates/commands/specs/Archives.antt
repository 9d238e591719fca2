-- What a replay whose records an archive keeps asks of it, and what comes of both.
use Rattle.std.specs.Prelude.{◌≡◌, ◌≢◌, ◌⊎◌, ℕ, Bool, true, false, List, length}
use Rattle.stable.specs.declared.stable.Stable.{Ghosts}
use Rattle.commands.specs.declared.archive.Archive.{Ghosts as Archives}
use Rattle.commands.specs.declared.failure.Failure.{Failure}
use Rattle.commands.specs.declared.failure.Failure.TheVariants.{Schedule, Device, Memory}
use Rattle.replay.specs.Runs.{IsRunOver}
use Rattle.schedule.specs.Schedules.{IsScheduleOf, Plan}
use Rattle.commands.specs.Works.{IsUnread, StopsOver}

-- over an archive of which it is known what its calls may do
module _ {A F : Type 0} (archive : Archives A F) where
  -- the bytes spell a schedule, of whose nodes the archive tells whether a run has left their records open
  pub record IsSeen (folder bytes : List ℕ) (before : A) : Type 0 where
    pub plan : Plan
    pub spelled : IsScheduleOf bytes plan
    pub was_left_open : Bool
    pub looked : A
    pub looks : archive.looks before folder plan.nodes was_left_open looked

  -- it can't tell, for want of memory
  pub record IsUnseen (folder bytes : List ℕ) (before : A) (failure : Failure) (after : A) : Type 0 where
    pub plan : Plan
    pub spelled : IsScheduleOf bytes plan
    pub fails : archive.look_fails before folder plan.nodes after
    pub cause : failure ≡ Memory

  -- the records of so many nodes are handed out
  pub record HandsOut (folder : List ℕ) (count : ℕ) (before : A) (stores : List F) (after : A) : Type 0 where
    pub one_each : length stores ≡ count
    pub opens : archive.opens before folder count stores after

  -- they aren't
  pub record HandsNone (folder : List ℕ) (count : ℕ) (before : A) (failure : Failure) (after : A) : Type 0 where
    pub fails : archive.open_fails before folder count failure after
    pub cause : (failure ≡ Device) ⊎ (failure ≡ Memory)

  -- what a run has left open is settled after it; what a crash had left so before it stays as it is, but where the run went on to a
  -- line that can't be done, and so over no records
  abbrev pub IsSettledAfter : (was_left_open : Bool) → Failure → List ℕ → ℕ → A → A → Type 0
  IsSettledAfter true (Schedule at) folder count opened after = archive.settles opened folder count after
  IsSettledAfter true other folder count opened after = after ≡ opened
  IsSettledAfter false failure folder count opened after = archive.settles opened folder count after

  -- none are handed out for the schedule, and there is no run; what was opened before that is settled all the same
  pub record IsUnopened (folder bytes : List ℕ) (before : A) (failure : Failure) (after : A) : Type 0 where
    pub seen : IsSeen folder bytes before
    pub refused : A
    pub hands_none : HandsNone folder seen.plan.nodes seen.looked failure refused
    pub settled : IsSettledAfter seen.was_left_open failure folder seen.plan.nodes refused after

-- over the records too that it hands out
module _ {A F : Type 0} (archive : Archives A F) (files : Ghosts F) where
  -- the text is the transcript of the schedule's run over what is handed out for it, and the archive is settled
  pub record IsKept (folder bytes : List ℕ) (before : A) (text : List ℕ) (after : A) : Type 0 where
    pub seen : IsSeen archive folder bytes before
    pub stores : List F
    pub opened : A
    pub hands_out : HandsOut archive folder seen.plan.nodes seen.looked stores opened
    pub runs : IsRunOver files stores seen.plan text
    pub settles : archive.settles opened folder seen.plan.nodes after

  -- what is handed out was run over, and no text was made; of want of memory no more is known
  pub record IsStopped (folder bytes : List ℕ) (before : A) (failure : Failure) (after : A) : Type 0 where
    pub seen : IsSeen archive folder bytes before
    pub stores : List F
    pub opened : A
    pub hands_out : HandsOut archive folder seen.plan.nodes seen.looked stores opened
    pub stops : failure ≢ Memory → StopsOver files stores seen.plan failure
    pub settled : IsSettledAfter archive seen.was_left_open failure folder seen.plan.nodes opened after

  -- so ends such a replay that makes no text; where the bytes spell no schedule, nothing is asked of the archive
  abbrev pub EndsKept : List ℕ → List ℕ → A → Failure → A → Type 0
  EndsKept folder bytes before failure after = ((failure ≢ Memory → IsUnread bytes failure) × (after ≡ before))
      ⊎ IsUnseen archive folder bytes before failure after ⊎ IsUnopened archive folder bytes before failure after
      ⊎ IsStopped folder bytes before failure after
