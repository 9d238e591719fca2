-- Doing lines as they are read.
use Rattle.std.proofs.Common.{◌≡◌, ℕ, List, [], ◌∷◌, ◌++◌, append_assoc, refl, subst}
use Rattle.stable.specs.Script.{Script}
use Rattle.stable.specs.declared.stable.Stable.{Ghosts}
use Rattle.schedule.proofs.LinesLeft.{IsReadSoFar, all_read, begins, one_more_read, refusal_of, refused_behind, refused_there, schedule_of, spelled_to_the_end}
use Rattle.schedule.specs.Causes.{memory}
use Rattle.schedule.specs.Reading.{IsBegun, IsLaterRefusal, IsNextRefusal, IsReadAs, Unread}
use Rattle.schedule.specs.Schedules.{SpellEach}
use Rattle.schedule.specs.declared.replay_fault.ReplayFault.{ReplayFault}
use Rattle.schedule.specs.declared.schedule.ScheduleLine.{ScheduleLine}
use Rattle.world_model.specs.Flushing.{IsStart}
use Rattle.world_model.specs.Staying.{IsSafeOver}
use Rattle.world_model.specs.Worlds.{WorldState}
use Rattle.replay.proofs.LineByLine.{one_more_done}
use Rattle.replay.specs.AsRead.{AreDoneAsRead, EndsAsRead, undone, unread}
use Rattle.replay.specs.Runs.{ActionIsDone, IsReplay, Leads, ReplayEnds, RunIsStopped, not_begun, not_read, not_run, told_of}
use Rattle.replay.specs.LineByLine.{at_a_line}

module _ {S : Type 0} (storages : Ghosts (Script S)) where
  -- how far a run has come: what was read is done
  pub record IsDoneSoFar (start now : Unread) (old new : WorldState S) : Type 0 where
    pub lines : List ScheduleLine
    pub read : IsReadSoFar start now lines
    pub led : Leads storages lines old new

  pub none_done : (start : Unread) (w : WorldState S) → IsDoneSoFar start start w w
  none_done start w = record { lines = []; read = begins start; led = refl }

  -- one line more
  pub one_more_as_read : (start now next : Unread) (line : ScheduleLine) (old between new : WorldState S)
      → IsDoneSoFar start now old between → IsReadAs now line next → ActionIsDone storages line.action between new
      → IsDoneSoFar start next old new
  one_more_as_read start now next line old between new so_far is_read done = record {
    lines = so_far.lines ++ line ∷ [];
    read = one_more_read start now next so_far.lines line so_far.read is_read;
    led = one_more_done (ActionIsDone storages) so_far.lines line old between new so_far.led done;
  }

  -- none is left
  pub all_as_read : (start now : Unread) (old new : WorldState S) → IsDoneSoFar start now old new → now.left ≡ []
      → AreDoneAsRead storages start.nodes start.left old new
  all_as_read start now old new so_far none =
      record { lines = so_far.lines; spelled = all_read start now so_far.lines so_far.read none; led = so_far.led }

  -- the next is faulty
  pub next_is_refused : (start now next : Unread) (old new : WorldState S) (fault : ReplayFault) → IsDoneSoFar start now old new
      → IsNextRefusal now fault next → EndsAsRead storages start.nodes start.left old fault new
  next_is_refused start now next old new fault so_far refusal =
      unread (refused_there start now next so_far.lines fault so_far.read refusal)

  -- the next can't be done, and one behind it is faulty
  pub refused_behind_it : (start now next : Unread) (line : ScheduleLine) (old between new : WorldState S) (fault : ReplayFault)
      → IsDoneSoFar start now old between → IsReadAs now line next → IsLaterRefusal next.nodes next.left fault
      → EndsAsRead storages start.nodes start.left old fault new
  refused_behind_it start now next line old between new fault so_far is_read refused =
      unread (refused_behind start next (so_far.lines ++ line ∷ []) fault
      (one_more_read start now next so_far.lines line so_far.read is_read) refused)

  -- the next can't be done, and those behind it are faultless
  pub undone_there : (start now next : Unread) (line : ScheduleLine) (old between new : WorldState S) (fault : ReplayFault)
      → IsDoneSoFar start now old between → IsReadAs now line next → RunIsStopped storages line between fault new
      → ((rest : List ScheduleLine) × SpellEach next.nodes next.left rest) → EndsAsRead storages start.nodes start.left old fault new
  undone_there start now next line old between new fault so_far is_read stopped (rest, others) =
      undone ((so_far.lines ++ line ∷ []) ++ rest)
      (spelled_to_the_end start next (so_far.lines ++ line ∷ []) rest
      (one_more_read start now next so_far.lines line so_far.read is_read) others)
      (record {
        before = so_far.lines;
        line = line;
        after = rest;
        parts = append_assoc so_far.lines (line ∷ []) rest;
        reached = between;
        led = so_far.led;
        stopped = stopped;
      })

  -- ---- a schedule whose first line was read
  -- all its lines were done
  pub replayed_as_read : (bytes : List ℕ) (left : Unread) (nodes : ℕ) (start end : WorldState S) → IsBegun bytes left
      → nodes ≡ left.nodes → IsStart storages nodes start → AreDoneAsRead storages left.nodes left.left start end
      → IsSafeOver storages end → (replay : IsReplay storages bytes (told_of end)) × (replay.end ≡ end)
  replayed_as_read bytes left nodes start end begun same starts done safe = (
    record {
      plan = record { first = left.first; nodes = left.nodes; lines = done.lines };
      spelled = schedule_of bytes left done.lines begun done.spelled;
      start = start;
      starts = subst (λ (n : ℕ). IsStart storages n start) same starts;
      end = end;
      led = done.led;
      told = refl;
      safe = safe;
    },
    refl,
  )

  -- one of them is none, or was not done
  pub ends_as_read : (bytes : List ℕ) (left : Unread) (nodes : ℕ) (start end : WorldState S) (fault : ReplayFault) → IsBegun bytes left
      → nodes ≡ left.nodes → IsStart storages nodes start → EndsAsRead storages left.nodes left.left start fault end
      → IsSafeOver storages end → ReplayEnds storages bytes fault
  ends_as_read bytes left nodes start end fault begun same starts (unread refused) safe =
      not_read (refusal_of bytes left fault begun refused)
  ends_as_read bytes left nodes start end fault begun same starts (undone lines spelled ends) safe =
      not_run (record { first = left.first; nodes = left.nodes; lines = lines }) (schedule_of bytes left lines begun spelled) start end
      (subst (λ (n : ℕ). IsStart storages n start) same starts) (at_a_line ends) safe

  -- no world could be made for them
  pub none_begun : (bytes : List ℕ) (left : Unread) (fault : ReplayFault) → IsBegun bytes left
      → ((lines : List ScheduleLine) × SpellEach left.nodes left.left lines) → fault.cause ≡ memory → fault.line ≡ left.first
      → ReplayEnds storages bytes fault
  none_begun bytes left fault begun (lines, spelled) wanting first =
      not_begun (record { first = left.first; nodes = left.nodes; lines = lines }) (schedule_of bytes left lines begun spelled) wanting first

  -- and one of them is none
  pub none_read : (bytes : List ℕ) (left : Unread) (fault : ReplayFault) → IsBegun bytes left
      → IsLaterRefusal left.nodes left.left fault → ReplayEnds storages bytes fault
  none_read bytes left fault begun refused = not_read (refusal_of bytes left fault begun refused)
