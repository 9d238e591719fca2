-- What a run was noted to be.
use Rattle.std.specs.Prelude.{◌≡◌, ℕ, ◌≤◌, Bool, List, length}
use Rattle.world.specs.Seen.{world_of}
use Rattle.world_model.specs.Waiting.{NoneWaitsBelow}
use Rattle.world_model.specs.Worlds.{WorldState}
use Rattle.story.specs.declared.ledger.Counts.{Counts}
use Rattle.story.specs.declared.ledger.Ledger.{Ledger}
use Rattle.story.specs.declared.entries.Entry.{Entry}
use Rattle.story.specs.Telling.{Tells}
use Rattle.story.specs.Counted.{AreWithin, BeginInOrder, NeverFall, counts_before}
use Rattle.story.specs.Passing.{ArePassages, AreSent}

-- how long the lists of a world are
abbrev pub counts_of : {S : Type 0} → WorldState S → Counts
counts_of w = record {
  frames = length w.frames;
  learnt = length w.learnt;
  replies = length w.replies;
  answers = length w.answers;
  outcomes = length w.outcomes;
}

-- how long the lists are behind the last step
abbrev pub counted : Ledger → Counts
counted l = counts_before l.steps.items (length l.steps.items)

-- a flag for each frame says whether it waits, and none does below this one
pub record AreSearched (waiting : List Bool) (frames lowest : ℕ) : Type 0 where
  pub none_below : NoneWaitsBelow waiting lowest
  pub within : lowest ≤ length waiting
  pub one_each : length waiting ≡ frames

-- lines begin in order, and no list gets shorter; nothing is counted that isn't there, and each frame that was counted has its passage,
-- which says when it was sent and came
pub record IsKept (l : Ledger) : Type 0 where
  pub lines : BeginInOrder l.lines.items (length l.steps.items)
  pub counts : NeverFall l.steps.items
  pub within : AreWithin (counted l) (counts_of (world_of l.world))
  pub passages : length l.passages.items ≡ (counted l).frames
  pub came : ArePassages l.steps.items l.passages.items
  pub sent : AreSent (world_of l.world).frames l.steps.items l.passages.items
  pub searched : AreSearched (world_of l.world).waiting (length (world_of l.world).frames) l.lowest

-- and all is counted that is there; there is a flag for each frame, too
pub record IsComplete (l : Ledger) : Type 0 where
  pub lines : BeginInOrder l.lines.items (length l.steps.items)
  pub counts : NeverFall l.steps.items
  pub ends : counted l ≡ counts_of (world_of l.world)
  pub passages : length l.passages.items ≡ length (world_of l.world).frames
  pub came : ArePassages l.steps.items l.passages.items
  pub sent : AreSent (world_of l.world).frames l.steps.items l.passages.items
  pub waiting : length (world_of l.world).waiting ≡ length (world_of l.world).frames

-- a run stands where it stood: its lines, its fault and its world are the same
pub record StandsStill (old new : Ledger) : Type 0 where
  pub lines : new.lines.items ≡ old.lines.items
  pub fault : new.fault ≡ old.fault
  pub world : world_of new.world ≡ world_of old.world

-- the entries tell of each line and each step of the run, and of each entry of the world's lists, once and in order, each at the step it came
-- of
pub record TellsRun (l : Ledger) (es : List Entry) : Type 0 where
  pub tells : Tells l.lines.items l.steps.items (world_of l.world).outcomes es (record {
    lines = length l.lines.items;
    steps = length l.steps.items;
    counts = counts_of (world_of l.world);
  })
