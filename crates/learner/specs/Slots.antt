-- What is known of each slot.
use Rattle.std.specs.Prelude.{◌≡◌, ℕ, Bool, Option}
use Rattle.std.specs.BTreeMap.{get}
use Rattle.std.specs.Ordering.{nat_cmp}
use Rattle.synod.specs.Records.{put}
use Rattle.synod.specs.declared.vote.Vote.{Vote}
use Rattle.sessions.specs.declared.command.Command.{Command}
use Rattle.learner.specs.Learning.{Heard}
use Rattle.learner.specs.Places.{place_learnt, place_heard, Turns}
use Rattle.learner.specs.declared.slots.Slots.{Slots}

-- the command that is learnt at each slot
abbrev pub learnt_of : Slots → ℕ → Option Command
learnt_of slots s = place_learnt (get nat_cmp slots.by_slot s)

-- what was told of each slot that isn't learnt
abbrev pub heard_of : Slots → ℕ → Heard
heard_of slots s = place_heard (get nat_cmp slots.by_slot s)

-- the news of a vote changes what is known of its slot, and nothing else
pub record SlotHears (nodes : ℕ) (learnt : ℕ → Option Command) (heard : ℕ → Heard) (from : ℕ) (v : Vote Command)
    (learns : Bool) (learnt_then : ℕ → Option Command) (heard_then : ℕ → Heard) : Type 0 where
  pub turns : Turns nodes from v.ballot v.command (learnt v.slot) (heard v.slot) learns (learnt_then v.slot) (heard_then v.slot)
  pub learnt_elsewhere : learnt_then ≡ put learnt v.slot (learnt_then v.slot)
  pub heard_elsewhere : heard_then ≡ put heard v.slot (heard_then v.slot)
