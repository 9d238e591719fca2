-- What is known of one slot, and what becomes of it with the news of a vote.
use Rattle.std.specs.Prelude.{◌≡◌, ℕ, Bool, true, false, Option, Some, None}
use Rattle.synod.specs.declared.ballot.Ballot.{Ballot}
use Rattle.sessions.specs.declared.command.Command.{Command}
use Rattle.learner.specs.Learning.{Heard, unheard, told_too, IsDecided}
use Rattle.learner.specs.Tallies.{told_in}
use Rattle.learner.specs.declared.place.Place.{Place}
use Rattle.learner.specs.declared.place.Place.TheVariants.{Told, Learnt}

-- the command that is learnt at a place of the log
abbrev pub place_learnt : Option Place → Option Command
place_learnt None = None
place_learnt (Some (Told tallies)) = None
place_learnt (Some (Learnt c)) = Some c

-- what was told of a place of the log that isn't learnt
abbrev pub place_heard : Option Place → Heard
place_heard None = unheard
place_heard (Some (Told tallies)) = told_in tallies.tallies.items
place_heard (Some (Learnt c)) = unheard

-- what was learnt at a slot and what was told of it, before and after the news of a vote
pub data Turns (nodes from : ℕ) (b : Ballot) (c : Command) (learnt : Option Command) (heard : Heard) (learns : Bool)
    (learnt_then : Option Command) (heard_then : Heard) : Type 0 where
  ignores : ((learnt ≡ None) → (heard b from ≡ None) → ⊥) → learns ≡ false → learnt_then ≡ learnt → heard_then ≡ heard
      → Turns nodes from b c learnt heard learns learnt_then heard_then
  keeps : learnt ≡ None → heard b from ≡ None → (IsDecided nodes heard b from c → ⊥) → learns ≡ false
      → learnt_then ≡ None → heard_then ≡ told_too heard b from c
      → Turns nodes from b c learnt heard learns learnt_then heard_then
  decides : learnt ≡ None → heard b from ≡ None → IsDecided nodes heard b from c → learns ≡ true
      → learnt_then ≡ Some c → heard_then ≡ unheard
      → Turns nodes from b c learnt heard learns learnt_then heard_then

-- the same, of a place
abbrev pub PlaceHears : ℕ → Option Place → ℕ → Ballot → Command → Bool → Option Place → Type 0
PlaceHears nodes old from b c learns new =
    Turns nodes from b c (place_learnt old) (place_heard old) learns (place_learnt new) (place_heard new)
