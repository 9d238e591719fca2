-- What is known of all slots: by a row of commands from the first one on, and of the others as slots are kept.
use Rattle.std.specs.Prelude.{ℕ, ◌-◌, nat_le, List, Option, Some, None, slice_get, if◌then◌else◌}
use Rattle.sessions.specs.declared.command.Command.{Command}
use Rattle.learner.specs.Learning.{Heard, unheard}
use Rattle.learner.specs.Slots.{learnt_of, heard_of}
use Rattle.learner.specs.declared.known.Known.{Known}

-- what is read of a command that lies there, or else what is otherwise so
abbrev pub read_or : {B : Type 0} → (Command → B) → Option Command → B → B
read_or read None else' = else'
read_or read (Some c) else' = read c

-- the command of a slot in a row that begins at this one
abbrev pub row_from : ℕ → List Command → ℕ → Option Command
row_from first row s = if nat_le first s then slice_get row (s - first) else None

-- what is read of the commands of a row, and of every other slot what is otherwise so
abbrev pub in_row : {B : Type 0} → (Command → B) → (ℕ → Option Command) → (ℕ → B) → ℕ → B
in_row read row f s = read_or read (row s) (f s)

-- the command that is learnt at each slot
abbrev pub known_learnt : Known → ℕ → Option Command
known_learnt k = in_row Some (row_from k.from k.settled.items) (learnt_of k.others)

-- what was told of each slot that isn't learnt
abbrev pub known_heard : Known → ℕ → Heard
known_heard k = in_row (λ _. unheard) (row_from k.from k.settled.items) (heard_of k.others)
