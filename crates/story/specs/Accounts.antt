-- What is written of a run: the lines of each entry of the list of what is told.
use Rattle.std.specs.Prelude.{◌≡◌, ℕ, ◌+◌, ◌==◌, List, [], ◌∷◌, ◌++◌, Option, Some, None, length, slice_get, if◌then◌else◌, Bool}
use Rattle.schedule.specs.declared.replay_fault.ReplayFault.{ReplayFault}
use Rattle.world.specs.Seen.{world_of}
use Rattle.story.specs.Ledgers.{TellsRun}
use Rattle.story.specs.Happenings.{Happening, coming_at, happening, step_at}
use Rattle.story.specs.Lines.{AddsLines, Saying, text_at, texts_in}
use Rattle.story.specs.Ranges.{ranges_of}
use Rattle.story.specs.Saying.{count_said, fault_said, item_said, line_said}
use Rattle.story.specs.declared.account.Account.{Account}
use Rattle.story.specs.declared.account.Manner.{Manner}
use Rattle.story.specs.declared.account.Place.{Place}
use Rattle.story.specs.declared.entries.Entry.{Entry}
use Rattle.story.specs.declared.entries.Entry.TheVariants.{Line, Frame}
use Rattle.story.specs.declared.ledger.Ledger.{Ledger}
use Rattle.story.specs.declared.ledger.LineBegin.{LineBegin}
use Rattle.story.specs.declared.writer.Form.{Form}

-- ---- frames that are told as a number
-- nothing is told yet
abbrev pub start : Place
start = record { line = 0; step = 0; first = 0; sent = 0 }

-- a line of the schedule begins: nothing of it is told
abbrev pub at_line : Place → Option LineBegin → Place
at_line place None = place
at_line place (Some l) = record { line = l.number; step = place.step; first = 0; sent = 0 }

-- one frame more of the line is to be told as a number
abbrev pub and_frame : Place → ℕ → Place
and_frame place k = record place { first = if place.sent == 0 then k else place.first; sent = place.sent + 1 }

abbrev pub place_after : Manner → Ledger → Place → Entry → Place
place_after m l place (Line i) = at_line place (slice_get l.lines.items i)
place_after m l place (Frame k) = if m.frames then place else and_frame place k
place_after m l place other = record place { step = step_at place.step other }

-- ---- the lines of a text, by what they say
-- so many frames were sent, if any
abbrev pub sent_lines : Form → Place → List Saying
sent_lines form place = if place.sent == 0 then [] else count_said form place.line place.first place.sent ∷ []

-- a line of the schedule has its text in the file
abbrev pub line_lines : Form → List (List ℕ) → Option LineBegin → List Saying
line_lines form texts None = []
line_lines form texts (Some l) = line_said form l.number (text_at texts l.number) ∷ []

-- what happened by an entry has a line, at a step of this line of the schedule
abbrev pub item_lines : Form → ℕ → Option Happening → List Saying
item_lines form line None = []
item_lines form line (Some h) = item_said form line h ∷ []

-- what happened by an entry
abbrev pub happening_at : Ledger → Place → Entry → Option Happening
happening_at l place e = happening (world_of l.world) (coming_at l.steps.items place.step) e

-- an entry has a line, if something happened by it; a frame only where frames are told one by one. Where a line of the schedule begins, the
-- frames of the one before are told first
abbrev pub entry_lines : Manner → Ledger → List (List ℕ) → Place → Entry → List Saying
entry_lines m l texts place (Line i) = sent_lines m.form place ++ line_lines m.form texts (slice_get l.lines.items i)
entry_lines m l texts place (Frame k) = if m.frames then item_lines m.form place.line (happening_at l place (Frame k)) else []
entry_lines m l texts place other = item_lines m.form place.line (happening_at l place other)

-- the entries have their lines, one behind another; these are the frames that are still to be told
pub data AreWritten (m : Manner) (l : Ledger) (texts : List (List ℕ)) : List Entry → Place → List ℕ → Type 0 where
  none : AreWritten m l texts [] start []
  next : (es : List Entry) (e : Entry) (place : Place) (old new : List ℕ) → AreWritten m l texts es place old
      → AddsLines old (entry_lines m l texts place e) new → AreWritten m l texts (es ++ e ∷ []) (place_after m l place e) new

-- at the end the frames of the last line are told, and the fault that ended the run, if one did
abbrev pub fault_lines : Form → Option ReplayFault → ℕ → List Bool → List Saying
fault_lines form None frames waiting = []
fault_lines form (Some fault) frames waiting = fault_said form fault frames (ranges_of waiting)

abbrev pub end_lines : Manner → Ledger → Place → List Saying
end_lines m l place = sent_lines m.form place ++ fault_lines m.form l.fault (length (world_of l.world).frames) (world_of l.world).waiting

-- the text has the lines of each entry of the list of what is told, in order, behind these how the run ended, and nothing else
pub record IsWritten (bytes : List ℕ) (l : Ledger) (m : Manner) (text : List ℕ) : Type 0 where
  pub entries : List Entry
  pub tells : TellsRun l entries
  pub place : Place
  pub told : List ℕ
  pub written : AreWritten m l (texts_in bytes) entries place told
  pub ending : AddsLines told (end_lines m l place) text

-- the account of the run of the schedule that the bytes spell
pub record IsAccountOf (bytes : List ℕ) (l : Ledger) (m : Manner) (a : Account) : Type 0 where
  pub fault : a.fault ≡ l.fault
  pub text : IsWritten bytes l m a.text.items
