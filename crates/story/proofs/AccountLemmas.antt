-- What is written so far.
use Rattle.std.proofs.Common.{◌≡◌, ℕ, ◌+◌, ◌==◌, ◌<◌, ◌≤◌, List, [], ◌∷◌, ◌++◌, Bool, true, false, Option, Some, None, length, slice_get, take, get_or, if◌then◌else◌, sym, subst, arith}
use Rattle.std.proofs.lemmas.List.{take_more}
use Rattle.story.specs.Accounts.{AreWritten, and_frame, at_line, entry_lines, happening_at, item_lines, line_lines, next, place_after, sent_lines}
use Rattle.story.specs.Happenings.{Happening}
use Rattle.story.specs.Lines.{AddsLines, Saying, none, text_at}
use Rattle.story.specs.Saying.{count_said, item_said, line_said}
use Rattle.story.specs.declared.account.Manner.{Manner}
use Rattle.story.specs.declared.account.Place.{Place}
use Rattle.story.specs.declared.entries.Entry.{Entry}
use Rattle.story.specs.declared.entries.Entry.TheVariants.{Line, Step as AStep, Frame, Outcome, Learnt, Replied, Answered}
use Rattle.story.specs.declared.ledger.Ledger.{Ledger}
use Rattle.story.specs.declared.ledger.LineBegin.{LineBegin}
use Rattle.story.specs.declared.writer.Form.{Form}
use Rattle.story.proofs.LineLemmas.{lines_on}

-- the next entry has its lines behind those before it
pub next_written : (m : Manner) (l : Ledger) (texts : List (List ℕ)) (es : List Entry) (i : ℕ) (e : Entry) (place after : Place) (old new : List ℕ)
    → i < length es → e ≡ get_or es i e → AreWritten m l texts (take i es) place old → AddsLines old (entry_lines m l texts place e) new
    → after ≡ place_after m l place e → AreWritten m l texts (take (i + 1) es) after new
next_written m l texts es i e place after old new below read written adds is =
    let here : AreWritten m l texts (take i es ++ e ∷ []) (place_after m l place e) new = next (take i es) e place old new written adds in
    let more : take (i + 1) es ≡ take i es ++ e ∷ [] =
    subst (λ (x : Entry). take (i + 1) es ≡ take i es ++ x ∷ []) (sym read) (take_more es i e below) in
    subst (λ (p : Place). AreWritten m l texts (take (i + 1) es) p new) (sym is)
    (subst (λ (xs : List Entry). AreWritten m l texts xs (place_after m l place e) new) (sym more) here)

-- at most one frame more waits to be told
by_line : (place : Place) (o : Option LineBegin) → (at_line place o).sent ≤ place.sent + 1
by_line place None = omega arith
by_line place (Some l) = omega arith

by_frame : (b : Bool) (place : Place) (k : ℕ) → (if b then place else and_frame place k).sent ≤ place.sent + 1
by_frame true place k = omega arith
by_frame false place k = omega arith

one_more_sent : (m : Manner) (l : Ledger) (place : Place) (e : Entry) → (place_after m l place e).sent ≤ place.sent + 1
one_more_sent m l place (Line i) = by_line place (slice_get l.lines.items i)
one_more_sent m l place (AStep i) = omega arith
one_more_sent m l place (Frame k) = by_frame m.frames place k
one_more_sent m l place (Outcome i) = omega arith
one_more_sent m l place (Learnt i) = omega arith
one_more_sent m l place (Replied i) = omega arith
one_more_sent m l place (Answered i) = omega arith

pub few_sent : (m : Manner) (l : Ledger) (place after : Place) (e : Entry) (i : ℕ) → place.sent ≤ i
    → after ≡ place_after m l place e → after.sent ≤ i + 1
few_sent m l place after e i few is =
    let more = one_more_sent m l place e in subst (λ (p : Place). p.sent ≤ i + 1) (sym is) (omega (arith, more, few))

-- ---- frames that are told as a number
pub none_sent : (form : Form) (place : Place) (text : List ℕ) → place.sent ≡ 0 → AddsLines text (sent_lines form place) text
none_sent form place text e = rw e none

some_by : (b : Bool) (said : Saying) (old new : List ℕ) → b ≡ false → AddsLines old (said ∷ []) new
    → AddsLines old (if b then [] else said ∷ []) new
some_by true said old new e adds = absurd (cc)
some_by false said old new e adds = adds

pub some_sent : (form : Form) (place : Place) (old new : List ℕ) → (place.sent == 0) ≡ false
    → AddsLines old (count_said form place.line place.first place.sent ∷ []) new → AddsLines old (sent_lines form place) new
some_sent form place old new e adds =
    some_by (place.sent == 0) (count_said form place.line place.first place.sent) old new e adds

-- ---- what came of a step
pub item_told : (form : Form) (line : ℕ) (o : Option Happening) (h : Happening) (old new : List ℕ) → Some h ≡ o
    → AddsLines old (item_said form line h ∷ []) new → AddsLines old (item_lines form line o) new
item_told form line o h old new e adds = subst (λ (x : Option Happening). AddsLines old (item_lines form line x) new) e adds

pub no_item : (form : Form) (line : ℕ) (o : Option Happening) (text : List ℕ) → None ≡ o → AddsLines text (item_lines form line o) text
no_item form line o text e = subst (λ (x : Option Happening). AddsLines text (item_lines form line x) text) e none

-- ---- a line of the schedule
pub line_begun : (form : Form) (texts : List (List ℕ)) (place : Place) (o : Option LineBegin) (l : LineBegin) (old now new : List ℕ) → o ≡ Some l
    → AddsLines old (sent_lines form place) now → AddsLines now (line_said form l.number (text_at texts l.number) ∷ []) new
    → AddsLines old (sent_lines form place ++ line_lines form texts o) new
line_begun form texts place o l old now new at one two =
    subst (λ (x : Option LineBegin). AddsLines old (sent_lines form place ++ line_lines form texts x) new) (sym at)
    (lines_on old now (sent_lines form place) (line_said form l.number (text_at texts l.number) ∷ []) new one two)

-- ---- a frame that is to be told as a number
if_not : (b : Bool) (sayings : List Saying) (text : List ℕ) → b ≡ false → AddsLines text (if b then sayings else []) text
if_not true sayings text e = absurd (cc)
if_not false sayings text e = none

pub not_told : (m : Manner) (l : Ledger) (texts : List (List ℕ)) (place : Place) (e : Entry) (k : ℕ) (text : List ℕ) → e ≡ Frame k
    → m.frames ≡ false → AddsLines text (entry_lines m l texts place e) text
not_told m l texts place e k text is by_number =
    subst (λ (x : Entry). AddsLines text (entry_lines m l texts place x) text) (sym is)
    (if_not m.frames (item_lines m.form place.line (happening_at l place (Frame k))) text by_number)

-- ---- a step begins
pub step_not_told : (m : Manner) (l : Ledger) (texts : List (List ℕ)) (place : Place) (e : Entry) (k : ℕ) (text : List ℕ) → e ≡ AStep k
    → AddsLines text (entry_lines m l texts place e) text
step_not_told m l texts place e k text is = subst (λ (x : Entry). AddsLines text (entry_lines m l texts place x) text) (sym is) none
