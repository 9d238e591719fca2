-- Reading line by line.
use Rattle.std.proofs.Common.{◌≡◌, ℕ, List, [], ◌∷◌, ◌++◌, append_assoc, refl, sym, ◌∙◌, ap}
use Rattle.std.specs.List.{All}
use Rattle.std.proofs.lemmas.List.Elements.{All-cons, All-nil}
use Rattle.schedule.specs.Lines.{NumberedText, lines_of}
use Rattle.schedule.specs.Reading.{LinesAreRead, IsLineRefusal, IsLaterRefusal, IsUnreadFor}
use Rattle.schedule.specs.Schedules.{SpellEach, IsFaultless, IsFirstFault, IsNumberReached, IsParseRefusal, LineIsReached, later_line}
use Rattle.schedule.specs.Spelling.{Spells}
use Rattle.schedule.specs.Table.{IsNodesLine}
use Rattle.schedule.specs.declared.action.Action.{Action}
use Rattle.events.specs.declared.fault.WorldFault.TheVariants as world_fault
use Rattle.schedule.specs.Causes.{WhyUnread, memory}
use Rattle.schedule.specs.declared.replay_fault.ReplayCause.{ReplayCause}
use Rattle.schedule.specs.declared.replay_fault.ReplayCause.TheVariants.{Schedule, World}
use Rattle.schedule.specs.declared.replay_fault.ReplayFault.{ReplayFault}
use Rattle.schedule.specs.declared.schedule.ScheduleLine.{ScheduleLine}
use Rattle.schedule.proofs.Spelled.{spelled_faultless}

-- one line more
spelled_more : (n : ℕ) (before : List NumberedText) (read : List ScheduleLine) (line : NumberedText) (action : Action)
    → SpellEach n before read → Spells n line.text action
    → SpellEach n (before ++ line ∷ []) (read ++ record { number = line.number; action = action } ∷ [])
spelled_more n [] [] line action each spells = (refl, spells, tt)
spelled_more n [] (r ∷ rs) line action each spells = absurd each
spelled_more n (t ∷ ts) [] line action each spells = absurd each
spelled_more n (t ∷ ts) (r ∷ rs) line action each spells = (each.0, each.1, spelled_more n ts rs line action each.2 spells)

pub read_more : (n : ℕ) (lines left more : List NumberedText) (line : NumberedText) (read now : List ScheduleLine) (action : Action)
    → LinesAreRead n lines left read → left ≡ line ∷ more → Spells n line.text action
    → now ≡ read ++ record { number = line.number; action = action } ∷ [] → LinesAreRead n lines more now
read_more n lines left more line read now action r next spells added = record {
  before = r.before ++ line ∷ [];
  parts = r.parts ∙ ap (λ (xs : List NumberedText). r.before ++ xs) next ∙ sym (append_assoc r.before (line ∷ []) more);
  spelled = rw added (spelled_more n r.before read line action r.spelled spells);
}

-- what was read has no fault
pub read_faultless : (n : ℕ) (before : List NumberedText) (read : List ScheduleLine) → SpellEach n before read → All (IsFaultless n) before
read_faultless n [] read each = All-nil (IsFaultless n)
read_faultless n (t ∷ ts) [] each = absurd each
read_faultless n (t ∷ ts) (r ∷ rs) each =
    All-cons (IsFaultless n) t ts (spelled_faultless n t.text r.action each.1) (read_faultless n ts rs each.2)

pub stops_there : (n : ℕ) (lines left more : List NumberedText) (line : NumberedText) (read : List ScheduleLine)
    (fault : ReplayFault) → LinesAreRead n lines left read → left ≡ line ∷ more → IsLineRefusal n line fault
    → IsLaterRefusal n lines fault
stops_there n lines left more line read fault r next refusal = (
  line,
  record {
    before = r.before;
    after = more;
    parts = r.parts ∙ ap (λ (xs : List NumberedText). r.before ++ xs) next;
    faultless = read_faultless n r.before read r.spelled;
  },
  refusal,
)

pub stops_for_memory : (n : ℕ) (lines left more : List NumberedText) (line : NumberedText) (read : List ScheduleLine)
    (fault : ReplayFault) → LinesAreRead n lines left read → left ≡ line ∷ more → fault ≡ record { line = line.number; cause = memory }
    → IsLaterRefusal n lines fault
stops_for_memory n lines left more line read fault r next same =
    rw same (stops_there n lines left more line read (record { line = line.number; cause = memory }) r next
    (record { number = refl; why = tt }))

-- a later line's refusal is the file's
refused_at : (bytes : List ℕ) (n number : ℕ) (line : NumberedText) (cause : ReplayCause) → LineIsReached bytes n line
    → number ≡ line.number → IsUnreadFor n line.text cause
    → WhyUnread (IsFirstFault bytes number) (IsNumberReached bytes number) cause
refused_at bytes n number line (Schedule fault) reached same why = later_line n line reached same why
refused_at bytes n number line (World world_fault.Memory) reached same why = (n, line, same, reached)
refused_at bytes n number line (World other) reached same why = absurd why

pub refused_later : (bytes : List ℕ) (n : ℕ) (first : NumberedText) (others : List NumberedText) (fault : ReplayFault)
    → lines_of bytes ≡ first ∷ others → IsNodesLine first.text n → IsLaterRefusal n others fault → IsParseRefusal bytes fault
refused_later bytes n first others fault lines nodes (line, next, refusal) =
    refused_at bytes n fault.line line fault.cause
    (record { first = first; others = others; lines = lines; nodes_line = nodes; next = next }) refusal.number refusal.why
