-- Which files belong to an example, and what comes of one.
use Rattle.std.specs.Prelude.{◌≡◌, ◌⊎◌, ℕ, List, codes}
use Rattle.stable.specs.Script.{Script}
use Rattle.stable.specs.declared.stable.Stable.{Ghosts}
use Rattle.commands.specs.Failures.{line_text}
use Rattle.commands.specs.declared.failure.Failure.{Failure}
use Rattle.replay.specs.Runs.{IsReplay}
use Rattle.commands.specs.Works.{CheckStops, IsChecked, ReplayStops}
use Rattle.conformance.specs.declared.outcome.Kind.{Kind}
use Rattle.conformance.specs.declared.outcome.Kind.TheVariants.{Schedule, Document}
use Rattle.conformance.specs.declared.outcome.Outcome.{Outcome}

-- the ending of a file that goes into a run
abbrev pub input_ending : Kind → List ℕ
input_ending Schedule = codes "schedule"
input_ending Document = codes "json"

-- the ending of the file with what is made of it
abbrev pub text_ending : Kind → List ℕ
text_ending Schedule = codes "transcript"
text_ending Document = codes "canonical"

-- over storages of which it is known what their calls may do
module _ {S : Type 0} (storages : Ghosts (Script S)) where
  -- the text is what is made of bytes of this kind
  abbrev pub Makes : Kind → List ℕ → List ℕ → Type 0
  Makes Schedule bytes text = IsReplay storages bytes text
  Makes Document bytes text = IsChecked bytes text

  -- so it ends on them, and nothing is made
  abbrev pub EndsWith : Kind → List ℕ → Failure → Type 0
  EndsWith Schedule bytes failure = ReplayStops storages bytes failure
  EndsWith Document bytes failure = CheckStops bytes failure

  -- this text is made of the bytes
  pub record IsPrinted (kind : Kind) (bytes : List ℕ) (outcome : Outcome) : Type 0 where
    pub ending : outcome.ending.now ≡ text_ending kind
    pub made : Makes kind bytes outcome.text.items

  -- a failure that has this line ends it on the bytes
  pub record OutcomeIsTold (kind : Kind) (bytes : List ℕ) (outcome : Outcome) : Type 0 where
    pub ending : outcome.ending.now ≡ codes "error"
    pub failure : Failure
    pub ends : EndsWith kind bytes failure
    pub line : outcome.text.items ≡ line_text failure

  -- what comes of the bytes
  abbrev pub IsOutcome : Kind → List ℕ → Outcome → Type 0
  IsOutcome kind bytes outcome = IsPrinted kind bytes outcome ⊎ OutcomeIsTold kind bytes outcome
