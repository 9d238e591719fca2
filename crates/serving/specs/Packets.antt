-- What a process makes of a packet of another node.
use Rattle.std.specs.Prelude.{◌≡◌, ◌<◌, ◌≤◌, ◌⊎◌, ℕ, List, Result, Ok, Err}
use Rattle.sessions.specs.declared.submission.Submission.{Submission}
use Rattle.stable.specs.declared.stable.Stable.{Ghosts}
use Rattle.wire.specs.declared.frames.fault.WireFault.{WireFault}
use Rattle.wire.specs.declared.frames.envelope.Envelope.{Envelope}
use Rattle.node_model.specs.declared.input.Input.TheVariants as input
use Rattle.life.specs.Lives.{LifeState}
use Rattle.clients.specs.ClientLines.{IsClientLine}
use Rattle.clients.specs.declared.line.ClientLine.TheVariants as line
use Rattle.serving.specs.Knowing.{IsLastNumber}
use Rattle.serving.specs.Staying.{WasGiven}
use Rattle.serving.specs.Timings.{TimingState, seen}

-- by what its bytes are: the node takes a message, and the process learns from it; of anything else nothing comes
abbrev pub IsMessageTaken : {S : Type 0} → Ghosts S → ℕ → Result Envelope WireFault → LifeState S → TimingState → LifeState S → TimingState
    → Type 0
IsMessageTaken storages now (Ok e) old knew new knows =
    WasGiven storages old (input.Message e) new × (knows ≡ seen e.message now knew)
IsMessageTaken storages now (Err fault) old knew new knows = (new ≡ old) × (knows ≡ knew)

-- the request has counted here, and nothing is done; or it hasn't, and the node is given it
abbrev pub IsTakenOnce : {S : Type 0} → Ghosts S → Submission → LifeState S → LifeState S → Type 0
IsTakenOnce storages submission old new =
    ((last : ℕ) × IsLastNumber old.node submission.client last × (submission.number ≤ last) × (new ≡ old))
    ⊎ ((last : ℕ) × IsLastNumber old.node submission.client last × (last < submission.number)
    × WasGiven storages old (input.Submit submission.client submission.number submission.op) new)

abbrev pub SubmitsNothing : List ℕ → Type 0
SubmitsNothing text = (submission : Submission) → ¬ IsClientLine text (line.Submit submission)

-- a line that another process hands on
pub record IsTakenOver {S : Type 0} (storages : Ghosts S) (text : List ℕ) (old new : LifeState S) : Type 0 where
  pub submits : (submission : Submission) → IsClientLine text (line.Submit submission) → IsTakenOnce storages submission old new
  pub submits_nothing : SubmitsNothing text → new ≡ old
