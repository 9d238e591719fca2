-- Which frame answers which.
use Rattle.std.specs.Prelude.{◌≡◌, ℕ, List, slice_get, Some}
use Rattle.wire.specs.declared.frames.envelope.Envelope.{Envelope}
use Rattle.wire.specs.declared.frames.message.Message.{Message}
use Rattle.wire.specs.declared.frames.message.Message.TheVariants.{Prepare, Promise, Nack, Accept, Accepted}

-- a promise answers a prepare, a proposal a promise, and a vote the proposal of its slot; a refusal answers a prepare or a proposal
abbrev pub MessageAnswers : Message → Message → Type 0
MessageAnswers (Promise p) (Prepare ballot first) = Unit {0}
MessageAnswers (Accept v) (Promise p) = Unit {0}
MessageAnswers (Accepted v) (Accept asked) = v.slot ≡ asked.slot
MessageAnswers (Nack n) (Prepare ballot first) = Unit {0}
MessageAnswers (Nack n) (Accept asked) = Unit {0}
MessageAnswers other heard = ⊥

-- and it is sent by the one to whom the other was sent
pub record Answers (answer heard : Envelope) : Type 0 where
  pub by : heard.to ≡ answer.from
  pub message : MessageAnswers answer.message heard.message

-- of these frames the one at a place is answered by another
pub record IsAnswered (frames : List Envelope) (place answer : ℕ) : Type 0 where
  pub heard : Envelope
  pub is_heard : slice_get frames place ≡ Some heard
  pub said : Envelope
  pub is_said : slice_get frames answer ≡ Some said
  pub answers : Answers said heard
