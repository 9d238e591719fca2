-- One of a list, and where it stands.
use Rattle.std.proofs.Common.{◌≡◌, ℕ, ◌-◌, Bool, true, false, ◌&&◌, nat_eq, List, [], ◌∷◌, ◌++◌, length, slice_get, Some, All, Contains, refl, subst, arith}
use Rattle.std.proofs.lemmas.List.Elements.{All-cons, All-contains, All-nil, Contains-push}
use Rattle.std.proofs.lemmas.List.{length_push}
use Rattle.std.proofs.lemmas.Bool.{eqb-true}
use Rattle.sessions.proofs.Longer.{get-push_last}
use Rattle.sessions.specs.SessionReplies.{outcome_code}
use Rattle.clients.specs.AnswerLines.{answer_line}
use Rattle.clients.specs.declared.answer.ClientAnswer.TheVariants as answer
use Rattle.serving.specs.Claiming.{is_of}
use Rattle.wire.specs.declared.frames.envelope.Envelope.{Envelope}
use Rattle.world_model.specs.declared.lists.Replied.{Replied}
use Rattle.serving.specs.declared.claims.Claim.{Claim}
use Rattle.serving.specs.Outgoing.{IsFrameOf, IsReplyIn}
use Rattle.serving.specs.Tapes.{Carried, Sent, Arrived, NothingCame, NothingHeard, PollFailed, ReadingFailed, Talk, Heard, Went, Told}

contains_one : {A : Type 0} (x y : A) (xs : List A) → Contains xs x → Contains (x ∷ []) y → Contains xs y
contains_one x y xs h k = All-contains (Contains xs) (x ∷ []) y (All-cons (Contains xs) x [] h (All-nil (Contains xs))) k

-- a frame that goes out is one of those
pub frame_of_one : (frames : List Envelope) (frame : Envelope) → Contains frames frame → (x : Carried) → IsFrameOf (frame ∷ []) x
    → IsFrameOf frames x
frame_of_one frames frame listed (Sent to bytes) h = record {
  frame = h.frame;
  listed = contains_one frame h.frame frames listed h.listed;
  receiver = h.receiver;
  spelled = h.spelled;
}
frame_of_one frames frame listed (Arrived bytes) h = absurd h
frame_of_one frames frame listed NothingCame h = absurd h
frame_of_one frames frame listed PollFailed h = absurd h

-- a reply that goes out is one of those, to one of those who waited before
pub reply_of_one : (replies : List Replied) (replied : Replied) (claims olds : List Claim) → Contains replies replied
    → All (Contains olds) claims → (x : Talk) → IsReplyIn (replied ∷ []) claims x → IsReplyIn replies olds x
reply_of_one replies replied claims olds listed kept (Told connection text) h = record {
  replied = h.replied;
  listed = contains_one replied h.replied replies listed h.listed;
  claim = h.claim;
  waits = All-contains (Contains olds) claims h.claim kept h.waits;
  receiver = h.receiver;
  client = h.client;
  number = h.number;
  spelled = h.spelled;
}
reply_of_one replies replied claims olds listed kept (Heard connection text) h = absurd h
reply_of_one replies replied claims olds listed kept (Went connection) h = absurd h
reply_of_one replies replied claims olds listed kept (NothingHeard lines) h = absurd h
reply_of_one replies replied claims olds listed kept ReadingFailed h = absurd h

both_parts : (a b : Bool) → (a && b) ≡ true → (a ≡ true) × (b ≡ true)
both_parts true b h = (refl, h)
both_parts false b h = absurd (cc)

-- the reply is told to a connection that waits for it
pub settles : (replied : Replied) (claims : List Claim) (claim : Claim) (text : List ℕ) → Contains claims claim
    → is_of replied.client replied.number claim ≡ true
    → text ≡ answer_line (answer.Reply replied.client replied.number (outcome_code replied.reply) replied.position)
    → IsReplyIn (replied ∷ []) claims (Told claim.connection text)
settles replied claims claim text listed is spelled =
    let parts = both_parts (nat_eq claim.client replied.client) (nat_eq claim.number replied.number) is in
    record {
      replied = replied;
      listed = Contains-push [] replied;
      claim = claim;
      waits = listed;
      receiver = refl;
      client = eqb-true claim.client replied.client parts.0;
      number = eqb-true claim.number replied.number parts.1;
      spelled = spelled;
    }

-- the last of a list is the one that was pushed
pub last_is_pushed : {A : Type 0} (all front : List A) (x last : A) → slice_get all (length all - 1) ≡ Some last → all ≡ front ++ x ∷ []
    → last ≡ x
last_is_pushed {A} all front x last is pushed =
    let here : slice_get (front ++ x ∷ []) (length (front ++ x ∷ []) - 1) ≡ Some last =
    subst (λ (xs : List A). slice_get xs (length xs - 1) ≡ Some last) pushed is in
    let place : length (front ++ x ∷ []) - 1 ≡ length front = omega (arith, length_push front x) in
    let there : slice_get (front ++ x ∷ []) (length front) ≡ Some last =
    subst (λ (n : ℕ). slice_get (front ++ x ∷ []) n ≡ Some last) place here in
    let pushed_one = get-push_last front x in
    cc
