-- What a process knows follows from what passes, one part of a turn after the other.
use Rattle.std.proofs.Common.{◌≡◌, ◌∙◌, ◌==◌, ◌&&◌, ◌+◌, ℕ, nat_eq, nat_lt, cond, max, Bool, true, false, Option, Some, None, List, [], ◌∷◌, fold, Result, Ok, Err, All, Contains, refl, sym, ap}
use Rattle.std.proofs.lemmas.Bool.{cond_both, eqb-true}
use Rattle.std.proofs.lemmas.List.Elements.{All-cons, All-contains, All-head, All-nil, All-tail}
use Rattle.std.proofs.lemmas.List.Sums.{fold-append}
use Rattle.synod.specs.Ballots.{rank, rank_of}
use Rattle.synod.specs.declared.ballot.Ballot.{Ballot}
use Rattle.wire.specs.FrameReading.{frame_in}
use Rattle.wire.specs.FrameSpelling.{spelling}
use Rattle.wire.specs.declared.frames.envelope.Envelope.{Envelope}
use Rattle.wire.specs.declared.frames.fault.WireFault.{WireFault}
use Rattle.wire.specs.declared.frames.message.Message.{Message}
use Rattle.wire.specs.declared.frames.message.Message.TheVariants as message
use Rattle.wire.proofs.FrameLaws.{frame_only}
use Rattle.wire.proofs.FrameLengths.{frame_most}
use Rattle.life.specs.Lives.{LifeState}
use Rattle.stable.specs.declared.stable.Stable.{Ghosts}
use Rattle.serving.specs.Learning.{Follows, Known, by_frame, with_message, known_in, learn, with_own, with_ballot}
use Rattle.serving.specs.Outgoing.{AreFramesOf, IsFrameOf, IsPacketOf}
use Rattle.serving.specs.Outgoing.AreFramesOf.{none, next}
use Rattle.serving.specs.Packets.{IsMessageTaken}
use Rattle.serving.specs.Requesting.{is_marked}
use Rattle.serving.specs.Tapes.{Carried, Sent, Arrived, NothingCame, PollFailed}
use Rattle.serving.specs.declared.requests.TheConstants.{HANDED_ON}
use Rattle.serving.specs.Timings.{TimingState, all_own_seen, ballot_seen, own_seen, position_seen, renewed, seen}
use Rattle.serving.specs.Turns.{handed_on}

-- ---- what is seen is known
ballot_known : (ballot : Ballot) (now : ℕ) (t : TimingState) → known_in (ballot_seen ballot now t) ≡ with_ballot ballot (known_in t)
ballot_known ballot now t =
    cond_both (nat_lt (rank_of t.highest) (rank ballot)) (record (renewed now t) { highest = Some ballot; reach = None }) t
    (λ u. known_in u ≡ with_ballot ballot (known_in t))
    (λ is. rw is refl)
    (λ is. rw is refl)

pub seen_known : (m : Message) (now : ℕ) (t : TimingState) → known_in (seen m now t) ≡ with_message m (known_in t)
seen_known (message.Prepare ballot first) now t = ballot_known ballot now t
seen_known (message.Accept vote) now t = ap (λ (k : Known). record k { horizon = max k.horizon (vote.slot + 1) }) (ballot_known vote.ballot now t)
seen_known (message.Accepted vote) now t = refl
seen_known (message.Decided slot command) now t = refl
seen_known (message.Promise promise) now t = refl
seen_known (message.Nack nack) now t = refl
seen_known (message.Ask slot) now t = refl
seen_known (message.SnapAsk position number) now t = refl
seen_known (message.SnapPart part) now t = refl
seen_known (message.Behind floor) now t = refl

pub own_known : (m : Message) (now : ℕ) (t : TimingState) → known_in (own_seen m now t) ≡ with_own m (known_in t)
own_known (message.Prepare ballot first) now t = ballot_known ballot now t
own_known (message.Accept vote) now t = refl
own_known (message.Accepted vote) now t = refl
own_known (message.Decided slot command) now t = refl
own_known (message.Promise promise) now t = refl
own_known (message.Nack nack) now t = refl
own_known (message.Ask slot) now t = refl
own_known (message.SnapAsk position number) now t = refl
own_known (message.SnapPart part) now t = refl
own_known (message.Behind floor) now t = refl

-- the clock tells nothing
pub position_known : (position : ℕ) (is_asked : Bool) (now : ℕ) (t : TimingState)
    → known_in (position_seen position is_asked now t) ≡ known_in t
position_known position is_asked now t =
    cond_both ((position == t.position) && t.is_wanting) t (renewed now t) (λ u. known_in u ≡ known_in t) (λ is. refl) (λ is. refl)

-- ---- packets
-- what does not begin with the mark
mark_apart : (byte : ℕ) (line : List ℕ) → ((rest : List ℕ) → byte ∷ line ≡ handed_on rest → ⊥) → (b : Bool) → nat_eq byte HANDED_ON ≡ b
    → b ≡ false
mark_apart byte line never true is = absurd (never line (ap (λ (b : ℕ). b ∷ line) (eqb-true byte HANDED_ON is)))
mark_apart byte line never false is = refl

pub not_marked : (bytes : List ℕ) → ((line : List ℕ) → bytes ≡ handed_on line → ⊥) → is_marked bytes ≡ false
not_marked [] never = refl
not_marked (byte ∷ line) never = mark_apart byte line never (nat_eq byte HANDED_ON) refl

-- a frame does not
pub frame_not_marked : (bytes : List ℕ) (e : Envelope) → bytes ≡ spelling e → is_marked bytes ≡ false
frame_not_marked bytes e is = ap is_marked is

learn_by : (nodes : ℕ) (bytes : List ℕ) (k : Known) (read : Result Envelope WireFault) → is_marked bytes ≡ false → frame_in nodes bytes ≡ read
    → learn nodes k (Arrived bytes) ≡ by_frame with_message read k
learn_by nodes bytes k read not_marked is =
    ap (λ (b : Bool). cond b k (by_frame with_message (frame_in nodes bytes) k)) not_marked
    ∙ ap (λ (r : Result Envelope WireFault). by_frame with_message r k) is

-- a packet that came, and is no request that is handed on
pub learns_message : {S : Type 0} (storages : Ghosts S) (nodes now : ℕ) (bytes : List ℕ) (old new : LifeState S) (knew knows : TimingState)
    → is_marked bytes ≡ false → (read : Result Envelope WireFault) → frame_in nodes bytes ≡ read
    → IsMessageTaken storages now read old knew new knows → Follows nodes knew knows (Arrived bytes ∷ [])
learns_message storages nodes now bytes old new knew knows not_marked (Ok e) is taken =
    ap known_in taken.1 ∙ seen_known e.message now knew ∙ sym (learn_by nodes bytes (known_in knew) (Ok e) not_marked is)
learns_message storages nodes now bytes old new knew knows not_marked (Err fault) is taken =
    ap known_in taken.1 ∙ sym (learn_by nodes bytes (known_in knew) (Err fault) not_marked is)

-- one that hands on a request
pub learns_line : (nodes : ℕ) (line : List ℕ) (bytes : List ℕ) (knew knows : TimingState) → bytes ≡ handed_on line
    → known_in knows ≡ known_in knew → Follows nodes knew knows (Arrived bytes ∷ [])
learns_line nodes line bytes knew knows is same =
    same ∙ sym (ap (λ (b : List ℕ). learn nodes (known_in knew) (Arrived b)) is)

-- ---- frames that go out
frame_in_one : (frame e : Envelope) → Contains (frame ∷ []) e → e ≡ frame
frame_in_one frame e h = All-contains (λ x. x ≡ frame) (frame ∷ []) e (All-cons (λ x. x ≡ frame) frame [] refl (All-nil (λ x. x ≡ frame))) h

pub learns_sent : (nodes : ℕ) (frame : Envelope) (x : Carried) (k : Known) → IsFrameOf (frame ∷ []) x
    → learn nodes k x ≡ with_own frame.message k
learns_sent nodes frame (Sent to bytes) k h =
    let same : h.frame ≡ frame = frame_in_one frame h.frame h.listed in
    let read : frame_in 7 bytes ≡ Ok h.frame = frame_only 7 bytes h.frame h.spelled (frame_most 7 bytes h.frame h.spelled) in
    ap (λ (b : Bool). cond b k (by_frame with_own (frame_in 7 bytes) k)) (frame_not_marked bytes h.frame h.spelled.spelled)
    ∙ ap (λ (r : Result Envelope WireFault). by_frame with_own r k) read ∙ ap (λ (e : Envelope). with_own e.message k) same
learns_sent nodes frame (Arrived bytes) k h = absurd h
learns_sent nodes frame NothingCame k h = absurd h
learns_sent nodes frame PollFailed k h = absurd h

pub learns_all_sent : (nodes now : ℕ) (frames : List Envelope) (sent : List Carried) (t : TimingState) → AreFramesOf frames sent
    → Follows nodes t (all_own_seen frames now t) sent
learns_all_sent nodes now _ _ t none = refl
learns_all_sent nodes now _ _ t (next frames sent frame x are is) =
    let f : TimingState → Envelope → TimingState = λ u e. own_seen e.message now u in
    ap known_in (fold-append f t frames (frame ∷ [])) ∙ own_known frame.message now (all_own_seen frames now t)
    ∙ ap (with_own frame.message) (learns_all_sent nodes now frames sent t are)
    ∙ sym (learns_sent nodes frame x (fold (learn nodes) (known_in t) sent) is)
    ∙ sym (fold-append (learn nodes) (known_in t) sent (x ∷ []))

-- ---- requests that are handed on
pub learns_packets : (nodes : ℕ) (leader : Option ℕ) (own : ℕ) (packet : List ℕ) (k : Known) → is_marked packet ≡ true
    → (sent : List Carried) → All (IsPacketOf leader own packet) sent → fold (learn nodes) k sent ≡ k
learns_packets nodes leader own packet k marked [] h = refl
learns_packets nodes leader own packet k marked (Sent to bytes ∷ sent) h =
    let this = All-head (IsPacketOf leader own packet) (Sent to bytes) sent h in
    let mark : is_marked bytes ≡ true = ap is_marked this.0 ∙ marked in
    ap (λ (l : Known). fold (learn nodes) l sent) (ap (λ (b : Bool). cond b k (by_frame with_own (frame_in 7 bytes) k)) mark)
    ∙ learns_packets nodes leader own packet k marked sent (All-tail (IsPacketOf leader own packet) (Sent to bytes) sent h)
learns_packets nodes leader own packet k marked (Arrived bytes ∷ sent) h =
    absurd (All-head (IsPacketOf leader own packet) (Arrived bytes) sent h)
learns_packets nodes leader own packet k marked (NothingCame ∷ sent) h =
    absurd (All-head (IsPacketOf leader own packet) NothingCame sent h)
learns_packets nodes leader own packet k marked (PollFailed ∷ sent) h =
    absurd (All-head (IsPacketOf leader own packet) PollFailed sent h)
