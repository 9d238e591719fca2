-- Requests are handed on, as the lines of the clients that made them.
use Rattle.std.proofs.Common.{◌≡◌, ◌==◌, ◌&&◌, ℕ, Bool, List, [], ◌∷◌, ◌++◌, Option, Some, All, Contains, refl, sym, ap, ◌∙◌, subst, inr, get_or, arith}
use Rattle.std.proofs.Math.Seq.{get_or-append_seam}
use Rattle.std.proofs.lemmas.Bool.{cond_both}
use Rattle.std.specs.List.{HoldsAt}
use Rattle.std.proofs.lemmas.List.Elements.{All-append, All-cons, All-contains, All-contains_itself, All-head, All-nil, All-tail, All-weaker}
use Rattle.std.proofs.lemmas.List.Elements.{Contains-append_right}
use Rattle.stable.specs.declared.stable.Stable.{Ghosts}
use Rattle.life.specs.Telling.{nothing}
use Rattle.wire.specs.declared.frames.envelope.Envelope.{Envelope}
use Rattle.wire.specs.FrameSpelling.{spelling}
use Rattle.serving.specs.Outgoing.{IsArrival, IsFrameOf, IsPacketOf, IsRightlySent}
use Rattle.serving.specs.Requesting.{HandsOnFirst, RequestState}
use Rattle.serving.specs.Serving.{PassesOnly, ServerState, Serves}
use Rattle.serving.specs.Tapes.{Carried, Sent, Arrived, NothingCame, PollFailed}
use Rattle.serving.specs.Turns.{Past, handed_on, later, IsHandedOnLine, MayBeHandedOn, MayBeSaid, MayHappen, MayPass}
use Rattle.serving.proofs.Growing.{in_left, on_line_in}
use Rattle.serving.proofs.Holding.{holds_same}
use Rattle.serving.proofs.Leading.{life_stays, serves_by, serves_then}
use Rattle.serving.proofs.LettingOut.{serves_still}
use Rattle.serving.specs.Timings.{TimingState, leader_in, position_seen, renewed}
use Rattle.serving.proofs.Parts.{All-append_first, All-append_last}
use Rattle.serving.proofs.Passing.{only_then, only_weaker}

-- ---- to whom it goes
-- what came was sent to nobody
pub arrival_right : (leader : Option ℕ) (own : ℕ) (x : Carried) → IsArrival x → IsRightlySent leader own x
arrival_right leader own (Sent to bytes) h = absurd h
arrival_right leader own (Arrived bytes) h = tt
arrival_right leader own NothingCame h = tt
arrival_right leader own PollFailed h = tt

-- no frame begins with the mark
unmarked : (e : Envelope) (line : List ℕ) → spelling e ≡ handed_on line → ⊥
unmarked e line is =
    let first : 77 ≡ 70 = ap (λ (b : List ℕ). get_or b 0 0) is in
    absurd (omega (arith, first))

pub frame_right : (leader : Option ℕ) (own : ℕ) (frames : List Envelope) (x : Carried) → IsFrameOf frames x → IsRightlySent leader own x
frame_right leader own frames (Sent to bytes) h = λ line is. absurd (unmarked h.frame line (sym h.spelled.spelled ∙ is))
frame_right leader own frames (Arrived bytes) h = tt
frame_right leader own frames NothingCame h = tt
frame_right leader own frames PollFailed h = tt

pub packet_right : (leader : Option ℕ) (own : ℕ) (packet : List ℕ) (x : Carried) → IsPacketOf leader own packet x
    → IsRightlySent leader own x
packet_right leader own packet (Sent to bytes) h = λ line is. h.1
packet_right leader own packet (Arrived bytes) h = tt
packet_right leader own packet NothingCame h = tt
packet_right leader own packet PollFailed h = tt

-- one part after the other, in which it takes the same node for the one that leads
pub rightly_from : {N : Type 0} (tape : N → List Carried) (Tells : N → Type 0) (timing now : TimingState) (own number : ℕ) (a b c : N)
    → now ≡ timing → number ≡ own → PassesOnly tape Tells (IsRightlySent (leader_in timing) own) a b
    → PassesOnly tape Tells (IsRightlySent (leader_in now) number) b c → PassesOnly tape Tells (IsRightlySent (leader_in timing) own) a c
rightly_from tape Tells timing now own number a b c same is h k =
    only_then tape Tells (IsRightlySent (leader_in timing) own) a b c h
    (subst (λ (t : TimingState). PassesOnly tape Tells (IsRightlySent (leader_in t) own) b c) same
    (subst (λ (n : ℕ). PassesOnly tape Tells (IsRightlySent (leader_in now) n) b c) is k))

-- frames, and then requests
pub rightly_behind : {N : Type 0} (tape : N → List Carried) (Tells : N → Type 0) (frames : List Envelope) (timing now : TimingState)
    (own number : ℕ) (a b c : N) → now ≡ timing → number ≡ own → PassesOnly tape Tells (IsFrameOf frames) a b
    → PassesOnly tape Tells (IsRightlySent (leader_in timing) own) b c → PassesOnly tape Tells (IsRightlySent (leader_in now) number) a c
rightly_behind {N} tape Tells frames timing now own number a b c same is h k =
    let all : PassesOnly tape Tells (IsRightlySent (leader_in timing) own) a c =
    only_then tape Tells (IsRightlySent (leader_in timing) own) a b c
    (only_weaker tape Tells (IsFrameOf frames) (IsRightlySent (leader_in timing) own) (frame_right (leader_in timing) own frames) a b h) k in
    subst (λ (t : TimingState). PassesOnly tape Tells (IsRightlySent (leader_in t) number) a c) (sym same)
    (subst (λ (n : ℕ). PassesOnly tape Tells (IsRightlySent (leader_in timing) n) a c) (sym is) all)

-- whoever leads, leads where the node gets on
leader_still : (position : ℕ) (is_asked : Bool) (now : ℕ) (t : TimingState) → leader_in (position_seen position is_asked now t) ≡ leader_in t
leader_still position is_asked now t =
    cond_both ((position == t.position) && t.is_wanting) t (renewed now t) (λ u. leader_in u ≡ leader_in t) (λ is. refl) (λ is. refl)

-- what came, and then requests
pub rightly_since : {N : Type 0} (tape : N → List Carried) (Tells : N → Type 0) (timing new : TimingState) (position : ℕ)
    (is_asked : Bool) (now own : ℕ) (a b c : N) → new ≡ position_seen position is_asked now timing → PassesOnly tape Tells IsArrival a b
    → PassesOnly tape Tells (IsRightlySent (leader_in timing) own) b c → PassesOnly tape Tells (IsRightlySent (leader_in new) own) a c
rightly_since tape Tells timing new position is_asked now own a b c is h k =
    let same : leader_in new ≡ leader_in timing =
    ap (λ (t : TimingState). leader_in t) is ∙ leader_still position is_asked now timing in
    subst (λ (leader : Option ℕ). PassesOnly tape Tells (IsRightlySent leader own) a c) (sym same)
    (only_then tape Tells (IsRightlySent (leader_in timing) own) a b c
    (only_weaker tape Tells IsArrival (IsRightlySent (leader_in timing) own) (arrival_right (leader_in timing) own) a b h) k)

module _ {S : Type 0} (storages : Ghosts S) where
  -- a request counts as handed on, and its line stays its client's
  handed_now : (old : ServerState S) (requests : List RequestState) (now place : ℕ) → HandsOnFirst now place old.requests requests
      → Serves storages old [] [] (record old { requests = requests })
  handed_now old requests now place h =
      serves_still storages old (record old { requests = requests })
      (λ first past is.
      let P = MayBeHandedOn past.talk in
      let all : All P (h.before ++ h.request ∷ h.after) = subst (λ (xs : List RequestState). All P xs) h.was is.requests in
      let after : All P (h.request ∷ h.after) = All-append_last P h.before (h.request ∷ h.after) all in
      let again = record h.request { handed_on = Some now } in
      record {
        life = is.life;
        takes = is.takes;
        sends = is.sends;
        tells = is.tells;
        claims = is.claims;
        questions = is.questions;
        due = is.due;
        requests = subst (λ (xs : List RequestState). All P xs) (sym h.is)
            (All-append P h.before (again ∷ h.after) (All-append_first P h.before (h.request ∷ h.after) all)
            (All-cons P again h.after (All-head P h.request h.after after) (All-tail P h.request h.after after)));
      })

  -- its packet may pass
  packet_passes : (past : Past) (carried : List Carried) (leader : Option ℕ) (own : ℕ) (packet : List ℕ)
      → IsHandedOnLine past.talk packet → (x : Carried) → IsPacketOf leader own packet x → MayPass (later past [] nothing carried []) x
  packet_passes past carried leader own packet line (Sent to bytes) is =
      inr (on_line_in past.talk (past.talk ++ []) (in_left past.talk []) bytes
      (subst (λ (b : List ℕ). IsHandedOnLine past.talk b) (sym is.0) line))
  packet_passes past carried leader own packet line (Arrived bytes) h = absurd h
  packet_passes past carried leader own packet line NothingCame h = absurd h
  packet_passes past carried leader own packet line PollFailed h = absurd h

  -- to as many nodes as there are
  packets_pass : (s : ServerState S) (place : ℕ) (request : RequestState) (leader : Option ℕ) (own : ℕ) (packet : List ℕ)
      (carried : List Carried) → Contains s.requests request → packet ≡ request.packet → All (IsPacketOf leader own packet) carried
      → Serves storages s carried [] s
  packets_pass s place request leader own packet carried listed is all =
      serves_by storages s s [] nothing carried []
      (λ first past is'. life_stays storages first past.history past.handed s.life s.life refl is'.life)
      (λ first past is'. All-nil (MayHappen first.id (later past [] nothing carried [])))
      (λ first past is'.
      let mine : MayBeHandedOn past.talk request = All-contains (MayBeHandedOn past.talk) s.requests request is'.requests listed in
      let line : IsHandedOnLine past.talk packet = subst (λ (b : List ℕ). IsHandedOnLine past.talk b) (sym is) mine in
      All-weaker (IsPacketOf leader own packet) (MayPass (later past [] nothing carried []))
      (packet_passes past carried leader own packet line) carried all)
      (λ first past is'. All-nil (MayBeSaid storages first (later past [] nothing carried [])))
      (holds_same [] s s refl refl)

  -- the next request that is due goes out
  pub serves_handing_on : (old : ServerState S) (requests : List RequestState) (now place : ℕ) (leader : Option ℕ) (own : ℕ)
      (packet : List ℕ) (carried : List Carried) → HandsOnFirst now place old.requests requests
      → HoldsAt (λ (r : RequestState). packet ≡ r.packet) requests place → All (IsPacketOf leader own packet) carried
      → Serves storages old carried [] (record old { requests = requests })
  serves_handing_on old requests now place leader own packet carried h at all =
      let again = record h.request { handed_on = Some now } in
      let new = record old { requests = requests } in
      let here : get_or requests place again ≡ again =
      subst (λ (xs : List RequestState). get_or xs place again ≡ again) (sym h.is)
      (subst (λ (n : ℕ). get_or (h.before ++ again ∷ h.after) n again ≡ again) h.at_place (get_or-append_seam h.before again h.after again)) in
      let listed : Contains requests again =
      subst (λ (xs : List RequestState). Contains xs again) (sym h.is)
      (Contains-append_right h.before (again ∷ h.after) again (All-head (Contains (again ∷ h.after)) again h.after
      (All-contains_itself (again ∷ h.after)))) in
      let is : packet ≡ again.packet = subst (λ (r : RequestState). packet ≡ r.packet) here (at again) in
      serves_then storages old new new [] carried [] [] (handed_now old requests now place h)
      (packets_pass new place again leader own packet carried listed is all)
