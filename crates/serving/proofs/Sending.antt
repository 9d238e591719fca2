-- All that is to be sent is sent, once and in order.
use Rattle.std.proofs.Common.{◌≡◌, ◌∙◌, ℕ, ◌+◌, ◌<◌, List, [], ◌∷◌, ◌++◌, length, take, get_or, Option, sym, ap, subst, append-nil, append_assoc}
use Rattle.std.proofs.lemmas.List.{take_more}
use Rattle.std.proofs.lemmas.List.Sums.{fold_more}
use Rattle.wire.specs.declared.frames.envelope.Envelope.{Envelope}
use Rattle.serving.specs.HandingOn.{IsHandedTo}
use Rattle.serving.specs.Outgoing.{AreFramesOf, ArePacketsOf, IsFrameOf}
use Rattle.serving.specs.Outgoing.AreFramesOf.{none, next}
use Rattle.serving.specs.Outgoing.ArePacketsOf.{sends_to, passes_by}
use Rattle.serving.specs.Serving.{Passes}
use Rattle.serving.specs.Tapes.{Carried, Sent}
use Rattle.serving.specs.Timings.{TimingState, all_own_seen, own_seen}
use Rattle.serving.proofs.Passing.{passes_none, passes_then}

-- ---- tapes
module _ {T A : Type 0} (tape : T → List A) (Tells : T → Type 0) where
  pub all_none : (AreSo : List A → Type 0) → (t : T) → AreSo [] → Passes tape Tells AreSo t t
  all_none AreSo t so = record { passed = []; are = so; passes = passes_none tape Tells t }

  -- by a call's clauses
  pub all_one_by : (AreSo : List A → Type 0) → (a b : T) (x : A) → (Tells b → tape b ≡ tape a ++ x ∷ []) → (Tells b → Tells a)
      → AreSo (x ∷ []) → Passes tape Tells AreSo a b
  all_one_by AreSo a b x is told so = record { passed = x ∷ []; are = so; passes = record { told = told; passed_ = is } }

  pub all_then : (P Q R : List A → Type 0) → ((xs ys : List A) → P xs → Q ys → R (xs ++ ys)) → (a b c : T) → Passes tape Tells P a b
      → Passes tape Tells Q b c → Passes tape Tells R a c
  all_then P Q R both a b c h k = record {
    passed = h.passed ++ k.passed;
    are = both h.passed k.passed h.are k.are;
    passes = passes_then tape Tells a b c h.passed k.passed h.passes k.passes;
  }

-- ---- frames
frames_then : (es fs : List Envelope) (xs ys : List Carried) → AreFramesOf es xs → AreFramesOf fs ys → AreFramesOf (es ++ fs) (xs ++ ys)
frames_then es _ xs _ h none =
    subst (λ (fs : List Envelope). AreFramesOf fs (xs ++ [])) (sym (append-nil es))
    (subst (λ (ys : List Carried). AreFramesOf es ys) (sym (append-nil xs)) h)
frames_then es _ xs _ h (next fs ys f y k is) =
    subst (λ (gs : List Envelope). AreFramesOf gs (xs ++ (ys ++ y ∷ []))) (append_assoc es fs (f ∷ []))
    (subst (λ (zs : List Carried). AreFramesOf ((es ++ fs) ++ f ∷ []) zs) (append_assoc xs ys (y ∷ []))
    (next (es ++ fs) (xs ++ ys) f y (frames_then es fs xs ys h k) is))

pub one_frame : (frame : Envelope) (x : Carried) → IsFrameOf (frame ∷ []) x → AreFramesOf (frame ∷ []) (x ∷ [])
one_frame frame x is = next [] [] frame x none is

pub frames_more : {N : Type 0} (tape : N → List Carried) (Tells : N → Type 0) (frames : List Envelope) (i : ℕ) (frame : Envelope)
    → i < length frames → frame ≡ get_or frames i frame → (a b c : N) → Passes tape Tells (AreFramesOf (take i frames)) a b
    → Passes tape Tells (AreFramesOf (frame ∷ [])) b c → Passes tape Tells (AreFramesOf (take (i + 1) frames)) a c
frames_more tape Tells frames i frame lt at a b c h k =
    let more : take i frames ++ frame ∷ [] ≡ take (i + 1) frames =
    sym (take_more frames i frame lt ∙ ap (λ (e : Envelope). take i frames ++ e ∷ []) (sym at)) in
    all_then tape Tells (AreFramesOf (take i frames)) (AreFramesOf (frame ∷ [])) (AreFramesOf (take (i + 1) frames))
    (λ xs ys are is. subst (λ (es : List Envelope). AreFramesOf es (xs ++ ys)) more
    (frames_then (take i frames) (frame ∷ []) xs ys are is)) a b c h k

-- ---- packets
module _ {N : Type 0} (tape : N → List Carried) (Tells : N → Type 0) (leader : Option ℕ) (own : ℕ) (packet : List ℕ) where
  pub packet_to : (node : ℕ) (a b c : N) → IsHandedTo leader own node → Passes tape Tells (ArePacketsOf leader own packet node) a b
      → (Tells c → tape c ≡ tape b ++ Sent node packet ∷ []) → (Tells c → Tells b)
      → Passes tape Tells (ArePacketsOf leader own packet (node + 1)) a c
  packet_to node a b c handed h is told = record {
    passed = h.passed ++ Sent node packet ∷ [];
    are = sends_to node h.passed h.are handed;
    passes = passes_then tape Tells a b c h.passed (Sent node packet ∷ []) h.passes (record { told = told; passed_ = is });
  }

  pub packet_past : (node : ℕ) (a b : N) → ¬ IsHandedTo leader own node → Passes tape Tells (ArePacketsOf leader own packet node) a b
      → Passes tape Tells (ArePacketsOf leader own packet (node + 1)) a b
  packet_past node a b not_handed h = record { passed = h.passed; are = passes_by node h.passed h.are not_handed; passes = h.passes }

-- ---- what they tell
pub own_seen_more : (frames : List Envelope) (i : ℕ) (frame : Envelope) (now : ℕ) (first knew knows : TimingState) → i < length frames
    → frame ≡ get_or frames i frame → knew ≡ all_own_seen (take i frames) now first → knows ≡ own_seen frame.message now knew
    → knows ≡ all_own_seen (take (i + 1) frames) now first
own_seen_more frames i frame now first knew knows lt at was is =
    let f : TimingState → Envelope → TimingState = λ t e. own_seen e.message now t in
    is ∙ ap (λ (t : TimingState). own_seen frame.message now t) was
    ∙ ap (λ (e : Envelope). own_seen e.message now (all_own_seen (take i frames) now first)) at
    ∙ sym (fold_more f first frames i frame lt)
