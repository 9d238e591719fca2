-- A cluster: what passed through its transport.
use Rattle.std.proofs.Common.{◌≡◌, ◌⊎◌, inl, inr, ℕ, ◌+◌, ◌<◌, ◌≤◌, List, [], ◌∷◌, ◌++◌, length, map, drop, slice_get, Option, IfSome}
use Rattle.std.proofs.Common.{IfOk, IfErr, IsErrOf, Result, refl, sym, ap, subst, ◌∙◌, append_assoc, append-nil, arith}
use Rattle.std.proofs.lemmas.List.{length-append, map-append, drop_more, drop_all}
use Rattle.std.proofs.lemmas.Option.{slice_get_cases, slice_get_read}
use Rattle.std.proofs.Math.ListN.{get_or}
use Rattle.stable.specs.Script.{Script}
use Rattle.stable.specs.declared.stable.Stable.{Ghosts}
use Rattle.wire.specs.FrameSpelling.{spelling}
use Rattle.wire.specs.declared.frames.envelope.Envelope.{Envelope}
use Rattle.events.specs.declared.event.Event.{Event}
use Rattle.events.specs.declared.fault.WorldFault.{WorldFault}
use Rattle.events.specs.declared.fault.WorldFault.TheVariants as fault
use Rattle.world_model.specs.declared.round_end.RoundEnd.{RoundEnd}
use Rattle.world_model.specs.Rounds.{RoundEnds, IsPartOfRound}
use Rattle.world_model.specs.Worlds.{WorldState, Steps}
use Rattle.world_model.proofs.Progress.FramesGrow.{BeginWith, step_grows, round_grows}
use Rattle.cluster.specs.Clusters.{HasPassed, sending}
use Rattle.cluster.specs.Passages.{Passage, Sent}
use Rattle.cluster.specs.declared.transport.Transport.{Ghosts as Transports}

-- ---- what passes
module _ {T : Type 0} (transport : Transports T) where
  -- nothing passes
  pub nothing_passes : (t : T) → HasPassed transport t [] t
  nothing_passes t = record { told = λ tells. tells; tape = λ tells. sym (append-nil (transport.tape t)) }

  -- one thing after the other
  pub then_passes : (a b c : T) (p q : List Passage) → HasPassed transport a p b → HasPassed transport b q c
      → HasPassed transport a (p ++ q) c
  then_passes a b c p q one two = record {
    told = λ tells. one.told (two.told tells);
    tape = λ tells. two.tape tells ∙ ap (λ l. l ++ q) (one.tape (two.told tells)) ∙ append_assoc (transport.tape a) p q;
  }

  -- a frame of a list is given to the transport, as its bytes
  pub gives_one : (frames : List Envelope) (index : ℕ) (e : Envelope) (from to : ℕ) (bytes : List ℕ) (old new : T)
      → index < length frames → e ≡ get_or frames index e → from ≡ e.from → to ≡ e.to → bytes ≡ spelling e
      → (transport.Tells new → transport.tape new ≡ transport.tape old ++ Sent from to bytes ∷ [])
      → (transport.Tells new → transport.Tells old)
      → IfSome (slice_get frames index) (λ frame. HasPassed transport old (sending frame ∷ []) new)
  gives_one frames index e from to bytes old new within is sender receiver spelled tape told =
      let passage : Sent from to bytes ≡ sending e = rw (sender, receiver, spelled) refl in
      let passed : HasPassed transport old (sending e ∷ []) new =
      record { told = told; tape = λ tells. tape tells ∙ ap (λ (p : Passage). transport.tape old ++ p ∷ []) passage } in
      subst (λ (o : Option Envelope). IfSome o (λ frame. HasPassed transport old (sending frame ∷ []) new))
      (sym (slice_get_read frames (length frames) index e refl within is)) passed

-- ---- frames that are sent
-- of the frames from a number on those below another one are sent
pub record SendsTo {T : Type 0} (transport : Transports T) (frames : List Envelope) (first : ℕ) (old : T) (end : ℕ) (new : T) : Type 0 where
  pub done : List Envelope
  pub parts : done ++ drop end frames ≡ drop first frames
  pub passes : HasPassed transport old (map sending done) new

module _ {T : Type 0} (transport : Transports T) (frames : List Envelope) (first : ℕ) (old : T) where
  pub sends_none : SendsTo transport frames first old first old
  sends_none = record { done = []; parts = refl; passes = nothing_passes transport old }

  -- one more
  sends_more : (k : ℕ) (mid new : T) (e : Envelope) → drop k frames ≡ e ∷ drop (k + 1) frames → SendsTo transport frames first old k mid
      → HasPassed transport mid (sending e ∷ []) new → SendsTo transport frames first old (k + 1) new
  sends_more k mid new e next before passes = record {
    done = before.done ++ e ∷ [];
    parts = append_assoc before.done (e ∷ []) (drop (k + 1) frames) ∙ ap (λ (fs : List Envelope). before.done ++ fs) (sym next)
        ∙ before.parts;
    passes = subst (λ (l : List Passage). HasPassed transport old l new) (sym (map-append sending before.done (e ∷ [])))
        (then_passes transport old mid new (map sending before.done) (sending e ∷ []) before.passes passes);
  }

  pub sends_one : (k : ℕ) (mid new : T) → k < length frames → SendsTo transport frames first old k mid
      → IfSome (slice_get frames k) (λ e. HasPassed transport mid (sending e ∷ []) new) → SendsTo transport frames first old (k + 1) new
  sends_one k mid new within before h = elim (slice_get_cases frames k).1 [
    | inl p ↦ sends_more k mid new p.0
        (drop_more frames k p.0 within ∙ ap (λ (x : Envelope). x ∷ drop (k + 1) frames) p.3) before
        (subst (λ (o : Option Envelope). IfSome o (λ e. HasPassed transport mid (sending e ∷ []) new)) p.2 h)
    | inr p ↦ absurd (let past = p.0 in omega (arith, within, past))
  ]

  -- all
  pub sends_all : (k : ℕ) (new : T) → length frames ≤ k → SendsTo transport frames first old k new
      → HasPassed transport old (map sending (drop first frames)) new
  sends_all k new past h =
      subst (λ (fs : List Envelope). HasPassed transport old (map sending fs) new)
      (sym (append-nil h.done) ∙ ap (λ (fs : List Envelope). h.done ++ fs) (sym (drop_all k frames past)) ∙ h.parts) h.passes

-- ---- frames are never taken back
module _ {S : Type 0} where
  begun : (fs : List Envelope) (w : WorldState S) → w.frames ≡ fs → BeginWith fs w
  begun fs w e = record { more = []; all = e ∙ sym (append-nil fs) }

  pub stepped_frames : (storages : Ghosts (Script S)) (old new : WorldState S) (e : Event) → Steps storages old e new
      → length old.frames ≤ length new.frames
  stepped_frames storages old new e steps =
      let h = step_grows storages old.frames old e new steps (begun old.frames old refl) in
      let all = ap (λ (x : List Envelope). length x) h.all in
      omega (arith, all, length-append old.frames h.more)

  pub round_frames : (storages : Ghosts (Script S)) (old new : WorldState S) (node : ℕ) (members : List ℕ)
      (result : Result RoundEnd WorldFault)
      → IfOk result (λ end. RoundEnds storages old node members end new)
      → (IsErrOf result fault.NoSuchNode → new ≡ old)
      → (IsErrOf result fault.Memory → IsPartOfRound storages old node members new)
      → IfErr result (λ f. (f ≡ fault.NoSuchNode) ⊎ (f ≡ fault.Memory)) → length old.frames ≤ length new.frames
  round_frames storages old new node members result ends unchanged part faults =
      let h = round_grows storages old.frames old new node members result ends unchanged part faults (begun old.frames old refl) in
      let all = ap (λ (x : List Envelope). length x) h.all in
      omega (arith, all, length-append old.frames h.more)
