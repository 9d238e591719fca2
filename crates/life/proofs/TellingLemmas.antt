-- What a life has handed out and holds is what happened to its node tells.
use Rattle.std.proofs.Common.{◌≡◌, ℕ, ◌==◌, List, [], ◌∷◌, ◌++◌, Result, All, Contains, refl, sym, ap, ◌∙◌, subst, append-nil, append_assoc}
use Rattle.std.specs.List.{flat_map}
use Rattle.std.proofs.lemmas.List.{flat_map_more}
use Rattle.std.proofs.lemmas.List.Elements.{All-append, All-contains_itself, All-filter, All-head, All-nil, All-rest, All-same, All-weaker}
use Rattle.std.proofs.lemmas.List.Elements.{Contains-append_left, Contains-append_right}
use Rattle.stable.specs.declared.stable.Stable.{Ghosts}
use Rattle.wire.specs.FrameSpelling.{Fits}
use Rattle.wire.specs.declared.frames.envelope.Envelope.{Envelope}
use Rattle.node_model.specs.declared.fault.NodeFault.{NodeFault}
use Rattle.node_model.specs.declared.input.Input.TheVariants as input
use Rattle.node_model.specs.States.{NodeState}
use Rattle.node_model.specs.Outputs.{Response}
use Rattle.world_model.specs.Lives.{Happening, Loaded, Took, down_over, answered_at, learnt_at, replied_at, sent_at}
use Rattle.world_model.proofs.Weaving.Begun.{start_loads}
use Rattle.world_model.proofs.Weaving.Woven.{life_goes_on}
use Rattle.life.specs.Lives.{GoesOn, IsBorn, IsLifeOf, LifeState, TakesFirst, told_in}
use Rattle.life.specs.Telling.{ToldLists, joined, nothing, to_itself, to_others}

-- what one more happening tells joins what is held
held_more : {A : Type 0} (part : Happening → List A) (history : List Happening) (what : Happening) (handed old new : List A)
    → handed ++ old ≡ flat_map part history → new ≡ old ++ part what → handed ++ new ≡ flat_map part (history ++ what ∷ [])
held_more part history what handed old new was more =
    ap (λ (xs : List _). handed ++ xs) more ∙ sym (append_assoc handed old (part what))
    ∙ ap (λ (xs : List _). xs ++ part what) was ∙ flat_map_more part [] history what

-- the frames to itself that join those that wait were sent
own_more : (id : ℕ) (history : List Happening) (what : Happening) (old new : List Envelope)
    → All (Contains (flat_map (sent_at id) history)) old → new ≡ old ++ to_itself id (sent_at id what)
    → All (Contains (flat_map (sent_at id) (history ++ what ∷ []))) new
own_more id history what old new were more =
    let past = flat_map (sent_at id) history in
    let sends = sent_at id what in
    let Sent = Contains (past ++ sends) in
    let before : All Sent old = All-weaker (Contains past) Sent (λ e. Contains-append_left past sends e) old were in
    let just : All Sent sends =
    All-weaker (Contains sends) Sent (λ e. Contains-append_right past sends e) sends (All-contains_itself sends) in
    let all : All Sent new =
    All-same Sent new (old ++ to_itself id sends) more
    (All-append Sent old (to_itself id sends) before (All-filter (λ e. e.to == id) Sent sends just)) in
    subst (λ (sent : List Envelope). All (Contains sent) new) (flat_map_more (sent_at id) [] history what) all

module _ {S : Type 0} (storages : Ghosts S) where
  pub life_begins : (id nodes : ℕ) (storage : S) (l : LifeState S) → IsBorn storages id nodes storage l
      → (result : Result (Unit {0}) NodeFault) × IsLifeOf storages (down_over id nodes storage) (Loaded result ∷ []) nothing l
  life_begins id nodes storage l h =
      let loads = start_loads storages id nodes storage l.node h.begun in
      let Sent = Contains (flat_map (sent_at l.id) (Loaded loads.0 ∷ [])) in (
        loads.0,
        record {
          number = ap (λ (x : LifeState S). x.id) h.silent;
          life = (l.node, loads.1, refl);
          told = ap (λ (x : LifeState S). x.held) h.silent;
          own = All-same Sent l.own [] (ap (λ (x : LifeState S). x.own) h.silent) (All-nil Sent);
        },
      )

  pub told_goes_on : (first : NodeState S) (history : List Happening) (handed : ToldLists) (old new : LifeState S) (what : Happening)
      → IsLifeOf storages first history handed old → GoesOn storages old what new
      → IsLifeOf storages first (history ++ what ∷ []) handed new
  told_goes_on first history handed old new what h k =
      let frames = held_more (λ w. to_others old.id (sent_at old.id w)) history what handed.frames old.held.frames new.held.frames
      (ap (λ (t : ToldLists). t.frames) h.told) (ap (λ (t : ToldLists). t.frames) k.held) in
      let learnt = held_more (learnt_at old.id) history what handed.learnt old.held.learnt new.held.learnt
      (ap (λ (t : ToldLists). t.learnt) h.told) (ap (λ (t : ToldLists). t.learnt) k.held) in
      let replies = held_more (replied_at old.id) history what handed.replies old.held.replies new.held.replies
      (ap (λ (t : ToldLists). t.replies) h.told) (ap (λ (t : ToldLists). t.replies) k.held) in
      let answers = held_more (answered_at old.id) history what handed.answers old.held.answers new.held.answers
      (ap (λ (t : ToldLists). t.answers) h.told) (ap (λ (t : ToldLists). t.answers) k.held) in
      let told : joined handed new.held ≡ told_in old.id (history ++ what ∷ []) =
      λ i. record { frames = frames i; learnt = learnt i; replies = replies i; answers = answers i } in
      record {
        number = k.number ∙ h.number;
        life = life_goes_on storages first history old.node what new.node h.life k.happens;
        told = subst (λ (id : ℕ). joined handed new.held ≡ told_in id (history ++ what ∷ [])) (sym k.number) told;
        own = subst (λ (id : ℕ). All (Contains (flat_map (sent_at id) (history ++ what ∷ []))) new.own) (sym k.number)
            (own_more old.id history what old.own new.own h.own k.own);
      }

  pub told_takes_back : (first : NodeState S) (history : List Happening) (handed : ToldLists) (old new : LifeState S)
      (answer : Result Response NodeFault) → IsLifeOf storages first history handed old → TakesFirst storages old answer new
      → (e : Envelope) × Contains (flat_map (sent_at first.id) history) e × Fits 7 e
      × IsLifeOf storages first (history ++ Took (input.Message e) answer ∷ []) handed new
  told_takes_back first history handed old new answer h k =
      let Sent = Contains (flat_map (sent_at old.id) history) in
      let sent : Sent k.first = All-head Sent k.first k.rest (All-same Sent (k.first ∷ k.rest) old.own (sym k.waits) h.own) in
      let without : IsLifeOf storages first history handed (record old { own = k.rest }) = record {
        number = h.number;
        life = h.life;
        told = h.told;
        own = All-rest Sent k.first k.rest old.own k.waits h.own;
      } in (
        k.first,
        subst (λ (id : ℕ). Contains (flat_map (sent_at id) history) k.first) h.number sent,
        k.fits,
        told_goes_on first history handed (record old { own = k.rest }) new (Took (input.Message k.first) answer) without k.goes_on,
      )

  pub told_hands_out : (first : NodeState S) (history : List Happening) (handed : ToldLists) (old : LifeState S)
      → IsLifeOf storages first history handed old
      → IsLifeOf storages first history (joined handed old.held) (record old { held = nothing })
  told_hands_out first history handed old h = record {
    number = h.number;
    life = h.life;
    told = (λ i. record {
      frames = append-nil (handed.frames ++ old.held.frames) i;
      learnt = append-nil (handed.learnt ++ old.held.learnt) i;
      replies = append-nil (handed.replies ++ old.held.replies) i;
      answers = append-nil (handed.answers ++ old.held.answers) i;
    }) ∙ h.told;
    own = h.own;
  }
