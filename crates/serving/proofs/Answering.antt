-- A query that is due is answered, and what a life holds is let out, over a network and a desk.
use Rattle.std.proofs.Common.{◌≡◌, ◌≤◌, ℕ, List, [], ◌∷◌, ◌++◌, Option, Some, None, Result, Ok, Err, IsOk, IfSome, MatchOption, All, Contains, refl, sym, ap, ◌∙◌, subst}
use Rattle.std.proofs.lemmas.List.Elements.{All-nil, Contains-push}
use Rattle.stable.specs.declared.stable.Stable.{Ghosts}
use Rattle.wire.specs.declared.frames.envelope.Envelope.{Envelope}
use Rattle.store.specs.declared.query.Query.{Query}
use Rattle.node_model.specs.Nodes.{NodeAnswers, NodeState}
use Rattle.node_model.specs.Replicas.{ReplicaState, position}
use Rattle.world_model.specs.Lives.{Asked}
use Rattle.world_model.specs.declared.lists.Answered.{Answered}
use Rattle.world_model.specs.declared.lists.Replied.{Replied}
use Rattle.life.specs.Lives.{Does, GoesOn, LifeState}
use Rattle.life.specs.Telling.{nothing}
use Rattle.life.specs.declared.fault.LifeFault.{LifeFault}
use Rattle.std.specs.Global.{Vec}
use Rattle.std.specs.List.{HoldsAt}
use Rattle.serving.specs.Requesting.{HandsOnFirst, RequestState}
use Rattle.serving.specs.Waitings.{IsFirstRipe, WaitingState}
use Rattle.serving.specs.declared.waiting.Due.{Due}
use Rattle.serving.specs.declared.waiting.Due.TheVariants as due
use Rattle.serving.specs.declared.waiting.Question.{Question}
use Rattle.serving.specs.Outgoing.{IsFrameOf, IsPacketOf, IsReplyIn, IsTextTo, KeepsLess}
use Rattle.serving.specs.Knowing.{IsPosition}
use Rattle.serving.specs.Serving.{PassesOnly, ServerState, Serves, ServesClients, ServesNodes, ServesOver, asking}
use Rattle.serving.specs.Tapes.{Carried, Talk, Told, told_in}
use Rattle.serving.proofs.Coming.{none_passes, none_said}
use Rattle.serving.proofs.Holding.{holds_less, holds_same, less_itself}
use Rattle.serving.proofs.Ripening.{serves_losing}
use Rattle.serving.proofs.Leading.{serves_doing, serves_quiet, serves_then}
use Rattle.serving.proofs.HandingOn.{serves_handing_on}
use Rattle.serving.proofs.LettingOut.{less_due, serves_answering, serves_letting_out, serves_line, serves_ripening}
use Rattle.serving.proofs.Passing.{clients_quiet, clients_then, nodes_quiet, passes_as}

-- ---- what is held goes out
module _ {S N D : Type 0} (storages : Ghosts S) (carried : N → List Carried) (Carries : N → Type 0) (talk : D → List Talk)
    (Talks : D → Type 0) where
  pub over_letting_out : (old : ServerState S) (life : LifeState S) (sent new : ServerState S) (n m : N) (d e : D)
      (frames : List Envelope) (replies : List Replied) → life ≡ record old.life { held = nothing }
      → sent ≡ record old { life = life } → new.life ≡ sent.life → KeepsLess sent new → frames ≡ old.life.held.frames
      → replies ≡ old.life.held.replies → PassesOnly carried Carries (IsFrameOf frames) n m
      → PassesOnly talk Talks (IsReplyIn replies sent.waiting.claims) d e
      → ServesOver storages carried Carries talk Talks old n d new m e
  over_letting_out old life sent new n m d e frames replies is same stays less held_frames held_replies sends tells =
      let less_mid : KeepsLess (record old { life = life }) new = subst (λ (s : ServerState S). KeepsLess s new) same less in
      let less_old : KeepsLess old new = record {
        claims = less_mid.claims;
        questions = less_mid.questions;
        due = less_mid.due;
        requests = less_mid.requests;
      } in
      let told : PassesOnly talk Talks (IsReplyIn old.life.held.replies old.waiting.claims) d e =
      subst (λ (s : ServerState S). PassesOnly talk Talks (IsReplyIn old.life.held.replies s.waiting.claims) d e) same
      (subst (λ (rs : List Replied). PassesOnly talk Talks (IsReplyIn rs sent.waiting.claims) d e) held_replies tells) in
      let passed : PassesOnly carried Carries (IsFrameOf old.life.held.frames) n m =
      subst (λ (fs : List Envelope). PassesOnly carried Carries (IsFrameOf fs) n m) held_frames sends in
      record {
        sent = passed.passed;
        said = told.passed;
        serves = serves_letting_out storages old new passed.passed told.passed
            (stays ∙ ap (λ (s : ServerState S). s.life) same ∙ is) less_old passed.each told.each;
        carries = passed.passes;
        talks = told.passes;
      }

-- ---- positions
-- an answer tells of the position of its node
position_told : (up : Option ReplicaState) (told p : ℕ) → ¬ (up ≡ None) → IfSome up (λ m. told ≡ position m)
    → MatchOption up (p ≡ 0) (λ m. p ≡ position m) → told ≡ p
position_told None told p down here at = absurd (down refl)
position_told (Some m) told p down here at = here ∙ sym at

answered_position : {S : Type 0} (n : NodeState S) (query : Query) (told : ℕ × List ℕ) (p : ℕ) → NodeAnswers n query (Ok told)
    → IsPosition n p → told.0 ≡ p
answered_position n query told p answers at =
    position_told n.up told.0 p (λ down. let never = answers.down down in absurd (cc)) answers.position_ at

module _ {S : Type 0} (storages : Ghosts S) where
  -- ---- nothing is told
  -- the query that was due isn't answered
  pub serves_dropping : (old new : ServerState S) (question : Question) → new.life ≡ old.life → new.waiting ≡ old.waiting
      → new.requests ≡ old.requests → Serves storages (asking old question) [] [] new
  serves_dropping old new question life waiting requests =
      serves_quiet storages (asking old question) new [] [] life none_passes (none_said storages)
      (holds_less [] (asking old question) new (less_due storages old question new waiting requests))

  -- the node is asked
  pub serves_asked : (old : ServerState S) (life : LifeState S) (question : Question) (result : Result (Unit {0}) LifeFault)
      → Does storages old.life (Asked question.query) result life
      → Serves storages (asking old question) [] [] (asking (record old { life = life }) question)
  serves_asked old life question result does =
      serves_doing storages (Asked question.query) result (asking old question) (asking (record old { life = life }) question) [] [] does
      (λ answer first past is. tt) none_passes (none_said storages)
      (holds_same [] (asking old question) (asking (record old { life = life }) question) refl refl)

  -- and that is all
  pub serves_asked_only : (old : ServerState S) (life : LifeState S) (question : Question) (result : Result (Unit {0}) LifeFault)
      → Does storages old.life (Asked question.query) result life
      → Serves storages (asking old question) [] [] (record old { life = life })
  serves_asked_only old life question result does =
      serves_then storages (asking old question) (asking (record old { life = life }) question) (record old { life = life }) [] [] [] []
      (serves_asked old life question result does)
      (serves_dropping (record old { life = life }) (record old { life = life }) question refl refl refl)

  -- its life lets out what it holds, and none of it is told
  pub serves_silent : (old : ServerState S) (life after : LifeState S) (question : Question) (result : Result (Unit {0}) LifeFault)
      → Does storages old.life (Asked question.query) result life → after ≡ record life { held = nothing }
      → Serves storages (asking old question) [] [] (record old { life = after })
  serves_silent old life after question result does is =
      serves_then storages (asking old question) (record old { life = life }) (record old { life = after }) [] [] [] []
      (serves_asked_only old life question result does)
      (serves_letting_out storages (record old { life = life }) (record old { life = after }) [] [] is
      (record {
        claims = (less_itself old).claims;
        questions = (less_itself old).questions;
        due = (less_itself old).due;
        requests = (less_itself old).requests;
      })
      (All-nil (IsFrameOf life.held.frames)) (All-nil (IsReplyIn life.held.replies old.waiting.claims)))

  -- ---- the answer is told
  serves_told : (old : ServerState S) (life after : LifeState S) (question : Question) (told : ℕ × List ℕ) (p : ℕ)
      (answers : List Answered) (answered : Answered) (talk : List Talk)
      → GoesOn storages old.life (Asked question.query (Ok told)) life → after ≡ record life { held = nothing }
      → answers ≡ life.held.answers
      → ((front : List Answered) (x : Answered) → answers ≡ front ++ x ∷ [] → answered ≡ x)
      → IsPosition old.life.node p → question.from ≤ p → All (IsTextTo question.connection answered) talk
      → Serves storages (asking old question) [] talk (record old { life = after })
  serves_told old life after question told p answers answered talk goes is listed last at from texts =
      let mine : Answered =
      record { node = old.life.id; position = told.0; query = question.query; text = told.1 } in
      let held : life.held.answers ≡ old.life.held.answers ++ mine ∷ [] = ap (λ t. t.answers) goes.held in
      let here : answered ≡ mine = last old.life.held.answers mine (listed ∙ held) in
      let within : Contains life.held.answers answered =
      subst (λ (xs : List Answered). Contains xs answered) (sym held)
      (subst (λ (x : Answered). Contains (old.life.held.answers ++ mine ∷ []) x) (sym here)
      (Contains-push old.life.held.answers mine)) in
      let placed : told.0 ≡ p = answered_position old.life.node question.query told p goes.happens.0 at in
      let late : question.from ≤ answered.position =
      subst (λ (x : Answered). question.from ≤ x.position) (sym here) (subst (λ (n : ℕ). question.from ≤ n) (sym placed) from) in
      serves_then storages (asking old question) (asking (record old { life = life }) question) (record old { life = after }) [] [] [] talk
      (serves_asked old life question (Ok tt) (told, goes))
      (serves_answering storages (record old { life = life }) (record old { life = after }) question answered talk is refl refl within
      (ap (λ (x : Answered). x.query) here) late texts)

  pub clients_answering : {D : Type 0} (tape : D → List Talk) (Talks : D → Type 0) (old : ServerState S) (life after : LifeState S)
      (question : Question) (result : Result (Unit {0}) LifeFault) (p : ℕ) (answers : List Answered) (answered : Answered) (d e : D)
      → Does storages old.life (Asked question.query) result life → IsOk result → after ≡ record life { held = nothing }
      → answers ≡ life.held.answers
      → ((front : List Answered) (x : Answered) → answers ≡ front ++ x ∷ [] → answered ≡ x)
      → IsPosition old.life.node p → question.from ≤ p → PassesOnly tape Talks (IsTextTo question.connection answered) d e
      → ServesClients storages tape Talks (asking old question) d (record old { life = after }) e
  clients_answering tape Talks old life after question (Ok done) p answers answered d e does ok is listed last at from passes = record {
    said = passes.passed;
    serves = serves_told old life after question does.0 p answers answered passes.passed does.1 is listed last at from passes.each;
    talks = passes.passes;
  }
  clients_answering tape Talks old life after question (Err fault) p answers answered d e does ok is listed last at from passes =
      absurd (cc)

-- ---- one query or line after the other
module _ {S D : Type 0} (storages : Ghosts S) (tape : D → List Talk) (Talks : D → Type 0) where
  pub clients_ripening : (old new : ServerState S) (waiting : WaitingState) (p : ℕ) (question : Question) (d e : D)
      → waiting ≡ record old.waiting { questions = waiting.questions } → IsFirstRipe p old.waiting.questions waiting.questions question
      → ServesClients storages tape Talks (asking (record old { waiting = waiting }) question) d new e
      → ServesClients storages tape Talks old d new e
  clients_ripening old new waiting p question d e same ripe h =
      let first : Serves storages old [] [] (asking (record old { waiting = waiting }) question) =
      subst (λ (w : WaitingState). Serves storages old [] [] (asking (record old { waiting = w }) question)) (sym same)
      (serves_ripening storages old p waiting.questions question ripe) in
      clients_then storages tape Talks old (asking (record old { waiting = waiting }) question) new d d e
      (clients_quiet storages tape Talks old (asking (record old { waiting = waiting }) question) d first) h

  pub clients_due : (old new : ServerState S) (waiting : WaitingState) (what : Due) (question : Question) (d e : D)
      → old.waiting.due ≡ what ∷ waiting.due → waiting ≡ record old.waiting { due = waiting.due } → what ≡ due.Answer question
      → ServesClients storages tape Talks (asking (record old { waiting = waiting }) question) d new e
      → ServesClients storages tape Talks old d new e
  clients_due old new waiting what question d e next same is h =
      let one : asking (record old { waiting = waiting }) question
      ≡ record old { waiting = record old.waiting { due = due.Answer question ∷ waiting.due } } =
      ap (λ (w : WaitingState). record old { waiting = record w { due = due.Answer question ∷ waiting.due } }) same in
      let two : record old { waiting = record old.waiting { due = due.Answer question ∷ waiting.due } } ≡ old =
      ap (λ (ds : List Due). record old { waiting = record old.waiting { due = ds } })
      (sym (next ∙ ap (λ (w : Due). w ∷ waiting.due) is)) in
      subst (λ (s : ServerState S). ServesClients storages tape Talks s d new e) (one ∙ two) h

  -- a line that is due is told, or memory is wanting
  pub clients_line : {E : Type 0} (old : ServerState S) (waiting : WaitingState) (what : Due) (connection : ℕ) (text : Vec ℕ)
      (shown : List ℕ) (d e : D) (result : Result (Unit {0}) E) → old.waiting.due ≡ what ∷ waiting.due
      → waiting ≡ record old.waiting { due = waiting.due } → what ≡ due.Line connection text → shown ≡ text.items
      → (Talks e → tape e ≡ tape d ++ told_in connection shown result) → (Talks e → Talks d)
      → ServesClients storages tape Talks old d (record old { waiting = waiting }) e
  clients_line old waiting what connection text shown d e (Ok done) next same is spelled passed told = record {
    said = Told connection text.items ∷ [];
    serves = subst (λ (w : WaitingState). Serves storages old [] (Told connection text.items ∷ []) (record old { waiting = w })) (sym same)
        (serves_line storages old waiting.due connection text (next ∙ ap (λ (w : Due). w ∷ waiting.due) is));
    talks = passes_as tape Talks d e (Told connection shown ∷ []) (Told connection text.items ∷ []) passed told
        (ap (λ (b : List ℕ). Told connection b ∷ []) spelled);
  }
  clients_line old waiting what connection text shown d e (Err fault) next same is spelled passed told = record {
    said = [];
    serves = serves_losing storages old (record old { waiting = waiting }) what waiting.due refl next same refl;
    talks = passes_as tape Talks d e [] [] passed told refl;
  }

  -- nothing waits otherwise
  pub clients_still : (old : ServerState S) (waiting : WaitingState) (d : D) → waiting ≡ old.waiting
      → ServesClients storages tape Talks old d (record old { waiting = waiting }) d
  clients_still old waiting d same =
      clients_quiet storages tape Talks old (record old { waiting = waiting }) d
      (serves_quiet storages old (record old { waiting = waiting }) [] [] refl none_passes (none_said storages)
      (holds_same [] old (record old { waiting = waiting }) same refl))

module _ {S N : Type 0} (storages : Ghosts S) (carried : N → List Carried) (Carries : N → Type 0) where
  pub nodes_handing_on : (old : ServerState S) (requests : List RequestState) (now place : ℕ) (leader : Option ℕ) (own : ℕ)
      (packet : List ℕ) (n m : N) → HandsOnFirst now place old.requests requests
      → HoldsAt (λ (r : RequestState). packet ≡ r.packet) requests place
      → PassesOnly carried Carries (IsPacketOf leader own packet) n m
      → ServesNodes storages carried Carries old n (record old { requests = requests }) m
  nodes_handing_on old requests now place leader own packet n m h at sends = record {
    sent = sends.passed;
    serves = serves_handing_on storages old requests now place leader own packet sends.passed h at sends.each;
    carries = sends.passes;
  }

  pub nodes_still : (old : ServerState S) (requests : List RequestState) (n : N) → requests ≡ old.requests
      → ServesNodes storages carried Carries old n (record old { requests = requests }) n
  nodes_still old requests n same =
      nodes_quiet storages carried Carries old (record old { requests = requests }) n
      (serves_quiet storages old (record old { requests = requests }) [] [] refl none_passes (none_said storages)
      (holds_same [] old (record old { requests = requests }) refl same))
