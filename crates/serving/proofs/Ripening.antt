-- After a turn no query that is held back may be answered, and where the whole log is executed no request waits.
use Rattle.std.proofs.Common.{◌≡◌, ◌+◌, ◌-◌, ◌<◌, ◌≤◌, ℕ, true, Option, Some, None, List, [], ◌∷◌, ◌++◌, MatchOption, Result, Ok, Err, All, count_by, length, refl, sym, ap, subst, ◌∙◌, arith}
use Rattle.std.specs.Global.{Vec}
use Rattle.std.proofs.lemmas.List.{length-append}
use Rattle.std.proofs.lemmas.List.Elements.{All-head, All-nil, All-push, All-tail}
use Rattle.std.proofs.lemmas.Bool.{cond_both, le-leb, leb-true}
use Rattle.std.proofs.Common.{append-nil}
use Rattle.synod.specs.declared.slot.TheConstants.{SLOTS}
use Rattle.sessions.specs.declared.submission.Submission.{Submission}
use Rattle.store.specs.declared.query.Query.{Query}
use Rattle.stable.specs.declared.stable.Stable.{Ghosts}
use Rattle.node_model.specs.Nodes.{NodeState}
use Rattle.node_model.specs.Replicas.{ReplicaState, is_full, position, refuses}
use Rattle.node_model.specs.declared.fault.NodeFault.{NodeFault}
use Rattle.node_model.specs.declared.fault.NodeFault.TheVariants as node_fault
use Rattle.node_model.specs.declared.input.Input.TheVariants as input
use Rattle.world_model.specs.Lives.{Asked}
use Rattle.life.specs.Lives.{Does, LifeState}
use Rattle.life.specs.Telling.{nothing}
use Rattle.life.specs.declared.fault.LifeFault.{LifeFault}
use Rattle.clients.specs.AnswerLines.{answer_line}
use Rattle.clients.specs.declared.answer.ClientAnswer.TheVariants as answer
use Rattle.serving.specs.declared.claims.Claim.{Claim}
use Rattle.serving.specs.declared.waiting.Due.{Due}
use Rattle.serving.specs.declared.waiting.Due.TheVariants as due
use Rattle.serving.specs.declared.waiting.Question.{Question}
use Rattle.serving.specs.Knowing.{IsPosition, Refuses, WasSo}
use Rattle.serving.specs.Owing.{KeepsEach, owed_to}
use Rattle.serving.specs.Refusals.{IsRefusal}
use Rattle.serving.specs.Requesting.{HandsOnFirst, RequestState}
use Rattle.serving.specs.Resting.{IsFull, NoneIsRipe}
use Rattle.serving.specs.Serving.{IsServing, ServerState, Serves}
use Rattle.serving.specs.Claiming.{is_for}
use Rattle.serving.specs.Turns.{HasAsked, IsPlain, MayBeDue, refused}
use Rattle.serving.specs.Waitings.{IsFirstRipe, IsHeldBack, WaitingState, is_told_to}
use Rattle.serving.proofs.Counts.{count_cons, count_push}
use Rattle.serving.proofs.KeepingEach.{keeps_by}
use Rattle.serving.proofs.LettingOut.{serves_still}

-- ---- queries that are held back
pub position_once : (up : Option ReplicaState) (a b : ℕ) → MatchOption up (a ≡ 0) (λ m. a ≡ position m)
    → MatchOption up (b ≡ 0) (λ m. b ≡ position m) → a ≡ b
position_once None a b here there = here ∙ sym there
position_once (Some m) a b here there = here ∙ sym there

pub none_ripe_at : {S : Type 0} (n : NodeState S) (p : ℕ) (questions : List Question) → IsPosition n p → All (IsHeldBack p) questions
    → NoneIsRipe n questions
none_ripe_at n p questions at all = record {
  held_back = λ q there. subst (λ (k : ℕ). All (IsHeldBack k) questions) (position_once n.up p q at there) all;
}

none_of_none : {S : Type 0} (n : NodeState S) (questions : List Question) → length questions ≡ 0 → NoneIsRipe n questions
none_of_none n [] is = record { held_back = λ q there. All-nil (IsHeldBack q) }
none_of_none n (question ∷ questions) is = absurd (omega (arith, is))

-- as many were told as there were
pub none_ripe_left : {S : Type 0} (n : NodeState S) (questions olds : List Question) (told : ℕ)
    → length questions + told ≡ length olds → length olds ≤ told → NoneIsRipe n questions
none_ripe_left n questions olds told is all = none_of_none n questions (omega (arith, is, all))

-- one more is held back
pub none_ripe_held : {S : Type 0} (n : NodeState S) (p : ℕ) (question : Question) (questions news : List Question) → IsPosition n p
    → p < question.from → news ≡ questions ++ question ∷ [] → NoneIsRipe n questions → NoneIsRipe n news
none_ripe_held n p question questions news at early is h =
    none_ripe_at n p news at
    (subst (λ (qs : List Question). All (IsHeldBack p) qs) (sym is)
    (All-push (IsHeldBack p) questions question (h.held_back p at) early))

pub none_ripe_same : {S : Type 0} (old new : NodeState S) (questions news : List Question) → new ≡ old → news ≡ questions
    → NoneIsRipe old questions → NoneIsRipe new news
none_ripe_same {S} old new questions news same is h =
    subst (λ (n : NodeState S). NoneIsRipe n news) (sym same) (subst (λ (qs : List Question). NoneIsRipe old qs) (sym is) h)

pub one_less : (p : ℕ) (questions others : List Question) (question : Question) → IsFirstRipe p questions others question
    → length others + 1 ≡ length questions
one_less p questions others question ripe =
    omega (
      arith,
      ap {B = ℕ} (λ (qs : List Question). length qs) ripe.split,
      ap {B = ℕ} (λ (qs : List Question). length qs) ripe.rest,
      length-append ripe.before (question ∷ ripe.after),
      length-append ripe.before ripe.after,
    )

-- ---- a node that is asked stays as it is
pub node_asked : {S : Type 0} (storages : Ghosts S) (old mid new : LifeState S) (query : Query) (result : Result (Unit {0}) LifeFault)
    → Does storages old (Asked query) result mid → IsRefusal result (Ok None) → new ≡ record mid { held = nothing }
    → new.node ≡ old.node
node_asked storages old mid new query (Ok done) does refusal is = ap (λ (l : LifeState _). l.node) is ∙ does.1.happens.2
node_asked storages old mid new query (Err fault) does refusal is = absurd (cc)

-- ---- the whole log is executed
full_where : {S : Type 0} (n : NodeState S) (p : ℕ) (up : Option ReplicaState) → n.up ≡ up
    → MatchOption up (p ≡ 0) (λ m. p ≡ position m) → SLOTS ≤ p → IsFull n
full_where n p None up at full =
    let here : p ≡ 0 = at in
    absurd (omega (arith, here, full))
full_where n p (Some m) up at full =
    let here : p ≡ position m = at in
    let all : SLOTS ≤ position m = omega (arith, here, full) in
    record { replica = m; up = up; full = le-leb SLOTS (position m) all }

pub full_at : {S : Type 0} (n : NodeState S) (p : ℕ) → IsPosition n p → SLOTS ≤ p → IsFull n
full_at n p at full = full_where n p n.up refl at full

pub not_full_below : {S : Type 0} (n : NodeState S) (p : ℕ) → IsPosition n p → p < SLOTS → IsFull n → ⊥
not_full_below n p at below full =
    let here : p ≡ position full.replica =
    subst (λ (o : Option ReplicaState). MatchOption o (p ≡ 0) (λ m. p ≡ position m)) full.up at in
    let past : SLOTS ≤ position full.replica = leb-true SLOTS (position full.replica) full.full in
    omega (arith, here, past, below)

refuses_full : (m : ReplicaState) (submission : Submission) → is_full m ≡ true
    → refuses m (input.Submit submission.client submission.number submission.op) ≡ Some node_fault.LogFull
refuses_full m submission full =
    cond_both (is_full m) (Some node_fault.LogFull) _ (λ (o : Option NodeFault). o ≡ Some node_fault.LogFull) (λ yes_full. refl)
    (λ not_full. absurd (cc))

-- who waits is to be told that the request is refused
pub serves_turning_away : {S : Type 0} (storages : Ghosts S) (old new : ServerState S) (claim : Claim) (rest : List Claim) (line : Vec ℕ)
    → IsFull old.life.node → new.life ≡ old.life → old.waiting.claims ≡ claim ∷ rest
    → line.items ≡ answer_line (answer.Refused claim.client claim.number 42)
    → new.waiting ≡ record old.waiting { claims = rest; due = old.waiting.due ++ due.Line claim.connection line ∷ [] }
    → new.requests ≡ old.requests → Serves storages old [] [] new
serves_turning_away {S} storages old new claim rest line full life next spelled waiting requests =
    serves_still storages old new
    (λ first past is.
    let all : All (HasAsked past.talk) (claim ∷ rest) = subst (λ (cs : List Claim). All (HasAsked past.talk) cs) next is.claims in
    let asked : HasAsked past.talk claim = All-head (HasAsked past.talk) claim rest all in
    let Was : NodeState S → Type 0 = WasSo storages first past.history in
    let was : Was old.life.node =
    record { before = past.history; after = []; parts = sym (append-nil past.history); leads = is.life.life } in
    let found : Refuses old.life.node asked.submission node_fault.LogFull =
    record { replica = full.replica; up = full.up; refused = refuses_full full.replica asked.submission full.full } in
    let plain : IsPlain Was past.talk claim.connection line.items =
    refused old.life.node asked.submission node_fault.LogFull was found asked.written
    (spelled ∙ ap (λ (c : ℕ). answer_line (answer.Refused c claim.number 42)) (sym asked.client)
    ∙ ap (λ (k : ℕ). answer_line (answer.Refused asked.submission.client k 42)) (sym asked.number)) in
    let more : All (MayBeDue Was past.talk) (old.waiting.due ++ due.Line claim.connection line ∷ []) =
    All-push (MayBeDue Was past.talk) old.waiting.due (due.Line claim.connection line) is.due plain in
    let now : ServerState S =
    record old { waiting = record old.waiting { claims = rest; due = old.waiting.due ++ due.Line claim.connection line ∷ [] } } in
    let same : now ≡ new = λ i. record { life = sym life i; waiting = sym waiting i; requests = sym requests i } in
    subst (λ (s : ServerState S). IsServing storages first past s) same
    (record {
      life = is.life;
      takes = is.takes;
      sends = is.sends;
      tells = is.tells;
      claims = All-tail (HasAsked past.talk) claim rest all;
      questions = is.questions;
      due = more;
      requests = is.requests;
    }))

-- who waited is forgotten, where memory is wanting
pub serves_forgetting : {S : Type 0} (storages : Ghosts S) (old new : ServerState S) (claim : Claim) (rest : List Claim)
    → new.life ≡ old.life → old.waiting.claims ≡ claim ∷ rest → new.waiting ≡ record old.waiting { claims = rest }
    → new.requests ≡ old.requests → Serves storages old [] [] new
serves_forgetting {S} storages old new claim rest life next waiting requests =
    serves_still storages old new
    (λ first past is.
    let all : All (HasAsked past.talk) (claim ∷ rest) = subst (λ (cs : List Claim). All (HasAsked past.talk) cs) next is.claims in
    let now : ServerState S = record old { waiting = record old.waiting { claims = rest } } in
    let same : now ≡ new = λ i. record { life = sym life i; waiting = sym waiting i; requests = sym requests i } in
    subst (λ (s : ServerState S). IsServing storages first past s) same
    (record {
      life = is.life;
      takes = is.takes;
      sends = is.sends;
      tells = is.tells;
      claims = All-tail (HasAsked past.talk) claim rest all;
      questions = is.questions;
      due = is.due;
      requests = is.requests;
    }))

-- what was due is lost, where memory is wanting
pub serves_losing : {S : Type 0} (storages : Ghosts S) (old new : ServerState S) (what : Due) (rest : List Due)
    → new.life ≡ old.life → old.waiting.due ≡ what ∷ rest → new.waiting ≡ record old.waiting { due = rest }
    → new.requests ≡ old.requests → Serves storages old [] [] new
serves_losing {S} storages old new what rest life next waiting requests =
    serves_still storages old new
    (λ first past is.
    let P = MayBeDue (WasSo storages first past.history) past.talk in
    let all : All P (what ∷ rest) = subst (λ (ds : List Due). All P ds) next is.due in
    let now : ServerState S = record old { waiting = record old.waiting { due = rest } } in
    let same : now ≡ new = λ i. record { life = sym life i; waiting = sym waiting i; requests = sym requests i } in
    subst (λ (s : ServerState S). IsServing storages first past s) same
    (record {
      life = is.life;
      takes = is.takes;
      sends = is.sends;
      tells = is.tells;
      claims = is.claims;
      questions = is.questions;
      due = All-tail P what rest all;
      requests = is.requests;
    }))

-- no request waits any more
pub serves_clearing : {S : Type 0} (storages : Ghosts S) (old new : ServerState S) → new.life ≡ old.life → new.waiting ≡ old.waiting
    → new.requests ≡ [] → Serves storages old [] [] new
serves_clearing {S} storages old new life waiting requests =
    serves_still storages old new
    (λ first past is.
    let now : ServerState S = record old { requests = [] } in
    let same : now ≡ new = λ i. record { life = sym life i; waiting = sym waiting i; requests = sym requests i } in
    subst (λ (s : ServerState S). IsServing storages first past s) same
    (record {
      life = is.life;
      takes = is.takes;
      sends = is.sends;
      tells = is.tells;
      claims = is.claims;
      questions = is.questions;
      due = is.due;
      requests = All-nil _;
    }))

pub nothing_left : {A : Type 0} (xs : List A) (all told : ℕ) → length xs ≡ all - told → all ≤ told → xs ≡ []
nothing_left [] all told is done = refl
nothing_left (x ∷ xs) all told is done = absurd (omega (arith, is, done))

pub keeps_turned_away : (old new : WaitingState) (claim : Claim) (rest : List Claim) (line : Vec ℕ) → old.claims ≡ claim ∷ rest
    → new ≡ record old { claims = rest; due = old.due ++ due.Line claim.connection line ∷ [] } → KeepsEach [] old new
keeps_turned_away old new claim rest line next is =
    keeps_by [] old new
    (λ c stays. omega (
      arith,
      ap (λ (w : WaitingState). owed_to c w) is,
      ap (λ (cs : List Claim). count_by (is_for c) cs) next,
      count_cons (is_for c) claim rest,
      count_push (is_told_to c) old.due (due.Line claim.connection line),
    ))

-- where none waits to be handed on, none is
pub none_handed_on : (now place : ℕ) (olds news : List RequestState) → HandsOnFirst now place olds news → olds ≡ [] → news ≡ []
none_handed_on now place olds news h is =
    absurd (omega (
      arith,
      ap {B = ℕ} (λ (rs : List RequestState). length rs) h.was,
      ap {B = ℕ} (λ (rs : List RequestState). length rs) is,
      length-append h.before (h.request ∷ h.after),
    ))
