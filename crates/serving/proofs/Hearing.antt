-- What the clients of a process did, as moves.
use Rattle.std.proofs.Common.{◌≡◌, ℕ, List, [], ◌∷◌, ◌++◌, All, true, false, Option, Some, None, Result, Ok, Err, refl, sym, ap, subst, ◌∙◌}
use Rattle.std.specs.Global.{Vec}
use Rattle.std.proofs.lemmas.List.Elements.{All-head}
use Rattle.sessions.specs.declared.submission.Submission.{Submission}
use Rattle.stable.specs.declared.stable.Stable.{Ghosts}
use Rattle.store.specs.declared.query.Query.{Query}
use Rattle.node_model.specs.Faults.{node_code}
use Rattle.node_model.specs.declared.fault.NodeFault.{NodeFault}
use Rattle.world_model.specs.Lives.{Took}
use Rattle.life.specs.Lives.{Does}
use Rattle.life.specs.declared.fault.LifeFault.{LifeFault}
use Rattle.schedule.specs.Causes.{cause_code}
use Rattle.schedule.specs.declared.fault.ScheduleFault.{ScheduleFault}
use Rattle.schedule.specs.declared.replay_fault.ReplayCause.TheVariants.{Schedule}
use Rattle.clients.specs.AnswerLines.{answer_line, status_line}
use Rattle.clients.specs.ClientLines.{IsClientFault, IsClientLine}
use Rattle.clients.specs.declared.answer.ClientAnswer.TheVariants as answer
use Rattle.clients.specs.declared.answer.Status.{Status}
use Rattle.clients.specs.declared.line.ClientLine.TheVariants as line
use Rattle.serving.specs.declared.waiting.Due.TheVariants as due
use Rattle.serving.specs.Knowing.{IsLastNumber}
use Rattle.serving.specs.Moves.{IsLineTaken, IsOwnAnswer, IsStatus, Moves, Taking, forgetting, input_of, owing}
use Rattle.serving.specs.Moves.IsLineTaken.{asks, owes, refuses, submits}
use Rattle.serving.specs.Moves.IsOwnAnswer.{fault, last, status}
use Rattle.serving.specs.Moves.Move.{forgets, hears, hears_nothing}
use Rattle.serving.specs.Owing.{HasRoom}
use Rattle.serving.specs.Processes.{ProcessState}
use Rattle.serving.specs.Refusals.{IsRefusal}
use Rattle.serving.specs.Requesting.{RequestState, with_request}
use Rattle.serving.specs.Resting.{IsReading}
use Rattle.serving.specs.Serving.{Passes}
use Rattle.serving.specs.Tapes.{Heard, NothingHeard, Talk, Went, read}
use Rattle.serving.specs.Turns.{first_position}
use Rattle.serving.specs.Waitings.{WaitingState, lines_of}
use Rattle.serving.proofs.Moving.{moves_one, moves_to}
use Rattle.serving.proofs.Passing.{passes_as}

-- a line that is read is one for which there is room
pub room_of : (waiting : WaitingState) (came : List Talk) (what : Talk) → came ≡ what ∷ [] → All (HasRoom waiting) came
    → HasRoom waiting what
room_of waiting came what is all =
    All-head (HasRoom waiting) what [] (subst (λ (xs : List Talk). All (HasRoom waiting) xs) is all)

-- ---- what a process answers by itself
pub own_fault : {S : Type 0} (p : ProcessState S) (text answered : List ℕ) (found : ScheduleFault)
    → IsClientFault text (Schedule found) → answered ≡ answer_line (answer.Fault (cause_code (Schedule found)))
    → IsOwnAnswer p text answered
own_fault p text answered found is spelled = fault found is spelled

pub own_status : {S : Type 0} (p : ProcessState S) (text : List ℕ) (known : Status) → IsClientLine text line.Status → IsStatus p known
    → IsOwnAnswer p text (status_line known)
own_status p text known asked is = status known asked is refl

pub own_last : {S : Type 0} (p : ProcessState S) (text : List ℕ) (client number : ℕ) → IsClientLine text (line.Last client)
    → IsLastNumber p.life.node client number → IsOwnAnswer p text (answer_line (answer.Last client number))
own_last p text client number asked is = last client number asked is refl

module _ {S : Type 0} (storages : Ghosts S) where
  -- ---- what comes of a line
  -- the answer to it is due
  pub line_owed : (p q : ProcessState S) (connection : ℕ) (text answered : List ℕ) → IsOwnAnswer p text answered
      → (told : Vec ℕ) × (told.items ≡ answered) × (q ≡ record p { waiting = owing connection told p.waiting })
      → IsLineTaken storages p connection text q
  line_owed p q connection text answered own is =
      subst (λ (r : ProcessState S). IsLineTaken storages p connection text r) (sym is.2)
      (owes is.0 (subst (λ (xs : List ℕ). IsOwnAnswer p text xs) (sym is.1) own))

  -- a query is
  pub line_asked : (p q : ProcessState S) (connection : ℕ) (text : List ℕ) (query : Query) (position : Option ℕ) (from : ℕ)
      → IsClientLine text (line.Query query position) → from ≡ first_position position
      → q ≡ record p {
        waiting = record p.waiting {
          due = p.waiting.due ++ due.Answer (record { connection = connection; query = query; from = from }) ∷ [];
        };
      }
      → IsLineTaken storages p connection text q
  line_asked p q connection text query position from asked is same =
      subst (λ (r : ProcessState S). IsLineTaken storages p connection text r) (sym (same ∙ ap (λ (n : ℕ). record p {
        waiting = record p.waiting {
          due = p.waiting.due ++ due.Answer (record { connection = connection; query = query; from = n }) ∷ [];
        };
      }) is))
      (asks query position asked)

  -- a request that the node refuses
  pub line_refused : (p q : ProcessState S) (connection : ℕ) (text : List ℕ) (submission : Submission) (found : NodeFault)
      (result : Result (Unit {0}) LifeFault) (refusal : Vec ℕ) → IsClientLine text (line.Submit submission)
      → Does storages p.life (Took (input_of submission)) result q.life → IsRefusal result (Ok (Some found))
      → refusal.items ≡ answer_line (answer.Refused submission.client submission.number (node_code found))
      → q ≡ record p { life = q.life; waiting = owing connection refusal p.waiting } → IsLineTaken storages p connection text q
  line_refused p q connection text submission found result refusal asked does refused spelled same =
      let Did : Result (Unit {0}) LifeFault → Type 0 = λ r. Does storages p.life (Took (input_of submission)) r q.life in
      subst (λ (r : ProcessState S). IsLineTaken storages p connection text r) (sym same)
      (refuses submission found q.life refusal asked (subst Did refused.0 does) refused.1 spelled)

  -- one that it takes
  pub line_submitted : (p q : ProcessState S) (connection : ℕ) (text : List ℕ) (submission : Submission)
      (result : Result (Unit {0}) LifeFault) (number : ℕ) → number ≡ submission.number → IsClientLine text (line.Submit submission)
      → Does storages p.life (Took (input_of submission)) result q.life → IsRefusal result (Ok None)
      → q.waiting ≡ record p.waiting {
        claims = p.waiting.claims ++ (record { connection = connection; client = submission.client; number = number }) ∷ [];
      }
      → q.requests ≡ with_request submission.client number text p.requests
      → q ≡ record p { life = q.life; waiting = q.waiting; requests = q.requests } → IsLineTaken storages p connection text q
  line_submitted p q connection text submission (Ok done) number is asked does refused waits requests same =
      let claimed : ℕ → WaitingState = λ n. record p.waiting {
        claims = p.waiting.claims ++ (record { connection = connection; client = submission.client; number = n }) ∷ [];
      } in
      let waits_so : q.waiting ≡ claimed submission.number = waits ∙ ap claimed is in
      let requests_so : q.requests ≡ with_request submission.client submission.number text p.requests =
      requests ∙ ap (λ (n : ℕ). with_request submission.client n text p.requests) is in
      let all : q ≡ record p {
        life = q.life;
        waiting = claimed submission.number;
        requests = with_request submission.client submission.number text p.requests;
      } = same ∙ ap (λ (w : WaitingState). record p { life = q.life; waiting = w; requests = q.requests }) waits_so
      ∙ ap (λ (rs : List RequestState). record p { life = q.life; waiting = claimed submission.number; requests = rs }) requests_so in
      subst (λ (r : ProcessState S). IsLineTaken storages p connection text r) (sym all)
      (submits submission does.0 q.life asked does.1)
  line_submitted p q connection text submission (Err other) number is asked does refused waits requests same = absurd (cc)

  -- ---- as moves
  module _ (now : ℕ) where
    pub line_moves : (p q : ProcessState S) (connection : ℕ) (text : List ℕ) → HasRoom p.waiting (Heard connection text)
        → IsLineTaken storages p connection text q → Moves storages now Taking p [] (Heard connection text ∷ []) q
    line_moves p q connection text room taken =
        moves_one storages now p q [] (Heard connection text ∷ []) (hears p q connection text room taken)

    pub gone_moves : (p q : ProcessState S) (connection : ℕ) → q ≡ record p { waiting = forgetting connection p.waiting }
        → Moves storages now Taking p [] (Went connection ∷ []) q
    gone_moves p q connection same =
        let moved : ProcessState S = record p { waiting = forgetting connection p.waiting } in
        moves_to storages now p moved q [] (Went connection ∷ [])
        (moves_one storages now p moved [] (Went connection ∷ []) (forgets p connection)) same

    -- ---- over the desk
    module _ {D : Type 0} (talk : D → List Talk) (Talks : D → Type 0) where
      pub clients_reads : (p q : ProcessState S) (d e : D) (came : List Talk) (what : Talk) → came ≡ what ∷ [] → read what ≡ Some true
          → (Talks e → talk e ≡ talk d ++ came) → (Talks e → Talks d) → Moves storages now Taking p [] (what ∷ []) q
          → Passes talk Talks (λ xs. Moves storages now Taking p [] xs q × IsReading read xs true) d e
      clients_reads p q d e came what is so tape told h = record {
        passed = what ∷ [];
        are = (h, (what, refl, so));
        passes = passes_as talk Talks d e came (what ∷ []) tape told is;
      }

      pub clients_reads_nothing : (p : ProcessState S) (d e : D) (came : List Talk) → came ≡ NothingHeard (lines_of p.waiting) ∷ []
          → (Talks e → talk e ≡ talk d ++ came) → (Talks e → Talks d)
          → Passes talk Talks (λ xs. Moves storages now Taking p [] xs p × IsReading read xs false) d e
      clients_reads_nothing p d e came is tape told = record {
        passed = NothingHeard (lines_of p.waiting) ∷ [];
        are = (
          moves_one storages now p p [] (NothingHeard (lines_of p.waiting) ∷ []) (hears_nothing p),
          (NothingHeard (lines_of p.waiting), refl, refl),
        );
        passes = passes_as talk Talks d e came (NothingHeard (lines_of p.waiting) ∷ []) tape told is;
      }
