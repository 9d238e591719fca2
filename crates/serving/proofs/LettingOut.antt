-- What a process lets out is what it may.
use Rattle.std.proofs.Common.{◌≡◌, ◌≤◌, ℕ, List, [], ◌∷◌, ◌++◌, Option, Some, None, IfSome, All, Contains, refl, sym, ◌∙◌, subst, inl, inr}
use Rattle.std.proofs.Common.{append-nil}
use Rattle.std.specs.Global.{Vec}
use Rattle.std.proofs.lemmas.List.Elements.{All-append, All-cons, All-contains, All-contains_itself, All-head, All-nil, All-push}
use Rattle.std.proofs.lemmas.List.Elements.{All-tail, All-weaker}
use Rattle.std.proofs.lemmas.List.Elements.{Contains-append_right}
use Rattle.stable.specs.declared.stable.Stable.{Ghosts}
use Rattle.node_model.specs.Nodes.{NodeState}
use Rattle.world_model.specs.Lives.{Happening}
use Rattle.world_model.specs.declared.lists.Answered.{Answered}
use Rattle.life.specs.Lives.{IsLifeOf, LifeState}
use Rattle.life.specs.Telling.{ToldLists, joined, nothing}
use Rattle.life.proofs.TellingLemmas.{told_hands_out}
use Rattle.serving.specs.Knowing.{WasSo}
use Rattle.serving.specs.Outgoing.{IsFrameOf, IsReplyIn, IsTextTo, KeepsLess}
use Rattle.serving.specs.Serving.{IsServing, ServerState, Serves, asking}
use Rattle.serving.specs.Tapes.{Carried, Sent, Arrived, NothingCame, NothingHeard, PollFailed, ReadingFailed, Talk, Heard, Went, Told}
use Rattle.serving.specs.Requesting.{RequestState}
use Rattle.serving.specs.Turns.{Past, first_position, later, HasAsked, HasQueried, HasWritten, IsPlain, MayBeDue, MayBeSaid, MayHappen, MayPass}
use Rattle.serving.specs.Waitings.{IsFirstRipe, WaitingState}
use Rattle.serving.specs.declared.waiting.Due.{Due}
use Rattle.serving.specs.declared.waiting.Due.TheVariants as due
use Rattle.serving.specs.declared.waiting.Question.{Question}
use Rattle.clients.specs.declared.line.ClientLine.TheVariants as line
use Rattle.store.specs.declared.query.Query.{Query}
use Rattle.serving.proofs.Growing.{asked_in, in_left, plain_in, queried_in, was_so_still}
use Rattle.serving.proofs.Holding.{holds_less}
use Rattle.serving.proofs.Leading.{life_stays, serves_by}
use Rattle.serving.proofs.Pasts.{later_nothing}
use Rattle.serving.proofs.Parts.{All-append_first, All-append_last}

-- ---- one by one
-- a position that was named is no later than one that isn't below it
no_later : (named : Option ℕ) (from position : ℕ) → from ≡ first_position named → from ≤ position → IfSome named (λ p. p ≤ position)
no_later None from position is h = tt
no_later (Some p) from position is h = subst (λ (n : ℕ). n ≤ position) is h

-- a frame of those that the life hands out now
frame_passes : (past : Past) (happened : List Happening) (out : ToldLists) (carried : List Carried) (talk : List Talk) (x : Carried)
    → IsFrameOf out.frames x → MayPass (later past happened out carried talk) x
frame_passes past happened out carried talk (Sent to bytes) h = inl (record {
  envelope = h.frame;
  handed_out = Contains-append_right past.handed.frames out.frames h.frame h.listed;
  receiver = h.receiver;
  spelled = h.spelled;
})
frame_passes past happened out carried talk (Arrived bytes) h = absurd h
frame_passes past happened out carried talk NothingCame h = absurd h
frame_passes past happened out carried talk PollFailed h = absurd h

-- a reply of those, to who waits for it
reply_is_said : {S : Type 0} (storages : Ghosts S) (first : NodeState S) (past : Past) (happened : List Happening) (out : ToldLists) (carried : List Carried) (talk : List Talk) (claims : _)
    → All (HasAsked past.talk) claims → (x : Talk) → IsReplyIn out.replies claims x
    → MayBeSaid storages first (later past happened out carried talk) x
reply_is_said storages first past happened out carried talk claims asked (Told connection text) h =
    let own : HasAsked past.talk h.claim = All-contains (HasAsked past.talk) claims h.claim asked h.waits in
    let now = asked_in past.talk (past.talk ++ talk) (in_left past.talk talk) h.claim own in
    inl (record {
      replied = h.replied;
      handed_out = Contains-append_right past.handed.replies out.replies h.replied h.listed;
      spelled = h.spelled;
      submission = now.submission;
      written = subst (λ (c : ℕ). HasWritten (past.talk ++ talk) c (line.Submit now.submission)) h.receiver now.written;
      client = now.client ∙ h.client;
      number = now.number ∙ h.number;
    })
reply_is_said storages first past happened out carried talk claims asked (Heard connection text) h = absurd h
reply_is_said storages first past happened out carried talk claims asked (Went connection) h = absurd h
reply_is_said storages first past happened out carried talk claims asked (NothingHeard lines) h = absurd h
reply_is_said storages first past happened out carried talk claims asked ReadingFailed h = absurd h

-- the answer to a query, to the connection that asked it
text_is_said : {S : Type 0} (storages : Ghosts S) (first : NodeState S) (past : Past) (out : ToldLists) (talk : List Talk) (question : Question) (answered : Answered)
    → HasQueried past.talk question → Contains out.answers answered → answered.query ≡ question.query
    → question.from ≤ answered.position → (x : Talk) → IsTextTo question.connection answered x
    → MayBeSaid storages first (later past [] out [] talk) x
text_is_said storages first past out talk question answered asked listed query from (Told connection text) h =
    let own = queried_in past.talk (past.talk ++ talk) (in_left past.talk talk) question asked in
    let written : HasWritten (past.talk ++ talk) connection (line.Query answered.query own.position) =
    subst (λ (c : ℕ). HasWritten (past.talk ++ talk) c (line.Query answered.query own.position)) (sym h.0)
    (subst (λ (q : Query). HasWritten (past.talk ++ talk) question.connection (line.Query q own.position)) (sym query) own.written) in
    inr (inl (record {
      answered = answered;
      handed_out = Contains-append_right past.handed.answers out.answers answered listed;
      spelled = h.1;
      position = own.position;
      written = written;
      from = no_later own.position question.from answered.position own.from from;
    }))
text_is_said storages first past out talk question answered asked listed query from (Heard connection text) h = absurd h
text_is_said storages first past out talk question answered asked listed query from (Went connection) h = absurd h
text_is_said storages first past out talk question answered asked listed query from (NothingHeard lines) h = absurd h
text_is_said storages first past out talk question answered asked listed query from ReadingFailed h = absurd h

module _ {S : Type 0} (storages : Ghosts S) where
  -- ---- what is held goes out
  life_lets_out : (first : NodeState S) (history : List Happening) (handed : ToldLists) (old new : LifeState S)
      → new ≡ record old { held = nothing } → IsLifeOf storages first history handed old
      → IsLifeOf storages first (history ++ []) (joined handed old.held) new
  life_lets_out first history handed old new is h =
      subst (λ (xs : List Happening). IsLifeOf storages first xs (joined handed old.held) new) (sym (append-nil history))
      (subst (λ (l : LifeState S). IsLifeOf storages first history (joined handed old.held) l) (sym is)
      (told_hands_out storages first history handed old h))

  pub serves_letting_out : (old new : ServerState S) (carried : List Carried) (talk : List Talk)
      → new.life ≡ record old.life { held = nothing } → KeepsLess old new
      → All (IsFrameOf old.life.held.frames) carried → All (IsReplyIn old.life.held.replies old.waiting.claims) talk
      → Serves storages old carried talk new
  serves_letting_out old new carried talk is less frames replies =
      let out = old.life.held in
      serves_by storages old new [] out carried talk
      (λ first past is'. life_lets_out first past.history past.handed old.life new.life is is'.life)
      (λ first past is'. All-nil (MayHappen first.id (later past [] out carried talk)))
      (λ first past is'. All-weaker (IsFrameOf out.frames) (MayPass (later past [] out carried talk))
      (frame_passes past [] out carried talk) carried frames)
      (λ first past is'. All-weaker (IsReplyIn out.replies old.waiting.claims) (MayBeSaid storages first (later past [] out carried talk))
      (reply_is_said storages first past [] out carried talk old.waiting.claims is'.claims) talk replies)
      (holds_less talk old new less)

  -- ---- what waits is told, or waits on
  -- a process that waits otherwise is serving as well
  pub serves_still : (old new : ServerState S)
      → ((first : NodeState S) (past : Past) → IsServing storages first past old → IsServing storages first past new)
      → Serves storages old [] [] new
  serves_still old new still = record {
    leads = λ first past is.
        ([], nothing, subst (λ (p : Past). IsServing storages first p new) (sym (later_nothing past)) (still first past is));
  }

  -- a query that is due is held back
  pub serves_holding_back : (old : ServerState S) (question : Question)
      → Serves storages (asking old question) [] []
      (record old { waiting = record old.waiting { questions = old.waiting.questions ++ question ∷ [] } })
  serves_holding_back old question =
      serves_still (asking old question) (record old { waiting = record old.waiting { questions = old.waiting.questions ++ question ∷ [] } })
      (λ first past is. record {
        life = is.life;
        takes = is.takes;
        sends = is.sends;
        tells = is.tells;
        claims = is.claims;
        questions = All-push (HasQueried past.talk) old.waiting.questions question is.questions
            (All-head (MayBeDue (WasSo storages first past.history) past.talk) (due.Answer question) old.waiting.due is.due);
        due = All-tail (MayBeDue (WasSo storages first past.history) past.talk) (due.Answer question) old.waiting.due is.due;
        requests = is.requests;
      })

  -- a query that is held back is the next that is due
  pub serves_ripening : (old : ServerState S) (position : ℕ) (others : List Question) (question : Question)
      → IsFirstRipe position old.waiting.questions others question
      → Serves storages old [] [] (asking (record old { waiting = record old.waiting { questions = others } }) question)
  serves_ripening old position others question ripe =
      serves_still old (asking (record old { waiting = record old.waiting { questions = others } }) question)
      (λ first past is.
      let P = HasQueried past.talk in
      let all : All P (ripe.before ++ question ∷ ripe.after) =
      subst (λ (xs : List Question). All P xs) ripe.split is.questions in
      let after : All P (question ∷ ripe.after) = All-append_last P ripe.before (question ∷ ripe.after) all in
      record {
        life = is.life;
        takes = is.takes;
        sends = is.sends;
        tells = is.tells;
        claims = is.claims;
        questions = subst (λ (xs : List Question). All P xs) (sym ripe.rest)
            (All-append P ripe.before ripe.after (All-append_first P ripe.before (question ∷ ripe.after) all)
            (All-tail P question ripe.after after));
        due = All-cons (MayBeDue (WasSo storages first past.history) past.talk) (due.Answer question) old.waiting.due (All-head P question ripe.after after) is.due;
        requests = is.requests;
      })

  -- a line that is due is told
  pub serves_line : (old : ServerState S) (others : List Due) (connection : ℕ) (text : Vec ℕ)
      → old.waiting.due ≡ due.Line connection text ∷ others
      → Serves storages old [] (Told connection text.items ∷ []) (record old { waiting = record old.waiting { due = others } })
  serves_line old others connection text is' =
      let new = record old { waiting = record old.waiting { due = others } } in
      let talk = Told connection text.items ∷ [] in
      serves_by storages old new [] nothing [] talk
      (λ first past is. life_stays storages first past.history past.handed old.life old.life refl is.life)
      (λ first past is. All-nil (MayHappen first.id (later past [] nothing [] talk)))
      (λ first past is. All-nil (MayPass (later past [] nothing [] talk)))
      (λ first past is.
      let after = later past [] nothing [] talk in
      let Was : NodeState S → Type 0 = WasSo storages first past.history in
      let plain : IsPlain Was past.talk connection text.items =
      All-head (MayBeDue Was past.talk) (due.Line connection text) others
      (subst (λ (xs : List Due). All (MayBeDue Was past.talk) xs) is' is.due) in
      let P = MayBeSaid storages first after in
      All-cons P (Told connection text.items) []
      (inr (inr (plain_in Was (WasSo storages first after.history) (was_so_still storages first past.history []) past.talk (past.talk ++ talk) (in_left past.talk talk) connection text.items plain))) (All-nil P))
      (holds_less talk old new (record {
        claims = All-contains_itself old.waiting.claims;
        questions = All-contains_itself old.waiting.questions;
        due = subst (λ (xs : List Due). All (Contains xs) others) (sym is')
            (All-tail (Contains (due.Line connection text ∷ others)) (due.Line connection text) others
            (All-contains_itself (due.Line connection text ∷ others)));
        requests = All-contains_itself old.requests;
      }))

  -- what is due next isn't due any more
  pub less_due : (old : ServerState S) (question : Question) (new : ServerState S) → new.waiting ≡ old.waiting
      → new.requests ≡ old.requests → KeepsLess (asking old question) new
  less_due old question new waiting requests =
      let same : (w : WaitingState) (r : List RequestState) → w ≡ old.waiting → r ≡ old.requests
      → KeepsLess (asking old question) (record new { waiting = w; requests = r }) =
      λ w r e f. subst (λ (x : WaitingState). KeepsLess (asking old question) (record new { waiting = x; requests = r })) (sym e)
      (subst (λ (y : List RequestState). KeepsLess (asking old question) (record new { waiting = old.waiting; requests = y })) (sym f)
      (record {
        claims = All-contains_itself old.waiting.claims;
        questions = All-contains_itself old.waiting.questions;
        due = All-tail (Contains (due.Answer question ∷ old.waiting.due)) (due.Answer question) old.waiting.due
            (All-contains_itself (due.Answer question ∷ old.waiting.due));
        requests = All-contains_itself old.requests;
      })) in
      same new.waiting new.requests waiting requests

  -- the answer goes out
  pub serves_answering : (mid new : ServerState S) (question : Question) (answered : Answered) (talk : List Talk)
      → new.life ≡ record mid.life { held = nothing } → new.waiting ≡ mid.waiting → new.requests ≡ mid.requests
      → Contains mid.life.held.answers answered → answered.query ≡ question.query → question.from ≤ answered.position
      → All (IsTextTo question.connection answered) talk → Serves storages (asking mid question) [] talk new
  serves_answering mid new question answered talk is waiting requests listed query from texts =
      let out = mid.life.held in
      serves_by storages (asking mid question) new [] out [] talk
      (λ first past is'. life_lets_out first past.history past.handed mid.life new.life is is'.life)
      (λ first past is'. All-nil (MayHappen first.id (later past [] out [] talk)))
      (λ first past is'. All-nil (MayPass (later past [] out [] talk)))
      (λ first past is'.
      let asked : HasQueried past.talk question =
      All-head (MayBeDue (WasSo storages first past.history) past.talk) (due.Answer question) mid.waiting.due is'.due in
      All-weaker (IsTextTo question.connection answered) (MayBeSaid storages first (later past [] out [] talk))
      (text_is_said storages first past out talk question answered asked listed query from) talk texts)
      (holds_less talk (asking mid question) new (less_due mid question new waiting requests))
