-- A line asks for one thing, or has a fault.
use Rattle.std.proofs.Common.{◌≡◌, ◌≢◌, ℕ, List, ◌++◌, codes, get_or, Some, None, refl, sym, ◌∙◌, ap, ap₂, subst, arith}
use Rattle.std.proofs.lemmas.Fmt.{decimal_injective}
use Rattle.std.proofs.lemmas.List.{append_cancel_left}
use Rattle.sessions.specs.declared.submission.Submission.{Submission}
use Rattle.store.specs.declared.query.Query.{Query}
use Rattle.events.specs.declared.event.Event.TheVariants as event
use Rattle.schedule.specs.Reading.{IsUnreadFor}
use Rattle.schedule.specs.Table.{IsClient}
use Rattle.schedule.specs.Words.{words_of}
use Rattle.schedule.specs.declared.action.Action.TheVariants.{Step}
use Rattle.schedule.specs.declared.fault.ScheduleFault.{ScheduleFault}
use Rattle.schedule.specs.declared.replay_fault.ReplayCause.TheVariants.{Schedule}
use Rattle.schedule.proofs.OneAction.{one_action}
use Rattle.schedule.proofs.Spelled.{spelled_faultless}
use Rattle.clients.specs.ClientLines.{Asks, EndsInPosition, IsClientFault, IsClientLine, Submits}
use Rattle.clients.specs.ClientLines.{query_line, submit_line, unknown_word, wrong_client, wrong_query, wrong_query_from, wrong_submit}
use Rattle.clients.specs.declared.line.ClientLine.{ClientLine}
use Rattle.clients.specs.declared.line.ClientLine.TheVariants as line
use Rattle.clients.proofs.PositionLemmas.{one_front}

-- ---- the third letter tells the first word
abbrev third : List ℕ → ℕ
third text = get_or text 2 0

abbrev letter : ClientLine → ℕ
letter line.Status = 97
letter (line.Last client) = 115
letter (line.Submit submission) = 98
letter (line.Query asked from) = 101

letter_is : (text : List ℕ) (asked : ClientLine) → IsClientLine text asked → third text ≡ letter asked
letter_is text line.Status is = ap third is
letter_is text (line.Last client) (word, at, is) = ap third at
letter_is text (line.Submit submission) (rest, at, is) = ap third at
letter_is text (line.Query asked None) (rest, at, none, is) = ap third at
letter_is text (line.Query asked (Some position)) (rest, front, at, ends, is) = ap third at

other_word : (text : List ℕ) (a b : ClientLine) → IsClientLine text a → IsClientLine text b → letter a ≢ letter b → ⊥
other_word text a b is js differs = differs (sym (letter_is text a is) ∙ letter_is text b js)

-- what stands behind one first word is one text
one_rest : (text first a b : List ℕ) → text ≡ first ++ a → text ≡ first ++ b → a ≡ b
one_rest text first a b at bt = append_cancel_left first a b (sym at ∙ bt)

-- ---- one thing is asked for
one_client : (word : List ℕ) (a b : ℕ) → IsClient word a → IsClient word b → a ≡ b
one_client word a b is js =
    decimal_injective a b (omega (arith, is.below)) (omega (arith, js.below)) (sym is.text ∙ js.text)

one_submission : (rest : List ℕ) (a b : Submission) → Submits rest a → Submits rest b → a ≡ b
one_submission rest a b is js =
    let same : Step (event.Submit 0 a) ≡ Step (event.Submit 0 b) =
    one_action 3 (words_of (submit_line rest)) _ _ (omega arith) is.words js.words in
    cc

one_query : (rest : List ℕ) (a b : Query) → Asks rest a → Asks rest b → a ≡ b
one_query rest a b is js =
    let same : Step (event.Query 0 a) ≡ Step (event.Query 0 b) =
    one_action 3 (words_of (query_line rest)) _ _ (omega arith) is.words js.words in
    cc

pub one_asked : (text : List ℕ) (a b : ClientLine) → IsClientLine text a → IsClientLine text b → a ≡ b
one_asked text line.Status line.Status is js = refl
one_asked text line.Status (line.Last d) is js =
    absurd (other_word text line.Status (line.Last d) is js (λ e. omega (arith, e)))
one_asked text line.Status (line.Submit again) is js =
    absurd (other_word text line.Status (line.Submit again) is js (λ e. omega (arith, e)))
one_asked text line.Status (line.Query question None) is js =
    absurd (other_word text line.Status (line.Query question None) is js (λ e. omega (arith, e)))
one_asked text line.Status (line.Query question (Some p)) is js =
    absurd (other_word text line.Status (line.Query question (Some p)) is js (λ e. omega (arith, e)))
one_asked text (line.Last client) line.Status is js =
    absurd (other_word text (line.Last client) line.Status is js (λ e. omega (arith, e)))
one_asked text (line.Last client) (line.Last d) (word, at, is) (word_b, bt, js) =
    ap line.Last (one_client word client d is (subst (λ (w : List ℕ). IsClient w d) (sym (one_rest text (codes "last ") word word_b at bt)) js))
one_asked text (line.Last client) (line.Submit again) is js =
    absurd (other_word text (line.Last client) (line.Submit again) is js (λ e. omega (arith, e)))
one_asked text (line.Last client) (line.Query question None) is js =
    absurd (other_word text (line.Last client) (line.Query question None) is js (λ e. omega (arith, e)))
one_asked text (line.Last client) (line.Query question (Some p)) is js =
    absurd (other_word text (line.Last client) (line.Query question (Some p)) is js (λ e. omega (arith, e)))
one_asked text (line.Submit submission) line.Status is js =
    absurd (other_word text (line.Submit submission) line.Status is js (λ e. omega (arith, e)))
one_asked text (line.Submit submission) (line.Last d) is js =
    absurd (other_word text (line.Submit submission) (line.Last d) is js (λ e. omega (arith, e)))
one_asked text (line.Submit submission) (line.Submit again) (rest, at, is) (rest_b, bt, js) =
    let same = sym (one_rest text (codes "submit ") rest rest_b at bt) in
    ap line.Submit (one_submission rest submission again is (subst (λ (r : List ℕ). Submits r again) same js))
one_asked text (line.Submit submission) (line.Query question None) is js =
    absurd (other_word text (line.Submit submission) (line.Query question None) is js (λ e. omega (arith, e)))
one_asked text (line.Submit submission) (line.Query question (Some p)) is js =
    absurd (other_word text (line.Submit submission) (line.Query question (Some p)) is js (λ e. omega (arith, e)))
one_asked text (line.Query asked None) line.Status is js =
    absurd (other_word text (line.Query asked None) line.Status is js (λ e. omega (arith, e)))
one_asked text (line.Query asked None) (line.Last d) is js =
    absurd (other_word text (line.Query asked None) (line.Last d) is js (λ e. omega (arith, e)))
one_asked text (line.Query asked None) (line.Submit again) is js =
    absurd (other_word text (line.Query asked None) (line.Submit again) is js (λ e. omega (arith, e)))
one_asked text (line.Query asked None) (line.Query question None) (rest, at, none, is) (rest_b, bt, none_b, js) =
    let same = sym (one_rest text (codes "query ") rest rest_b at bt) in
    ap (λ (q : Query). line.Query q None) (one_query rest asked question is (subst (λ (r : List ℕ). Asks r question) same js))
one_asked text (line.Query asked None) (line.Query question (Some p)) (rest, at, none, is) (rest_b, front_b, bt, ends_b, js) =
    let same = sym (one_rest text (codes "query ") rest rest_b at bt) in
    absurd (none front_b p (subst (λ (r : List ℕ). EndsInPosition r front_b p) same ends_b))
one_asked text (line.Query asked (Some position)) line.Status is js =
    absurd (other_word text (line.Query asked (Some position)) line.Status is js (λ e. omega (arith, e)))
one_asked text (line.Query asked (Some position)) (line.Last d) is js =
    absurd (other_word text (line.Query asked (Some position)) (line.Last d) is js (λ e. omega (arith, e)))
one_asked text (line.Query asked (Some position)) (line.Submit again) is js =
    absurd (other_word text (line.Query asked (Some position)) (line.Submit again) is js (λ e. omega (arith, e)))
one_asked text (line.Query asked (Some position)) (line.Query question None) (rest, front, at, ends, is) (rest_b, bt, none_b, js) =
    let same = one_rest text (codes "query ") rest rest_b at bt in
    absurd (none_b front position (subst (λ (r : List ℕ). EndsInPosition r front position) same ends))
one_asked text (line.Query asked (Some position)) (line.Query question (Some p)) (rest, front, at, ends, is) (rest_b, front_b, bt, ends_b, js) =
    let same = sym (one_rest text (codes "query ") rest rest_b at bt) in
    let split = one_front rest front front_b position p ends (subst (λ (r : List ℕ). EndsInPosition r front_b p) same ends_b) in
    let queries = one_query front asked question is (subst (λ (f : List ℕ). Asks f question) (sym split.0) js) in
    ap₂ (λ (q : Query) (n : ℕ). line.Query q (Some n)) queries split.1

-- ---- what asks for something has no fault
submission_faultless : (rest : List ℕ) (submission : Submission) (fault : ScheduleFault) → Submits rest submission
    → IsUnreadFor 3 (submit_line rest) (Schedule fault) → ⊥
submission_faultless rest submission fault is why = spelled_faultless 3 (submit_line rest) _ is fault why.is_there

query_faultless : (rest : List ℕ) (asked : Query) (fault : ScheduleFault) → Asks rest asked
    → IsUnreadFor 3 (query_line rest) (Schedule fault) → ⊥
query_faultless rest asked fault is why = spelled_faultless 3 (query_line rest) _ is fault why.is_there

pub faulty_asks : (text : List ℕ) (fault : ScheduleFault) (asked : ClientLine) → IsClientFault text (Schedule fault)
    → ¬ (IsClientLine text asked)
faulty_asks text fault line.Status (unknown_word begins _) is = begins.no_status is
faulty_asks text fault line.Status (wrong_client word_b bt no_client _) is = omega (arith, letter_is text line.Status is, ap third bt)
faulty_asks text fault line.Status (wrong_submit rest_b bt why) is = omega (arith, letter_is text line.Status is, ap third bt)
faulty_asks text fault line.Status (wrong_query rest_b bt none_b why) is = omega (arith, letter_is text line.Status is, ap third bt)
faulty_asks text fault line.Status (wrong_query_from rest_b front_b p bt ends_b why) is = omega (arith, letter_is text line.Status is, ap third bt)
faulty_asks text fault (line.Last client) (unknown_word begins _) (word, at, is) = begins.no_last word at
faulty_asks text fault (line.Last client) (wrong_client word_b bt no_client _) (word, at, is) =
    no_client client (subst (λ (w : List ℕ). IsClient w client) (one_rest text (codes "last ") word word_b at bt) is)
faulty_asks text fault (line.Last client) (wrong_submit rest_b bt why) is = omega (arith, letter_is text (line.Last client) is, ap third bt)
faulty_asks text fault (line.Last client) (wrong_query rest_b bt none_b why) is = omega (arith, letter_is text (line.Last client) is, ap third bt)
faulty_asks text fault (line.Last client) (wrong_query_from rest_b front_b p bt ends_b why) is = omega (arith, letter_is text (line.Last client) is, ap third bt)
faulty_asks text fault (line.Submit submission) (unknown_word begins _) (rest, at, is) = begins.no_submit rest at
faulty_asks text fault (line.Submit submission) (wrong_client word_b bt no_client _) is = omega (arith, letter_is text (line.Submit submission) is, ap third bt)
faulty_asks text fault (line.Submit submission) (wrong_submit rest_b bt why) (rest, at, is) =
    let same = one_rest text (codes "submit ") rest rest_b at bt in
    submission_faultless rest_b submission fault (subst (λ (r : List ℕ). Submits r submission) same is) why
faulty_asks text fault (line.Submit submission) (wrong_query rest_b bt none_b why) is = omega (arith, letter_is text (line.Submit submission) is, ap third bt)
faulty_asks text fault (line.Submit submission) (wrong_query_from rest_b front_b p bt ends_b why) is = omega (arith, letter_is text (line.Submit submission) is, ap third bt)
faulty_asks text fault (line.Query asked None) (unknown_word begins _) (rest, at, none, is) = begins.no_query rest at
faulty_asks text fault (line.Query asked None) (wrong_client word_b bt no_client _) is = omega (arith, letter_is text (line.Query asked None) is, ap third bt)
faulty_asks text fault (line.Query asked None) (wrong_submit rest_b bt why) is = omega (arith, letter_is text (line.Query asked None) is, ap third bt)
faulty_asks text fault (line.Query asked None) (wrong_query rest_b bt none_b why) (rest, at, none, is) =
    let same = one_rest text (codes "query ") rest rest_b at bt in
    query_faultless rest_b asked fault (subst (λ (r : List ℕ). Asks r asked) same is) why
faulty_asks text fault (line.Query asked None) (wrong_query_from rest_b front_b p bt ends_b why) (rest, at, none, is) =
    let same = sym (one_rest text (codes "query ") rest rest_b at bt) in
    none front_b p (subst (λ (r : List ℕ). EndsInPosition r front_b p) same ends_b)
faulty_asks text fault (line.Query asked (Some position)) (unknown_word begins _) (rest, front, at, ends, is) = begins.no_query rest at
faulty_asks text fault (line.Query asked (Some position)) (wrong_client word_b bt no_client _) is = omega (arith, letter_is text (line.Query asked (Some position)) is, ap third bt)
faulty_asks text fault (line.Query asked (Some position)) (wrong_submit rest_b bt why) is = omega (arith, letter_is text (line.Query asked (Some position)) is, ap third bt)
faulty_asks text fault (line.Query asked (Some position)) (wrong_query rest_b bt none_b why) (rest, front, at, ends, is) =
    let same = one_rest text (codes "query ") rest rest_b at bt in
    none_b front position (subst (λ (r : List ℕ). EndsInPosition r front position) same ends)
faulty_asks text fault (line.Query asked (Some position)) (wrong_query_from rest_b front_b p bt ends_b why) (rest, front, at, ends, is) =
    let same = one_rest text (codes "query ") rest rest_b at bt in
    let split = one_front rest_b front front_b position p (subst (λ (r : List ℕ). EndsInPosition r front position) same ends) ends_b in
    query_faultless front_b asked fault (subst (λ (f : List ℕ). Asks f asked) split.0 is) why
