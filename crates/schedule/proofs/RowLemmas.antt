-- What is wrong with the words of a row, as its parts tell it.
use Rattle.std.proofs.Common.{◌≡◌, ◌≢◌, ◌==◌, ℕ, ◌<◌, ◌≤◌, List, [], ◌∷◌, ◌++◌, length, Result, Ok, Err, MatchResult, codes, refl, sym}
use Rattle.std.proofs.Common.{◌↔◌, ◌+◌, Bool, true, false, Option, None, Some, IsSome, IfSome, MatchOption, subst, inl, inr, arith}
use Rattle.std.specs.Prelude.{IsErrAnd}
use Rattle.std.proofs.lemmas.List.Splits.{length-slice_split}
use Rattle.store.specs.declared.op.Op.{Op}
use Rattle.store.specs.declared.query.Query.{Query}
use Rattle.tpoint.specs.Extents.{Span}
use Rattle.schedule.specs.Extents.{IsPeriod}
use Rattle.schedule.specs.Keywords.{text_of, operation_text, question_text}
use Rattle.schedule.specs.Rows.{IsFaultAt, IsRowFault, IsWordsFault}
use Rattle.schedule.specs.Spelling.{SpellsOp, SpellsQuery, SubmitsRequest, WordsSpell}
use Rattle.schedule.specs.Submissions.{NamesAsker, asker_places, asker_words, submit_words}
use Rattle.schedule.specs.declared.submits.Asker.{Asker}
use Rattle.schedule.specs.declared.submits.AskerWords.{AskerWords}
use Rattle.schedule.specs.declared.action.Action.TheVariants.{Step}
use Rattle.events.specs.declared.event.Event.TheVariants as event
use Rattle.schedule.specs.Table.{line_of, submit_of, query_of, count, IsNode, NameEach, HasItsWords, HasItsCount, HasMisfit, HasUnknownWord}
use Rattle.schedule.specs.Table.{IsCount, takes_more, Place, places, keyword_places, operation_places, question_places}
use Rattle.schedule.specs.PendingLines.{WordsGive}
use Rattle.schedule.specs.declared.pending_line.PendingLine.{PendingLine}
use Rattle.schedule.specs.Words.{blank, words_of}
use Rattle.schedule.specs.declared.keyword.Keyword.{Keyword}
use Rattle.schedule.specs.declared.keyword.Keyword.TheVariants.{Nodes, Flush, Round}
use Rattle.schedule.specs.declared.keyword.Operation.{Operation}
use Rattle.schedule.specs.declared.keyword.Operation.TheVariants.{Put, Remove}
use Rattle.schedule.specs.declared.keyword.Question.{Question}
use Rattle.schedule.specs.declared.keyword.Question.TheVariants.{At, Cut, Ever, Within, Count}
use Rattle.schedule.specs.declared.fault.ScheduleFault.{ScheduleFault}
use Rattle.schedule.specs.declared.fault.ScheduleFault.TheVariants.{NotPrintable, UnknownWord, NodesLine, WordCount, WordForm, Document}
use Rattle.schedule.proofs.Told.{err_told}
use Rattle.schedule.proofs.Faults.{not_submit, not_query, submit_is_no_query, submit_is_no_nodes, query_is_no_nodes, other_is_no_nodes}

-- ---- words with the row's own ones
-- behind the word that says what is submitted or asked, none has to be a certain one
pub operation_words : (operation : Operation) (words : List (List ℕ)) → HasItsWords (operation_places operation) words
operation_words Put words = tt
operation_words _ words = tt

pub question_words : (question : Question) (words : List (List ℕ)) → HasItsWords (question_places question) words
question_words At words = tt
question_words _ words = tt

pub keyword_words : (keyword : Keyword) (words : List (List ℕ)) → HasItsWords (keyword_places keyword) words
keyword_words Nodes words = tt
keyword_words _ words = tt

-- ---- how many words a line has
-- where so many more are there as are wanted, the count is right as before
alike : (more : Bool) (wanted there all line : ℕ) → line + wanted ≡ there + all → IsCount more wanted there ↔ IsCount more all line
alike true wanted there all line same = (λ is. omega (arith, same, is), λ is. omega (arith, same, is))
alike false wanted there all line same = (λ is. omega (arith, same, is), λ is. omega (arith, same, is))

-- as many as its row wants, where those behind its own words are
keyword_count : (keyword : Keyword) (words : List (List ℕ))
    → HasItsCount (keyword_places keyword) words ↔ HasItsCount (places (line_of keyword)) (text_of keyword ∷ words)
keyword_count keyword words =
    let at = keyword_places keyword in
    alike (takes_more at) (count at) (length words) (count (places (line_of keyword))) (length (text_of keyword ∷ words)) (omega arith)

pub op_count : (operation : Operation) (a b c : List ℕ) (words : List (List ℕ)) → HasItsCount (operation_places operation) words
    ↔ HasItsCount (places (submit_of operation)) (codes "submit" ∷ a ∷ b ∷ c ∷ operation_text operation ∷ words)
op_count operation a b c words =
    let at = operation_places operation in
    alike (takes_more at) (count at) (length words) (count (places (submit_of operation)))
    (length (codes "submit" ∷ a ∷ b ∷ c ∷ operation_text operation ∷ words)) (omega arith)

pub query_count : (question : Question) (a : List ℕ) (words : List (List ℕ)) → HasItsCount (question_places question) words
    ↔ HasItsCount (places (query_of question)) (codes "query" ∷ a ∷ question_text question ∷ words)
query_count question a words =
    let at = question_places question in
    alike (takes_more at) (count at) (length words) (count (places (query_of question)))
    (length (codes "query" ∷ a ∷ question_text question ∷ words)) (omega arith)

-- a document has a word at least
pub document_is_there : (document : List ℕ) → 1 ≤ length (words_of document)
document_is_there document = omega (arith, length-slice_split (λ b. b == blank) document)

-- an operation that there is, and of which this holds
pub some_op : (made : Option Op) (asked : Op) (Not : Type 0) (Is : Op → Type 0) → IsSome made → IfSome made (λ op. op ≡ asked)
    → Is asked → MatchOption made Not Is
some_op None asked Not Is some same is = let e = some in cc
some_op (Some op) asked Not Is some same is = subst Is (sym same) is

-- ---- what is wrong with the words of a part is wrong with the line
-- at places that want no certain word, only a count or a form is wrong
fault_at : (n : ℕ) (at : List Place) (words : List (List ℕ)) (Told : ScheduleFault → Type 0)
    → (¬ (HasItsCount at words) → Told WordCount) → (HasItsCount at words → HasMisfit n at words → Told WordForm)
    → (fault : ScheduleFault) → IsFaultAt n at words fault → Told fault
fault_at n at words Told counted formed NotPrintable is = absurd is
fault_at n at words Told counted formed UnknownWord is = absurd is
fault_at n at words Told counted formed NodesLine is = absurd is
fault_at n at words Told counted formed WordCount is = counted is
fault_at n at words Told counted formed WordForm is = formed is.0 is.1
fault_at n at words Told counted formed Document is = absurd is

-- a period and a rectangle behind an id
pub visit_fault : (n : ℕ) (word : List ℕ) (words : List (List ℕ)) (fault : ScheduleFault)
    → IsFaultAt n (question_places Within) words fault → IsFaultAt n (question_places Ever) (word ∷ words) fault
visit_fault n word words =
    fault_at n (question_places Within) words (λ told. IsFaultAt n (question_places Ever) (word ∷ words) told)
    (λ other same. other (omega (arith, same))) (λ same misfit. (omega (arith, same), inr misfit))

-- ---- words that are no period
pub no_period_to_cut : (n : ℕ) (name begin end : List ℕ) → ((period : Span) → ¬ IsPeriod begin end period)
    → IsFaultAt n (question_places Cut) (name ∷ begin ∷ end ∷ []) WordForm
no_period_to_cut n name begin end none = (refl, inr (inl (λ is. none is.0 is.1)))

pub no_period_to_look_in : (n : ℕ) (begin end x0 y0 x1 y1 : List ℕ) → ((period : Span) → ¬ IsPeriod begin end period)
    → IsFaultAt n (question_places Within) (begin ∷ end ∷ x0 ∷ y0 ∷ x1 ∷ y1 ∷ []) WordForm
no_period_to_look_in n begin end x0 y0 x1 y1 none = (refl, inl (λ is. none is.0 is.1))

-- what an operation needs, behind the words that say who asks
pub operation_fault : (n : ℕ) (operation : Operation) (a b c : List ℕ) (words : List (List ℕ)) (fault : ScheduleFault)
    → IsFaultAt n (operation_places operation) words fault
    → IsRowFault n (submit_of operation) (codes "submit" ∷ a ∷ b ∷ c ∷ operation_text operation ∷ words) fault
operation_fault n operation a b c words =
    let line = codes "submit" ∷ a ∷ b ∷ c ∷ operation_text operation ∷ words in
    let counts = op_count operation a b c words in
    let its_words : HasItsWords (places (submit_of operation)) line = (refl, (refl, operation_words operation words)) in
    fault_at n (operation_places operation) words (λ told. IsRowFault n (submit_of operation) line told)
    (λ wrong. (its_words, λ all. wrong (counts.1 all)))
    (λ its misfit. (its_words, counts.0 its, inr (inr (inr (inr (inr misfit))))))

-- the words that say who asks
pub asker_fault : (n : ℕ) (operation : Operation) (a b c : List ℕ) (words : List (List ℕ))
    → HasItsCount (operation_places operation) words → HasMisfit n asker_places (a ∷ b ∷ c ∷ [])
    → IsRowFault n (submit_of operation) (codes "submit" ∷ a ∷ b ∷ c ∷ operation_text operation ∷ words) WordForm
asker_fault n operation a b c words its_count misfit = (
  (refl, (refl, operation_words operation words)),
  (op_count operation a b c words).0 its_count,
  elim misfit [
    | inl node ↦ inr (inl node)
    | inr more ↦ elim more [
      | inl client ↦ inr (inr (inl client))
      | inr more ↦ elim more [ inl number ↦ inr (inr (inr (inl number))) | inr none ↦ absurd none ]
    ]
  ],
)

-- what a node is asked
pub query_fault : (n : ℕ) (question : Question) (a : List ℕ) (words : List (List ℕ)) (fault : ScheduleFault)
    → IsFaultAt n (question_places question) words fault
    → IsWordsFault n (codes "query" ∷ a ∷ question_text question ∷ words) fault
query_fault n question a words =
    let line = codes "query" ∷ a ∷ question_text question ∷ words in
    let counts = query_count question a words in
    let its : HasItsWords (places (query_of question)) line = (refl, (refl, question_words question words)) in
    fault_at n (question_places question) words (λ told. IsWordsFault n line told)
    (λ wrong. (
      record { row = query_of question; its_words = its; other_count = λ all. wrong (counts.1 all) },
      λ others. query_is_no_nodes _ others,
    ))
    (λ same misfit. (
      record { row = query_of question; its_words = its; its_count = counts.0 same; misfit = inr (inr (inr misfit)) },
      λ others. query_is_no_nodes _ others,
    ))

-- which node is asked
pub asked_fault : (n : ℕ) (question : Question) (a : List ℕ) (words : List (List ℕ))
    → HasItsCount (question_places question) words → ((node : ℕ) → ¬ (IsNode n a node))
    → IsWordsFault n (codes "query" ∷ a ∷ question_text question ∷ words) WordForm
asked_fault n question a words its_count none = (
  record {
    row = query_of question;
    its_words = (refl, (refl, question_words question words));
    its_count = (query_count question a words).0 its_count;
    misfit = inr (inl (λ is. none is.0 is.1));
  },
  λ others. query_is_no_nodes _ others,
)

-- what is asked, and whom, are a query
pub asks : (n : ℕ) (question : Question) (asked : Query) (a : List ℕ) (words : List (List ℕ)) (node : ℕ) → IsNode n a node
    → SpellsQuery n question words asked
    → WordsSpell n (codes "query" ∷ a ∷ question_text question ∷ words) (Step (event.Query node asked))
asks n question asked a words node is spells =
    (question, record { node_word = a; others = words; words_are = refl; to_node = is }, spells)

-- what is asked for, and who asks, are a submission
abbrev pub named : (n : ℕ) (operation : Operation) (asking : AskerWords) (asker : Asker) (words : List (List ℕ)) → NamesAsker n asking asker
    → SubmitsRequest n operation (submit_words asking operation words) asker.node asker.client asker.number
named n operation asking asker words names = record {
  node_word = asking.node.now;
  client_word = asking.client.now;
  number_word = asking.number.now;
  others = words;
  words_are = refl;
  to_node = names.node;
  of_client = names.client;
  under_number = names.number;
}

pub submits : (n : ℕ) (operation : Operation) (asking : AskerWords) (asker : Asker) (asked : Op) (words : List (List ℕ))
    → SpellsOp n operation words asked → NamesAsker n asking asker
    → WordsSpell n (submit_words asking operation words)
    (Step (event.Submit asker.node (record { client = asker.client; number = asker.number; op = asked })))
submits n operation asking asker asked words spells names = (operation, named n operation asking asker words names, spells)

-- a row's fault is that of its words
pub submit_fault : (n : ℕ) (operation : Operation) (words : List (List ℕ)) (fault : ScheduleFault)
    → IsRowFault n (submit_of operation) (codes "submit" ∷ words) fault → IsWordsFault n (codes "submit" ∷ words) fault
submit_fault n operation words NotPrintable at = absurd at
submit_fault n operation words UnknownWord at = absurd at
submit_fault n operation words NodesLine at = absurd at
submit_fault n operation words WordCount at =
    (record { row = submit_of operation; its_words = at.0; other_count = at.1 }, λ others. submit_is_no_nodes words others)
submit_fault n operation words WordForm at = (
  record { row = submit_of operation; its_words = at.0; its_count = at.1; misfit = at.2 },
  λ others. submit_is_no_nodes words others,
)
submit_fault n operation words Document at = absurd at

pub submit_result : (n : ℕ) (operation : Operation) (asking : AskerWords) (word : List ℕ) (all words : List (List ℕ))
    (read : Result PendingLine ScheduleFault) → all ≡ asker_words asking ++ word ∷ words → word ≡ operation_text operation
    → MatchResult read (WordsGive n (submit_words asking operation words))
    (IsRowFault n (submit_of operation) (submit_words asking operation words))
    → MatchResult read (WordsGive n (codes "submit" ∷ all)) (IsWordsFault n (codes "submit" ∷ all))
submit_result n operation asking word all words (Ok unread) same is gives = rw (same, is) gives
submit_result n operation asking word all words (Err fault) same is wrong =
    rw (same, is) (submit_fault n operation _ fault wrong)

-- the words after a keyword
pub keyword_fault : (n : ℕ) (keyword : Keyword) (words : List (List ℕ)) (fault : ScheduleFault) → keyword ≢ Nodes
    → IsFaultAt n (keyword_places keyword) words fault → IsWordsFault n (text_of keyword ∷ words) fault
keyword_fault n keyword words fault other =
    let counts = keyword_count keyword words in
    let its : HasItsWords (places (line_of keyword)) (text_of keyword ∷ words) = (refl, keyword_words keyword words) in
    fault_at n (keyword_places keyword) words (λ told. IsWordsFault n (text_of keyword ∷ words) told)
    (λ wrong. (
      record { row = line_of keyword; its_words = its; other_count = λ all. wrong (counts.1 all) },
      λ others. other_is_no_nodes keyword words others other,
    ))
    (λ same misfit. (
      record { row = line_of keyword; its_words = its; its_count = counts.0 same; misfit = inr misfit },
      λ others. other_is_no_nodes keyword words others other,
    )) fault

-- what is told of a row whose words after the keyword are faulty
pub refused_row : {A : Type 0} (n : ℕ) (keyword met : Keyword) (words : List (List ℕ)) (fault : ScheduleFault)
    (result : Result A ScheduleFault) (IsRead : A → Type 0) → met ≡ keyword → keyword ≢ Nodes
    → IsErrAnd result (λ told. told ≡ fault) → IsFaultAt n (keyword_places keyword) words fault
    → MatchResult result IsRead (IsWordsFault n (text_of met ∷ words))
refused_row n keyword met words fault result IsRead is other left at =
    err_told result fault IsRead (IsWordsFault n (text_of met ∷ words)) left
    (rw is (keyword_fault n keyword words fault other at))

-- a round's line with fewer words than it wants
pub short_round : (n : ℕ) (words : List (List ℕ)) → length words < 2 → IsWordsFault n (text_of Round ∷ words) WordCount
short_round n words short = (
  record { row = line_of Round; its_words = (refl, keyword_words Round words); other_count = λ enough. omega (arith, short, enough) },
  λ others. other_is_no_nodes Round words others (λ e. cc),
)

-- a word of a round's line names no node
round_fault : (n : ℕ) (word list : List ℕ) → HasMisfit n (keyword_places Round) (word ∷ words_of list)
    → IsWordsFault n (text_of Round ∷ word ∷ words_of list) WordForm
round_fault n word list misfit = (
  record {
    row = line_of Round;
    its_words = (refl, keyword_words Round (word ∷ words_of list));
    its_count = omega (arith, document_is_there list);
    misfit = inr misfit;
  },
  λ others. other_is_no_nodes Round _ others (λ e. cc),
)

-- that of its leader
pub leader_fault : (n : ℕ) (word list : List ℕ) → ((node : ℕ) → ¬ (IsNode n word node))
    → IsWordsFault n (text_of Round ∷ word ∷ words_of list) WordForm
leader_fault n word list none = round_fault n word list (inl (λ is. none is.0 is.1))

-- or one of its members
pub members_fault : (n : ℕ) (word list : List ℕ) → ((nodes : List ℕ) → ¬ (NameEach n (words_of list) nodes))
    → IsWordsFault n (text_of Round ∷ word ∷ words_of list) WordForm
members_fault n word list none = round_fault n word list (inr (inl (λ is. none is.0 is.1)))

-- ---- lines that end too early
pub no_words : (n : ℕ) → IsWordsFault n [] WordCount
no_words n =
    (record { row = line_of Flush; its_words = tt; other_count = λ same. omega (arith, same) }, λ others same. cc)

-- no submission is so short
too_short : (n : ℕ) (words : List (List ℕ)) → length words < 4
    → HasItsWords (places (submit_of Remove)) (codes "submit" ∷ words) → IsWordsFault n (codes "submit" ∷ words) WordCount
too_short n words short its = (
  record { row = submit_of Remove; its_words = its; other_count = λ same. omega (arith, short, same) },
  λ others. submit_is_no_nodes words others,
)

pub short_submit : (n : ℕ) (words : List (List ℕ)) → length words < 4 → IsWordsFault n (codes "submit" ∷ words) WordCount
short_submit n [] short = too_short n _ short (refl, tt)
short_submit n (a ∷ []) short = too_short n _ short (refl, tt)
short_submit n (a ∷ b ∷ []) short = too_short n _ short (refl, tt)
short_submit n (a ∷ b ∷ c ∷ []) short = too_short n _ short (refl, tt)
short_submit n (a ∷ b ∷ c ∷ d ∷ words) short = absurd (omega (arith, short))

-- and no question
too_short_query : (n : ℕ) (words : List (List ℕ)) → length words < 2 → HasItsWords (places (query_of Count)) (codes "query" ∷ words)
    → IsWordsFault n (codes "query" ∷ words) WordCount
too_short_query n words short its = (
  record { row = query_of Count; its_words = its; other_count = λ same. omega (arith, short, same) },
  λ others. query_is_no_nodes words others,
)

pub short_query : (n : ℕ) (words : List (List ℕ)) → length words < 2 → IsWordsFault n (codes "query" ∷ words) WordCount
short_query n [] short = too_short_query n _ short (refl, tt)
short_query n (a ∷ []) short = too_short_query n _ short (refl, tt)
short_query n (a ∷ b ∷ words) short = absurd (omega (arith, short))

-- ---- words that no row begins with
pub unknown_operation : (a b c word : List ℕ) (words : List (List ℕ)) → ((operation : Operation) → word ≢ operation_text operation)
    → HasUnknownWord (codes "submit" ∷ a ∷ b ∷ c ∷ word ∷ words)
unknown_operation a b c word words none (line_of keyword) h = not_submit keyword h.0
unknown_operation a b c word words none (submit_of operation) h = none operation h.1.0
unknown_operation a b c word words none (query_of question) h = submit_is_no_query h.0

pub unknown_question : (a word : List ℕ) (words : List (List ℕ)) → ((question : Question) → word ≢ question_text question)
    → HasUnknownWord (codes "query" ∷ a ∷ word ∷ words)
unknown_question a word words none (line_of keyword) h = not_query keyword h.0
unknown_question a word words none (submit_of operation) h = submit_is_no_query (sym h.0)
unknown_question a word words none (query_of question) h = none question h.1.0

pub unknown_first : (word : List ℕ) (words : List (List ℕ)) → word ≢ codes "submit" → word ≢ codes "query"
    → ((keyword : Keyword) → word ≢ text_of keyword) → HasUnknownWord (word ∷ words)
unknown_first word words no_submit no_query none (line_of keyword) h = none keyword h.0
unknown_first word words no_submit no_query none (submit_of operation) h = no_submit h.0
unknown_first word words no_submit no_query none (query_of question) h = no_query h.0
