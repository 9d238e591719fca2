-- A line that spells an action has no fault.
use Rattle.std.proofs.Common.{◌≡◌, ◌⊎◌, ℕ, ◌≤◌, List, ◌∷◌, length, Result, Ok, Err, MatchResult, refl, sym, ◌∙◌, ap}
use Rattle.std.proofs.Common.{subst, inl, inr, arith}
use Rattle.std.specs.List.{All, join_with_byte}
use Rattle.std.proofs.lemmas.List.Splits.{join_with_byte-slice_split}
use Rattle.mfjson.specs.Document.{IsDocumentOf}
use Rattle.mfjson.specs.declared.fault.MfFault.{MfFault}
use Rattle.mfjson.specs.declared.fault.MfFault.TheVariants as mf_fault
use Rattle.mfjson.specs.declared.feature.Feature.{Feature}
use Rattle.store.specs.declared.op.Op.TheVariants as op
use Rattle.schedule.specs.Codes.{code_of, IsLowestFault}
use Rattle.schedule.specs.Reading.{IsUnreadFor}
use Rattle.schedule.specs.Rows.{IsWordsFault, in_first_line}
use Rattle.schedule.specs.Spelling.{Spells, SpellsOp, SpellsRound, WordsSpell}
use Rattle.schedule.specs.Table.{line_of, submit_of, HasFault, HasFirstFault, HasUnknownWord}
use Rattle.schedule.specs.Table.{HasWrongDocument, IsPrintable, SayEach}
use Rattle.schedule.specs.Table.{places}
use Rattle.schedule.specs.PendingLines.{Becomes, DocumentWasRefused, IsNoList, IsNotRead, LineGives, Puts, WordsGive}
use Rattle.schedule.specs.Words.{blank, words_of}
use Rattle.schedule.specs.declared.action.Action.{Action}
use Rattle.events.specs.declared.fault.WorldFault.TheVariants as world_fault
use Rattle.schedule.specs.declared.replay_fault.ReplayCause.{ReplayCause}
use Rattle.schedule.specs.declared.replay_fault.ReplayCause.TheVariants.{Schedule, World}
use Rattle.schedule.specs.declared.fault.ScheduleFault.{ScheduleFault}
use Rattle.schedule.specs.declared.fault.ScheduleFault.TheVariants.{NotPrintable, UnknownWord, NodesLine, WordCount, WordForm, Document}
use Rattle.schedule.specs.declared.keyword.Keyword.TheVariants as keyword
use Rattle.schedule.specs.declared.keyword.Operation.TheVariants as operation
use Rattle.schedule.specs.declared.pending_line.PendingLine.{PendingLine}
use Rattle.schedule.specs.declared.pending_line.PendingLine.TheVariants as given
use Rattle.schedule.specs.declared.pending_line.PendingRound.{PendingRound}
use Rattle.schedule.specs.declared.pending_line.Putting.{Putting}
use Rattle.schedule.proofs.Faults.{IsRowOf, document_lowest, from_two, from_three, lowest_unprintable}
use Rattle.schedule.proofs.Faults.{prints_throughout, row_faultless}
use Rattle.schedule.proofs.Faults.{row_words, submit_is_no_nodes, words_fault_lowest}
use Rattle.schedule.proofs.ByPlaces.{IsLine, of_row, row_of}
use Rattle.schedule.proofs.RowLemmas.{document_is_there, members_fault, op_count}

-- ---- the row of a line
-- a document is one word at least
document_behind : (words : List (List ℕ)) (document : List ℕ) → words ≡ words_of document → 1 ≤ length words
document_behind words document same = rw same (document_is_there document)

-- words that put a document are those of a row, whatever it stands for
put_row_of : (n : ℕ) (words : List (List ℕ)) (p : Putting) → Puts n words p → IsRowOf n words
put_row_of n words p (s, behind) = rw s.words_are (record {
  row = submit_of operation.Put;
  fit = ((tt, refl), ((p.node, s.to_node), ((p.client, s.of_client), ((p.number, s.under_number), ((tt, refl), (tt, tt))))));
  its_count =
      (op_count operation.Put s.node_word s.client_word s.number_word s.others).0 (document_behind s.others p.document.now behind);
  no_nodes = λ more. submit_is_no_nodes _ more;
})

-- words that were read begin as a row
given_known : (n : ℕ) (words : List (List ℕ)) (unread : PendingLine) → WordsGive n words unread → ¬ (HasUnknownWord words)
given_known n words (given.Whole action) spells unknown =
    let is = row_of n words action spells in unknown is.row (row_words n words is)
given_known n words (given.Put p) puts unknown =
    let is = put_row_of n words p puts in unknown is.row (row_words n words is)
given_known n words (given.Round r) leads unknown = unknown (line_of keyword.Round) (rw leads.words_are (refl, tt))

-- ---- documents
-- one text has these words
pub same_text : (a b : List ℕ) → words_of a ≡ words_of b → a ≡ b
same_text a b same =
    sym (join_with_byte-slice_split blank a) ∙ ap (join_with_byte blank) same ∙ join_with_byte-slice_split blank b

-- a line that puts a feature has no wrong document
no_wrong_put : (n : ℕ) (words : List (List ℕ)) (action : Action) → IsLine n words action (submit_of operation.Put)
    → ¬ (HasWrongDocument words)
no_wrong_put n words action l h =
    let said = subst (λ (ws : List (List ℕ)). SayEach n (places (submit_of operation.Put)) ws l.values) h.words_are l.said in
    let says = said.1.1.1.1.1.0 in
    let text : says.0 ≡ h.document = same_text says.0 h.document (sym says.1) in
    let feature = l.values.1.1.1.1.1.0 in
    h.stands_for_none feature (subst (λ (t : List ℕ). IsDocumentOf t feature) text says.2)

no_wrong_document : (n : ℕ) (words : List (List ℕ)) (action : Action) → WordsSpell n words action
    → ¬ (HasWrongDocument words)
no_wrong_document n words action s h =
    no_wrong_put n words action (of_row n words action (submit_of operation.Put) s (rw h.words_are (refl, (refl, tt)))) h

-- a line that spells an action has none of the faults
pub spelled_faultless : (n : ℕ) (text : List ℕ) (action : Action) → Spells n text action → (fault : ScheduleFault)
    → ¬ (HasFault n text fault)
spelled_faultless n text action s NotPrintable h = row_faultless n text s.prints (row_of n _ action s.words) NotPrintable (λ e. cc) h
spelled_faultless n text action s UnknownWord h = row_faultless n text s.prints (row_of n _ action s.words) UnknownWord (λ e. cc) h
spelled_faultless n text action s NodesLine h = row_faultless n text s.prints (row_of n _ action s.words) NodesLine (λ e. cc) h
spelled_faultless n text action s WordCount h = row_faultless n text s.prints (row_of n _ action s.words) WordCount (λ e. cc) h
spelled_faultless n text action s WordForm h = row_faultless n text s.prints (row_of n _ action s.words) WordForm (λ e. cc) h
spelled_faultless n text action s Document h = no_wrong_document n (words_of text) action s.words h

-- bytes that are refused, and not for memory, are no document
pub no_document : (read : Result Feature MfFault) (fault : MfFault) (feature : Feature) → read ≡ Err fault
    → ¬ (fault ≡ mf_fault.Memory) → (read ≡ Ok feature) ⊎ (read ≡ Err mf_fault.Memory) → ⊥
no_document read fault feature refused other answered = elim answered [
  | inl ok ↦ let e = sym refused ∙ ok in cc
  | inr memory ↦ let e = sym refused ∙ memory in other (let same : fault ≡ mf_fault.Memory = cc in same)
]

-- ---- what was read
-- what the words are, their line is
pub line_read : (n : ℕ) (text : List ℕ) (words : List (List ℕ)) (read : Result PendingLine ScheduleFault)
    → All IsPrintable text → words ≡ words_of text
    → MatchResult read (WordsGive n words) (IsWordsFault n words)
    → MatchResult read (LineGives n text) (IsLowestFault (HasFault n text))
line_read n text words (Ok unread) prints same gives =
    record { prints = prints; words = subst (λ (ws : List (List ℕ)). WordsGive n ws unread) same gives }
line_read n text words (Err fault) prints same wrong =
    words_fault_lowest n text fault prints (subst (λ (ws : List (List ℕ)). IsWordsFault n ws fault) same wrong)

-- with its document, or its members, a line is an action
pub line_spells : (n : ℕ) (text : List ℕ) (unread : PendingLine) (action : Action) → LineGives n text unread → Becomes n unread action
    → Spells n text action
line_spells n text (given.Whole whole) action gives same = rw same (record { prints = gives.prints; words = gives.words })
line_spells n text (given.Put p) action gives (feature, is, same) =
    let puts = gives.words in
    let its_count = document_behind puts.0.others p.document.now puts.1 in
    let spells : SpellsOp n operation.Put puts.0.others (op.Put feature.id feature.seq) =
    ((feature, tt), (its_count, ((p.document.now, puts.1, is), tt)), refl) in
    rw same (record { prints = gives.prints; words = (operation.Put, puts.0, spells) })
line_spells n text (given.Round r) action gives (members, named, same) =
    let leads = gives.words in
    let spells : SpellsRound n (leads.node_word ∷ words_of r.members.now) r.node members = record {
      node_word = leads.node_word;
      others = words_of r.members.now;
      words_are = refl;
      leader = leads.leader;
      some = document_is_there r.members.now;
      named = named;
    } in
    rw same (record { prints = gives.prints; words = (_, leads.words_are, spells) })

-- or it has a wrong one, or memory was wanting
wrong_document : (n : ℕ) (text : List ℕ) (p : Putting) (cause : ReplayCause) → LineGives n text (given.Put p)
    → DocumentWasRefused p.document.now cause → IsUnreadFor n text cause
wrong_document n text p (World world_fault.Memory) gives not = tt
wrong_document n text p (World other) gives not = absurd not
wrong_document n text p (Schedule fault) gives not =
    let s = gives.words.0 in
    let wrong : HasWrongDocument (words_of text) = record {
      node = s.node_word;
      client = s.client_word;
      number = s.number_word;
      document = p.document.now;
      words_are = rw (← gives.words.1) s.words_are;
      stands_for_none = not.1;
    } in
    let lowest = document_lowest n text gives.prints (put_row_of n (words_of text) p gives.words) wrong in
    subst (IsLowestFault (HasFault n text)) (sym not.0) lowest

wrong_list : (n : ℕ) (text : List ℕ) (r : PendingRound) (cause : ReplayCause) → LineGives n text (given.Round r)
    → IsNoList n r.members.now cause → IsUnreadFor n text cause
wrong_list n text r (World world_fault.Memory) gives not = tt
wrong_list n text r (World other) gives not = absurd not
wrong_list n text r (Schedule fault) gives not =
    let leads = gives.words in
    let wrong : IsWordsFault n (words_of text) WordForm =
    rw leads.words_are (members_fault n leads.node_word r.members.now not.1) in
    subst (IsLowestFault (HasFault n text)) (sym not.0) (words_fault_lowest n text WordForm gives.prints wrong)

pub line_refused : (n : ℕ) (text : List ℕ) (unread : PendingLine) (cause : ReplayCause) → LineGives n text unread
    → IsNotRead n unread cause → IsUnreadFor n text cause
line_refused n text (given.Whole whole) cause gives not = absurd not
line_refused n text (given.Put p) cause gives not = wrong_document n text p cause gives not
line_refused n text (given.Round r) cause gives not = wrong_list n text r cause gives not

pub line_result : (n : ℕ) (text : List ℕ) (unread : PendingLine) (read : Result Action ReplayCause) → LineGives n text unread
    → MatchResult read (Becomes n unread) (IsNotRead n unread)
    → MatchResult read (Spells n text) (IsUnreadFor n text)
line_result n text unread (Ok action) gives becomes = line_spells n text unread action gives becomes
line_result n text unread (Err cause) gives not = line_refused n text unread cause gives not

-- ---- first lines
-- a first line that would do as a later one
pub given_first : (n : ℕ) (text : List ℕ) (unread : PendingLine) → HasFirstFault text NodesLine → LineGives n text unread
    → IsLowestFault (HasFirstFault text) NodesLine
given_first n text unread wrong gives = record {
  is_there = wrong;
  lowest = from_three (HasFirstFault text) (prints_throughout text gives.prints) (given_known n (words_of text) unread gives.words);
}

-- a first line whose lowest fault as a later one is above the second
beyond_two : (n : ℕ) (text : List ℕ) (fault : ScheduleFault) → HasFirstFault text NodesLine → IsLowestFault (HasFault n text) fault
    → 3 ≤ code_of fault → IsLowestFault (HasFirstFault text) NodesLine
beyond_two n text fault wrong l above = record {
  is_there = wrong;
  lowest = from_three (HasFirstFault text) (λ h. absurd (omega (arith, above, l.lowest NotPrintable h)))
      (λ h. absurd (omega (arith, above, l.lowest UnknownWord h)));
}

-- a first line that would not
pub faulty_first : (n : ℕ) (text : List ℕ) (fault : ScheduleFault) → HasFirstFault text NodesLine → IsLowestFault (HasFault n text) fault
    → IsLowestFault (HasFirstFault text) (in_first_line fault)
faulty_first n text NotPrintable wrong l = lowest_unprintable (HasFirstFault text) l.is_there
faulty_first n text UnknownWord wrong l = record {
  is_there = l.is_there;
  lowest = from_two (HasFirstFault text) (λ h. absurd (omega (arith, l.lowest NotPrintable h)));
}
faulty_first n text NodesLine wrong l = beyond_two n text NodesLine wrong l (omega arith)
faulty_first n text WordCount wrong l = beyond_two n text WordCount wrong l (omega arith)
faulty_first n text WordForm wrong l = beyond_two n text WordForm wrong l (omega arith)
faulty_first n text Document wrong l = beyond_two n text Document wrong l (omega arith)
