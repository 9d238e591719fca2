-- Which lines spell which actions.
use Rattle.std.specs.Prelude.{◌≡◌, ℕ, ◌≤◌, List, [], ◌∷◌, length, codes, All}
use Rattle.store.specs.declared.op.Op.{Op}
use Rattle.store.specs.declared.op.Op.TheVariants as op
use Rattle.store.specs.declared.query.Query.{Query}
use Rattle.store.specs.declared.query.Query.TheVariants as query
use Rattle.stable.specs.declared.scripted.Failing.{Failing}
use Rattle.events.specs.declared.event.Event.TheVariants as event
use Rattle.schedule.specs.Keywords.{failing_text, operation_text, question_text}
use Rattle.schedule.specs.Table.{IsNode, NameEach, IsClient, IsRequestNumber, IsFrameNumber, IsPrintable}
use Rattle.schedule.specs.Table.{Values, SayAll, operation_places, question_places}
use Rattle.schedule.specs.Words.{words_of}
use Rattle.schedule.specs.declared.action.Action.{Action}
use Rattle.schedule.specs.declared.action.Action.TheVariants.{Step, Flush, Round}
use Rattle.schedule.specs.declared.keyword.Operation.{Operation}
use Rattle.schedule.specs.declared.keyword.Operation.TheVariants as operation
use Rattle.schedule.specs.declared.keyword.Question.{Question}
use Rattle.schedule.specs.declared.keyword.Question.TheVariants as question

-- ---- submissions
-- what is asked for, made of the values at the operation's places
abbrev pub op_made : (operation : Operation) → Values (operation_places operation) → Op
op_made operation.Put (feature, _) = op.Put feature.id feature.seq
op_made operation.Append (id, (t, (x, (y, _)))) = op.Append (record { id = id; point = record { t = t; x = x; y = y } })
op_made operation.Remove (id, _) = op.Remove id

-- the words after `put`, `append` or `remove` spell what is asked for
abbrev pub SpellsOp : ℕ → Operation → List (List ℕ) → Op → Type 0
SpellsOp n operation words asked = (values : Values (operation_places operation))
    × SayAll n (operation_places operation) words values × (asked ≡ op_made operation values)

-- the words submit a client's request to the node, and others are left for what the operation needs
pub record SubmitsRequest (n : ℕ) (operation : Operation) (words : List (List ℕ)) (node client number : ℕ) : Type 0 where
  pub node_word : List ℕ
  pub client_word : List ℕ
  pub number_word : List ℕ
  pub others : List (List ℕ)
  pub words_are : words ≡ codes "submit" ∷ node_word ∷ client_word ∷ number_word
      ∷ operation_text operation ∷ others
  pub to_node : IsNode n node_word node
  pub of_client : IsClient client_word client
  pub under_number : IsRequestNumber number_word number

-- ---- queries
-- the query, made of the values at the question's places
abbrev pub query_made : (question : Question) → Values (question_places question) → Query
query_made question.At (id, (t, _)) = query.At id t
query_made question.Cut (id, (period, _)) = query.Cut id period
query_made question.Ever (id, (period, (rect, _))) = query.Ever id period rect
query_made question.Always (id, (period, (rect, _))) = query.Always id period rect
query_made question.Within (period, (rect, _)) = query.Within period rect
query_made question.Get (id, _) = query.Get id
query_made question.Count _ = query.Count

-- the words after the one that says which question it is spell the query
abbrev pub SpellsQuery : ℕ → Question → List (List ℕ) → Query → Type 0
SpellsQuery n question words asked = (values : Values (question_places question))
    × SayAll n (question_places question) words values × (asked ≡ query_made question values)

-- the words ask the node this question, and others are left for what it needs
pub record Asks (n : ℕ) (question : Question) (words : List (List ℕ)) (node : ℕ) : Type 0 where
  pub node_word : List ℕ
  pub others : List (List ℕ)
  pub words_are : words ≡ codes "query" ∷ node_word ∷ question_text question ∷ others
  pub to_node : IsNode n node_word node

-- ---- lines
-- there is one word, of which P holds
abbrev pub IsOneWord : (List ℕ → Type 0) → List (List ℕ) → Type 0
IsOneWord P words = (word : List ℕ) × (words ≡ word ∷ []) × P word

-- the words after `fault` arm the node's storage
abbrev pub ArmsNode : ℕ → List (List ℕ) → ℕ → Failing → Type 0
ArmsNode n words node failing =
    (word : List ℕ) × (words ≡ word ∷ failing_text failing ∷ []) × IsNode n word node

-- the words are this one, and others of which P holds
abbrev pub BeginsWith : List ℕ → List (List ℕ) → (List (List ℕ) → Type 0) → Type 0
BeginsWith first words P = (others : List (List ℕ)) × (words ≡ first ∷ others) × P others

-- the words after `round` name the node that leads it, and then its members, of which there is one at least
pub record SpellsRound (n : ℕ) (words : List (List ℕ)) (node : ℕ) (members : List ℕ) : Type 0 where
  pub node_word : List ℕ
  pub others : List (List ℕ)
  pub words_are : words ≡ node_word ∷ others
  pub leader : IsNode n node_word node
  pub some : 1 ≤ length others
  pub named : NameEach n others members

-- the words spell the action, in a run of n nodes
abbrev pub WordsSpell : ℕ → List (List ℕ) → Action → Type 0
WordsSpell n words (Step (event.Submit node s)) =
    (operation : Operation) × (submits : SubmitsRequest n operation words node s.client s.number)
    × SpellsOp n operation submits.others s.op
WordsSpell n words (Step (event.Deliver frame)) =
    BeginsWith (codes "deliver") words (IsOneWord (λ word. IsFrameNumber word frame))
WordsSpell n words (Step (event.Drop frame)) =
    BeginsWith (codes "drop") words (IsOneWord (λ word. IsFrameNumber word frame))
WordsSpell n words Flush = BeginsWith (codes "flush") words (λ others. others ≡ [])
WordsSpell n words (Round node members) =
    BeginsWith (codes "round") words (λ others. SpellsRound n others node members)
WordsSpell n words (Step (event.Timeout node)) =
    BeginsWith (codes "timeout") words (IsOneWord (λ word. IsNode n word node))
WordsSpell n words (Step (event.Tick node)) =
    BeginsWith (codes "tick") words (IsOneWord (λ word. IsNode n word node))
WordsSpell n words (Step (event.Checkpoint node)) =
    BeginsWith (codes "checkpoint") words (IsOneWord (λ word. IsNode n word node))
WordsSpell n words (Step (event.Trim node)) =
    BeginsWith (codes "trim") words (IsOneWord (λ word. IsNode n word node))
WordsSpell n words (Step (event.Restart node)) =
    BeginsWith (codes "restart") words (IsOneWord (λ word. IsNode n word node))
WordsSpell n words (Step (event.Fault node failing)) =
    BeginsWith (codes "fault") words (λ others. ArmsNode n others node failing)
WordsSpell n words (Step (event.Query node asked)) =
    (question : Question) × (asks : Asks n question words node) × SpellsQuery n question asks.others asked

-- the line spells the action, in a run of n nodes
pub record Spells (n : ℕ) (text : List ℕ) (action : Action) : Type 0 where
  pub prints : All IsPrintable text
  pub words : WordsSpell n (words_of text) action
