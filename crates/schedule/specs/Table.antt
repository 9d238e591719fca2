-- The lines of a schedule: which words each has, and what is wrong with other lines.
use Rattle.std.specs.Prelude.{◌≡◌, ℕ, ℤ, ◌+◌, ◌≤◌, ◌^◌, ◌⊎◌, Bool, true, false, List, [], ◌∷◌, ◌++◌, length, take, drop, codes, decimal}
use Rattle.std.specs.Prelude.{Any}
use Rattle.mfjson.specs.Datetime.{ReadsAs}
use Rattle.mfjson.specs.Document.{IsDocumentOf}
use Rattle.mfjson.specs.declared.feature.Feature.{Feature}
use Rattle.tpoint.specs.Extents.{Span, Area}
use Rattle.tpoint.specs.Ids.{IsId}
use Rattle.stable.specs.declared.scripted.Failing.{Failing}
use Rattle.schedule.specs.Extents.{IsPeriod, IsRect}
use Rattle.schedule.specs.Keywords.{text_of, failing_text, operation_text, question_text}
use Rattle.schedule.specs.Numbers.{WritesNumber, IsCoordinate}
use Rattle.schedule.specs.Words.{words_of}
use Rattle.schedule.specs.declared.keyword.Keyword.{Keyword}
use Rattle.schedule.specs.declared.keyword.Keyword.TheVariants.{Nodes, Deliver, Drop, Flush, Timeout, Tick, Checkpoint, Trim, Restart, Fault, Round}
use Rattle.schedule.specs.declared.keyword.Operation.{Operation}
use Rattle.schedule.specs.declared.keyword.Operation.TheVariants.{Put, Append, Remove}
use Rattle.schedule.specs.declared.keyword.Question.{Question}
use Rattle.schedule.specs.declared.keyword.Question.TheVariants.{At, Cut, Ever, Always, Within, Get, Count}
use Rattle.schedule.specs.declared.fault.ScheduleFault.{ScheduleFault}
use Rattle.schedule.specs.declared.fault.ScheduleFault.TheVariants.{NotPrintable, UnknownWord, NodesLine, WordCount, WordForm, Document}

-- ---- the table
-- what a place of a line wants: a certain word, or words of a form
pub data Place : Type 0 where
  the_word : List ℕ → Place
  a_run_size : Place
  a_node : Place
  a_client : Place
  a_request_number : Place
  a_frame_number : Place
  a_failing : Place
  an_id : Place
  a_datetime : Place
  a_coordinate : Place
  -- two words
  a_period : Place
  -- four words
  a_rectangle : Place
  -- one word and all others that are left, which are the words of a document
  a_document : Place
  -- one word and all others that are left, each of which names a node
  some_nodes : Place

-- a row of the table: a line that is known by its first word, a submission or a question
pub data Row : Type 0 where
  line_of : Keyword → Row
  submit_of : Operation → Row
  query_of : Question → Row

-- the places after a keyword
abbrev pub keyword_places : Keyword → List Place
keyword_places Nodes = a_run_size ∷ []
keyword_places Deliver = a_frame_number ∷ []
keyword_places Drop = a_frame_number ∷ []
keyword_places Flush = []
keyword_places Timeout = a_node ∷ []
keyword_places Tick = a_node ∷ []
keyword_places Checkpoint = a_node ∷ []
keyword_places Trim = a_node ∷ []
keyword_places Restart = a_node ∷ []
keyword_places Fault = a_node ∷ a_failing ∷ []
keyword_places Round = a_node ∷ some_nodes ∷ []

-- the places after `put`, `append` or `remove`
abbrev pub operation_places : Operation → List Place
operation_places Put = a_document ∷ []
operation_places Append = an_id ∷ a_datetime ∷ a_coordinate ∷ a_coordinate ∷ []
operation_places Remove = an_id ∷ []

-- the places after `at`, `cut` and so on
abbrev pub question_places : Question → List Place
question_places At = an_id ∷ a_datetime ∷ []
question_places Cut = an_id ∷ a_period ∷ []
question_places Ever = an_id ∷ a_period ∷ a_rectangle ∷ []
question_places Always = an_id ∷ a_period ∷ a_rectangle ∷ []
question_places Within = a_period ∷ a_rectangle ∷ []
question_places Get = an_id ∷ []
question_places Count = []

-- the places of a row
abbrev pub places : Row → List Place
places (line_of keyword) = the_word (text_of keyword) ∷ keyword_places keyword
places (submit_of operation) = the_word (codes "submit") ∷ a_node ∷ a_client ∷ a_request_number
    ∷ the_word (operation_text operation) ∷ operation_places operation
places (query_of question) = the_word (codes "query") ∷ a_node
    ∷ the_word (question_text question) ∷ question_places question

-- ---- how many words there are to be
-- how many words a place wants, a document and a list of nodes one at least
abbrev pub width : Place → ℕ
width a_period = 2
width a_rectangle = 4
width _ = 1

abbrev pub count : List Place → ℕ
count [] = 0
count (place ∷ others) = width place + count others

-- any number of words more may stand at the places: one wants a document or a list of nodes
abbrev pub takes_more : List Place → Bool
takes_more [] = false
takes_more (a_document ∷ others) = true
takes_more (some_nodes ∷ others) = true
takes_more (place ∷ others) = takes_more others

-- as many are there as are wanted, or more where more may be
abbrev pub IsCount : Bool → ℕ → ℕ → Type 0
IsCount true wanted there = wanted ≤ there
IsCount false wanted there = there ≡ wanted

-- there are as many words as the places want; a document and a list of nodes have any number more
abbrev pub HasItsCount : List Place → List (List ℕ) → Type 0
HasItsCount at words = IsCount (takes_more at) (count at) (length words)

-- ---- which words
-- how many nodes a run has
abbrev pub IsRunSize : ℕ → Type 0
IsRunSize n = (n ≡ 3) ⊎ (n ≡ 5) ⊎ (n ≡ 7)

-- n nodes are there; frames have the numbers of a u64
abbrev pub IsNode : ℕ → List ℕ → ℕ → Type 0
IsNode n = WritesNumber 0 n

-- the words name these nodes, one by one
abbrev pub NameEach : ℕ → List (List ℕ) → List ℕ → Type 0
NameEach n [] [] = Unit {0}
NameEach n (word ∷ words) (node ∷ nodes) = IsNode n word node × NameEach n words nodes
NameEach n _ _ = ⊥

abbrev pub IsClient : List ℕ → ℕ → Type 0
IsClient = WritesNumber 0 256

abbrev pub IsRequestNumber : List ℕ → ℕ → Type 0
IsRequestNumber = WritesNumber 1 (2 ^ 64)

abbrev pub IsFrameNumber : List ℕ → ℕ → Type 0
IsFrameNumber = WritesNumber 0 (2 ^ 64)

-- what the words at a place say; a certain word says nothing, and the places that are not named say a number
abbrev pub Value : Place → Type 0
Value (the_word wanted) = Unit {0}
Value a_failing = Failing
Value an_id = List ℕ
Value a_coordinate = ℤ
Value a_period = Span
Value a_rectangle = Area
Value a_document = Feature
Value some_nodes = List ℕ
Value _ = ℕ

-- the words are what the place wants, in a run of n nodes, and say this value
abbrev pub PlaceSays : ℕ → (place : Place) → List (List ℕ) → Value place → Type 0
PlaceSays n (the_word wanted) (word ∷ []) nothing = word ≡ wanted
PlaceSays n a_run_size (word ∷ []) size = IsRunSize size × (word ≡ decimal size)
PlaceSays n a_node (word ∷ []) node = IsNode n word node
PlaceSays n a_client (word ∷ []) client = IsClient word client
PlaceSays n a_request_number (word ∷ []) number = IsRequestNumber word number
PlaceSays n a_frame_number (word ∷ []) frame = IsFrameNumber word frame
PlaceSays n a_failing (word ∷ []) failing = word ≡ failing_text failing
PlaceSays n an_id (word ∷ []) id = (id ≡ word) × IsId word
PlaceSays n a_datetime (word ∷ []) t = ReadsAs word t
PlaceSays n a_coordinate (word ∷ []) value = IsCoordinate word value
PlaceSays n a_period (begin ∷ end ∷ []) period = IsPeriod begin end period
PlaceSays n a_rectangle (x0 ∷ y0 ∷ x1 ∷ y1 ∷ []) rect = IsRect x0 y0 x1 y1 rect
PlaceSays n a_document words feature = (document : List ℕ) × (words ≡ words_of document) × IsDocumentOf document feature
PlaceSays n some_nodes words nodes = NameEach n words nodes
PlaceSays n _ _ _ = ⊥

-- the words are what the place wants; that a document stands for no feature is told by the sixth fault alone
abbrev pub IsOfForm : ℕ → Place → List (List ℕ) → Type 0
IsOfForm n a_document words = Unit {0}
IsOfForm n place words = (value : Value place) × PlaceSays n place words value

-- as far as there are words, those that have to be certain words are
abbrev pub HasItsWords : List Place → List (List ℕ) → Type 0
HasItsWords [] words = Unit {0}
HasItsWords (the_word wanted ∷ others) [] = Unit {0}
HasItsWords (the_word wanted ∷ others) (word ∷ words) = (word ≡ wanted) × HasItsWords others words
HasItsWords (place ∷ others) words = HasItsWords others (drop (width place) words)

-- the words at a place, of those that are left
abbrev pub words_at : Place → List (List ℕ) → List (List ℕ)
words_at a_document words = words
words_at some_nodes words = words
words_at place words = take (width place) words

-- a value for each place
abbrev pub Values : List Place → Type 0
Values [] = Unit {0}
Values (place ∷ others) = Value place × Values others

-- the words say these values, place by place
abbrev pub SayEach : ℕ → (at : List Place) → List (List ℕ) → Values at → Type 0
SayEach n [] words values = Unit {0}
SayEach n (place ∷ others) words values =
    PlaceSays n place (words_at place words) values.0 × SayEach n others (drop (width place) words) values.1

-- there are as many words as the places want, and they say these values
abbrev pub SayAll : ℕ → (at : List Place) → List (List ℕ) → Values at → Type 0
SayAll n at words values = HasItsCount at words × SayEach n at words values

-- the words at some place aren't what it wants
abbrev pub HasMisfit : ℕ → List Place → List (List ℕ) → Type 0
HasMisfit n [] words = ⊥
HasMisfit n (place ∷ others) words =
    (¬ (IsOfForm n place (words_at place words))) ⊎ HasMisfit n others (drop (width place) words)

-- ---- what is wrong with a line
abbrev pub IsPrintable : ℕ → Type 0
IsPrintable byte = (0x20 ≤ byte) × (byte ≤ 0x7E)

-- a byte does not print
abbrev pub IsNotPrintable : List ℕ → Type 0
IsNotPrintable text = Any (λ byte. ¬ (IsPrintable byte)) text

-- no row begins so: the first word is none of the table's, or the one that says which submission
-- or question it is
abbrev pub HasUnknownWord : List (List ℕ) → Type 0
HasUnknownWord words = (row : Row) → ¬ (HasItsWords (places row) words)

-- there are more or fewer words than the row has that begins so
pub record HasOtherCount (words : List (List ℕ)) : Type 0 where
  pub row : Row
  pub its_words : HasItsWords (places row) words
  pub other_count : ¬ (HasItsCount (places row) words)

-- there are as many words as the row has that begins so, and some aren't what their place wants
pub record HasWrongWord (n : ℕ) (words : List (List ℕ)) : Type 0 where
  pub row : Row
  pub its_words : HasItsWords (places row) words
  pub its_count : HasItsCount (places row) words
  pub misfit : HasMisfit n (places row) words

-- the words put a document that stands for no feature
pub record HasWrongDocument (words : List (List ℕ)) : Type 0 where
  pub node : List ℕ
  pub client : List ℕ
  pub number : List ℕ
  pub document : List ℕ
  pub words_are : words ≡ codes "submit" ∷ node ∷ client ∷ number ∷ codes "put" ∷ words_of document
  pub stands_for_none : (feature : Feature) → ¬ (IsDocumentOf document feature)

-- what is wrong with a line after the first, in a run of n nodes
abbrev pub HasFault : ℕ → List ℕ → ScheduleFault → Type 0
HasFault n text NotPrintable = IsNotPrintable text
HasFault n text UnknownWord = HasUnknownWord (words_of text)
HasFault n text NodesLine = (others : List (List ℕ)) × (words_of text ≡ codes "nodes" ∷ others)
HasFault n text WordCount = HasOtherCount (words_of text)
HasFault n text WordForm = HasWrongWord n (words_of text)
HasFault n text Document = HasWrongDocument (words_of text)

-- the first line of a run of n nodes is `nodes` and the number of nodes in decimal, which is 3, 5 or 7
pub record IsNodesLine (text : List ℕ) (n : ℕ) : Type 0 where
  pub size : IsRunSize n
  pub spelled : text ≡ codes "nodes " ++ decimal n

-- what is wrong with the first line; whatever else is, comes with the third and is never the lowest
abbrev pub HasFirstFault : List ℕ → ScheduleFault → Type 0
HasFirstFault text NotPrintable = IsNotPrintable text
HasFirstFault text UnknownWord = HasUnknownWord (words_of text)
HasFirstFault text NodesLine = (n : ℕ) → ¬ (IsNodesLine text n)
HasFirstFault text WordCount = ⊥
HasFirstFault text WordForm = ⊥
HasFirstFault text Document = ⊥
