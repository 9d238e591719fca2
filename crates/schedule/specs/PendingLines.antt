-- Lines that were read but for their documents, or for the members of their rounds.
use Rattle.std.specs.Prelude.{◌≡◌, ℕ, List, ◌∷◌, codes, All}
use Rattle.mfjson.specs.Document.{IsDocumentOf}
use Rattle.mfjson.specs.declared.feature.Feature.{Feature}
use Rattle.store.specs.declared.op.Op.TheVariants as op
use Rattle.events.specs.declared.event.Event.TheVariants as event
use Rattle.schedule.specs.Causes.{WhyUnread}
use Rattle.schedule.specs.Spelling.{SubmitsRequest, WordsSpell}
use Rattle.schedule.specs.Table.{IsNode, IsPrintable, NameEach}
use Rattle.schedule.specs.Words.{words_of}
use Rattle.schedule.specs.declared.action.Action.{Action}
use Rattle.schedule.specs.declared.action.Action.TheVariants as act
use Rattle.schedule.specs.declared.fault.ScheduleFault.{ScheduleFault}
use Rattle.schedule.specs.declared.fault.ScheduleFault.TheVariants.{Document, WordForm}
use Rattle.schedule.specs.declared.keyword.Operation.TheVariants as operation
use Rattle.schedule.specs.declared.pending_line.PendingLine.{PendingLine}
use Rattle.schedule.specs.declared.pending_line.PendingLine.TheVariants.{Whole, Put, Round}
use Rattle.schedule.specs.declared.pending_line.Putting.{Putting}
use Rattle.schedule.specs.declared.pending_line.PendingRound.{PendingRound}
use Rattle.schedule.specs.declared.replay_fault.ReplayCause.{ReplayCause}

-- the words put the document, whatever it stands for
abbrev pub Puts : ℕ → List (List ℕ) → Putting → Type 0
Puts n words p = (submits : SubmitsRequest n operation.Put words p.node p.client p.number)
    × (submits.others ≡ words_of p.document.now)

-- the words have the node lead a round, whomever they name as members
pub record LeadsRound (n : ℕ) (words : List (List ℕ)) (r : PendingRound) : Type 0 where
  pub node_word : List ℕ
  pub words_are : words ≡ codes "round" ∷ node_word ∷ words_of r.members.now
  pub leader : IsNode n node_word r.node

-- the words spell an action, or put a document, or have a node lead a round
abbrev pub WordsGive : ℕ → List (List ℕ) → PendingLine → Type 0
WordsGive n words (Whole action) = WordsSpell n words action
WordsGive n words (Put putting) = Puts n words putting
WordsGive n words (Round rounding) = LeadsRound n words rounding

-- the same of a line
pub record LineGives (n : ℕ) (text : List ℕ) (unread : PendingLine) : Type 0 where
  pub prints : All IsPrintable text
  pub words : WordsGive n (words_of text) unread

-- the submission of the feature
abbrev pub submission : Putting → Feature → Action
submission p f = act.Step (event.Submit p.node (record { client = p.client; number = p.number; op = op.Put f.id f.seq }))

-- with its document or its members read, it is the action
abbrev pub Becomes : ℕ → PendingLine → Action → Type 0
Becomes n (Whole whole) action = action ≡ whole
Becomes n (Put p) action =
    (feature : Feature) × IsDocumentOf p.document.now feature × (action ≡ submission p feature)
Becomes n (Round r) action =
    (members : List ℕ) × NameEach n (words_of r.members.now) members × (action ≡ act.Round r.node members)

-- the document stands for no feature
abbrev pub IsWrongDocument : List ℕ → ScheduleFault → Type 0
IsWrongDocument document fault = (fault ≡ Document) × ((feature : Feature) → ¬ (IsDocumentOf document feature))

-- why a document was not read
abbrev pub DocumentWasRefused : List ℕ → ReplayCause → Type 0
DocumentWasRefused document = WhyUnread (IsWrongDocument document) (Unit {0})

-- the words of the list don't name nodes of the run
abbrev pub IsWrongList : ℕ → List ℕ → ScheduleFault → Type 0
IsWrongList n list fault = (fault ≡ WordForm) × ((nodes : List ℕ) → ¬ (NameEach n (words_of list) nodes))

-- why a list of nodes was not read
abbrev pub IsNoList : ℕ → List ℕ → ReplayCause → Type 0
IsNoList n list = WhyUnread (IsWrongList n list) (Unit {0})

-- why the line is no action
abbrev pub IsNotRead : ℕ → PendingLine → ReplayCause → Type 0
IsNotRead n (Put p) cause = DocumentWasRefused p.document.now cause
IsNotRead n (Round r) cause = IsNoList n r.members.now cause
IsNotRead n (Whole whole) cause = ⊥
