-- What is wrong with the words of a line, as far as they are read with no document in hand.
use Rattle.std.specs.Prelude.{◌≡◌, ◌≢◌, ℕ, List, ◌∷◌, codes}
use Rattle.schedule.specs.Table.{Place, Row, HasItsWords, HasItsCount, HasMisfit, HasUnknownWord, HasOtherCount, HasWrongWord}
use Rattle.schedule.specs.Table.{places}
use Rattle.schedule.specs.declared.fault.ScheduleFault.{ScheduleFault}
use Rattle.schedule.specs.declared.fault.ScheduleFault.TheVariants.{NotPrintable, UnknownWord, NodesLine, WordCount, WordForm}

-- this is the fault of the lowest number that the words at these places have, of which none wants
-- a certain word
abbrev pub IsFaultAt : ℕ → List Place → List (List ℕ) → ScheduleFault → Type 0
IsFaultAt n at words WordCount = ¬ (HasItsCount at words)
IsFaultAt n at words WordForm = HasItsCount at words × HasMisfit n at words
IsFaultAt n at words _ = ⊥

-- this is the fault of the lowest number that words have which begin as the row's
abbrev pub IsRowFault : ℕ → Row → List (List ℕ) → ScheduleFault → Type 0
IsRowFault n row words WordCount = HasItsWords (places row) words × ¬ (HasItsCount (places row) words)
IsRowFault n row words WordForm =
    HasItsWords (places row) words × HasItsCount (places row) words × HasMisfit n (places row) words
IsRowFault n row words _ = ⊥

-- this is the fault of the lowest number that the words have
abbrev pub IsWordsFault : ℕ → List (List ℕ) → ScheduleFault → Type 0
IsWordsFault n words UnknownWord = HasUnknownWord words
IsWordsFault n words NodesLine = (others : List (List ℕ)) × (words ≡ codes "nodes" ∷ others)
IsWordsFault n words WordCount = HasOtherCount words × ((others : List (List ℕ)) → words ≢ codes "nodes" ∷ others)
IsWordsFault n words WordForm = HasWrongWord n words × ((others : List (List ℕ)) → words ≢ codes "nodes" ∷ others)
IsWordsFault n words _ = ⊥

-- what is told of a first line that is no right one, where this is its lowest fault as a later line
abbrev pub in_first_line : ScheduleFault → ScheduleFault
in_first_line NotPrintable = NotPrintable
in_first_line UnknownWord = UnknownWord
in_first_line _ = NodesLine
