-- The words of a submission.
use Rattle.std.specs.Prelude.{ℕ, List, [], ◌∷◌, codes}
use Rattle.schedule.specs.Keywords.{operation_text}
use Rattle.schedule.specs.Table.{Place, a_node, a_client, a_request_number, IsNode, IsClient, IsRequestNumber}
use Rattle.schedule.specs.declared.keyword.Operation.{Operation}
use Rattle.schedule.specs.declared.submits.Asker.{Asker}
use Rattle.schedule.specs.declared.submits.AskerWords.{AskerWords}

-- the places that say who asks
abbrev pub asker_places : List Place
asker_places = a_node ∷ a_client ∷ a_request_number ∷ []

abbrev pub asker_words : AskerWords → List (List ℕ)
asker_words w = w.node.now ∷ w.client.now ∷ w.number.now ∷ []

-- the words say that this one asks
pub record NamesAsker (n : ℕ) (words : AskerWords) (asker : Asker) : Type 0 where
  pub node : IsNode n words.node.now asker.node
  pub client : IsClient words.client.now asker.client
  pub number : IsRequestNumber words.number.now asker.number

-- the words of a whole line, of which the last say what the operation needs
abbrev pub submit_words : AskerWords → Operation → List (List ℕ) → List (List ℕ)
submit_words w operation words =
    codes "submit" ∷ w.node.now ∷ w.client.now ∷ w.number.now ∷ operation_text operation ∷ words
