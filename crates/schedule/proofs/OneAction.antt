-- Words spell one action.
use Rattle.std.proofs.Common.{◌≡◌, ℕ, ◌≤◌, ◌^◌, List, Some, sym, ◌∙◌, ap}
use Rattle.schedule.specs.Spelling.{WordsSpell}
use Rattle.schedule.specs.Table.{places}
use Rattle.schedule.specs.declared.action.Action.{Action}
use Rattle.schedule.proofs.ByPlaces.{action_made, by_places, line_words, of_row}
use Rattle.schedule.proofs.OneValue.{one_values}

-- they are a line of one row, and say one value at each of its places
pub one_action : (n : ℕ) (words : List (List ℕ)) (a b : Action) → n ≤ 2 ^ 64 → WordsSpell n words a → WordsSpell n words b → a ≡ b
one_action n words a b small sa sb =
    let first = by_places n words a sa in
    let row = first.0 in
    let second = of_row n words b row sb (line_words n words a row first.1) in
    let values = one_values n (places row) words first.1.values second.values small first.1.said second.said in
    let same : Some a ≡ Some b = sym first.1.made ∙ ap (action_made row) values ∙ second.made in
    cc
