-- How many members an object has.
use Rattle.std.proofs.Common.{◌≡◌, List, [], ◌∷◌, String, length, ap, refl, suc, ◌∙◌}
use Rattle.std.specs.declared.alloc.Global.{Global}
use Rattle.std.proofs.lemmas.List.{length-map}
use Rattle.serde_json.specs.Data.{Data}
use Rattle.serde_json.specs.Events.{members_len}
use Rattle.serde_json.specs.View.{members_of, members_view}
use Rattle.serde_json.specs.declared.value.Value.{Value}

count-members_of : (ms : List (String Global × Data)) → members_len (members_of ms) ≡ length ms
count-members_of [] = refl
count-members_of (m ∷ ms) = ap suc (count-members_of ms)

pub count-members_view : (ms : List (String Global × Value)) → members_len (members_view ms) ≡ length ms
count-members_view ms = count-members_of _ ∙ length-map ms _

pub ruleset counting = count-members_view
