use Rattle.std.proofs.Common.{◌≡◌, IsTrue, rules, true, inr, ◌∙◌}
use Rattle.sqlite.specs.State.{State}
use Rattle.sqlite.specs.Held.{state}
use Rattle.sqlstable.specs.States.{TableIsSound, IsUsable, table}
use Rattle.sqlstable.proofs.FoundLemmas.{found_sound, listed_is, not_in}
use Rattle.sqlstable.proofs.survey.survey.Goals as goal

pub returns : goal.returns
returns g c =
    let before : State = state g.S.Store c.args.connection.now in
    let after : State = state g.S.Store c.list.new.connection in
    let has = c.requires.ours ∙ listed_is in
    let alone : c.is_autocommit.result ≡ true = search rules in
    let shown : IsUsable after → IsTrue c.in_ok-are_own.are_own → TableIsSound after × (table after ≡ table before) =
    λ usable own. found_sound before after c.in_ok-rows.rows.items c.as_slice-listed.result.now has (c.in_ok-rows.ensures.listed usable.0 has)
    (c.in_ok-rows.ensures.unchanged usable.0 has) c.requires.live
    (not_in c.is_autocommit.result _ c.is_autocommit.ensures.value alone)
    (c.is_autocommit.ensures.settled alone usable.1) c.as_slice-listed.ensures.value (c.are_sound.ensures (search rules))
    (c.in_ok-are_own.ensures own) in
    record {
      opened = λ clean. (c.in_ok-rows.ensures.unchanged clean has).0.is_open;
      sound = λ usable sound. (shown usable sound).0;
      found = λ usable sound. record { was_clean = c.list.ensures.follows.clean usable.0; found = inr (shown usable sound).1 };
    }

-- a survey leaves the connection open
pub returns-then-not-is_autocommit-clause-opened : goal.returns-then-not-is_autocommit-clause-opened
returns-then-not-is_autocommit-clause-opened g c =
    λ clean. (c.in_ok-rows.ensures.unchanged clean (c.requires.ours ∙ listed_is)).0.is_open

pub returns-then-not-are_sound-clause-opened : goal.returns-then-not-are_sound-clause-opened
returns-then-not-are_sound-clause-opened g c =
    λ clean. (c.in_ok-rows.ensures.unchanged clean (c.requires.ours ∙ listed_is)).0.is_open
