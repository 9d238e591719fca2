use Rattle.std.proofs.Common.{◌≡◌, ◌<◌, ◌≤◌, ◌↔◌, ℕ, Bool, true, false, IsTrue, nat_le, refl, sym, ap, subst}
use Rattle.std.proofs.lemmas.Bool.{leb-false, leb-true}
use Rattle.serving.specs.Owing.{HasRoom, owed_to}
use Rattle.serving.specs.Tapes.{heard}
use Rattle.serving.specs.declared.claims.TheConstants.{MOST_CLAIMS}
use Rattle.server_tests.proofs.fakes.has_no_room.Goals as goal

fewer : (most count : ℕ) → (most ≤ count → ⊥) → (b : Bool) → nat_le most count ≡ b → count < most
fewer most count few true le = absurd (few (leb-true most count le))
fewer most count few false gt = leb-false most count gt

pub returns-in-Line : goal.returns-in-Line
returns-in-Line c = λ not_full.
    let owed : ℕ = owed_to c.in-Line.connection c.args.waiting.now in
    let few : owed < MOST_CLAIMS =
    fewer MOST_CLAIMS owed (λ full. not_full (c.is_full.ensures.1 full)) (nat_le MOST_CLAIMS owed) refl in
    subst (HasRoom c.args.waiting.now) (sym (ap heard c.in-Line.is)) few
