use Rattle.std.proofs.Common.{◌≡◌, ◌∷◌, [], ℕ, List, Some, length, slice_get, refl, sym, ap, subst}
use Rattle.std.proofs.lemmas.Option.{slice_get_read}
use Rattle.story.proofs.AccountLemmas.{line_begun}
use Rattle.story.specs.Accounts.{at_line}
use Rattle.story.specs.Lines.{AddsLines}
use Rattle.story.specs.Saying.{line_said}
use Rattle.story.specs.declared.ledger.LineBegin.{LineBegin}
use Rattle.story.proofs.account.begin_line.Goals as goal

-- the line that was found is the ledger's
pub returns-clause-lines : goal.returns-clause-lines
returns-clause-lines c =
    let found = c.in-Some.ensures.lookup in
    let at : slice_get c.args.ledger.now.lines.items c.args.index ≡ Some c.in-Some.begin.now =
    subst (λ (ls : List LineBegin). slice_get ls c.args.index ≡ Some c.in-Some.begin.now) c.deref.ensures.value
    (slice_get_read c.deref.result.now (length c.deref.result.now) c.args.index c.in-Some.begin.now refl found.3.0 found.1) in
    line_begun c.args.form _ c.args.place _ c.in-Some.begin.now _ _ _ at c.in_ok-tell_sent.ensures
    (subst (λ (t : List ℕ).
    AddsLines c.tell_sent.new.text.items (line_said c.args.form c.in-Some.begin.now.number t ∷ []) c.tell_line.new.text.items)
    c.text_of.ensures c.in_ok-tell_line.ensures)

pub returns-clause-place : goal.returns-clause-place
returns-clause-place c =
    let found = c.in-Some.ensures.lookup in
    let at : slice_get c.args.ledger.now.lines.items c.args.index ≡ Some c.in-Some.begin.now =
    subst (λ (ls : List LineBegin). slice_get ls c.args.index ≡ Some c.in-Some.begin.now) c.deref.ensures.value
    (slice_get_read c.deref.result.now (length c.deref.result.now) c.args.index c.in-Some.begin.now refl found.3.0 found.1) in
    sym (ap (at_line c.args.place) at)
