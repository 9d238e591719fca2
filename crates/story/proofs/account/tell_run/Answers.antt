use Rattle.std.proofs.Common.{◌≡◌, ◌<◌, ◌∙◌, List, [], ℕ, Bor, length, get_or, map, ap, sym, subst, rules, arith}
use Rattle.story.specs.Accounts.{AreWritten, entry_lines, none, start}
use Rattle.story.specs.Lines.{AddsLines, texts_in}
use Rattle.story.proofs.AccountLemmas.{few_sent, next_written}
use Rattle.story.proofs.account.tell_run.Goals as goal

-- nothing is written of no entry
pub loop-index-init : goal.loop-index-init
loop-index-init c = record {
  written = subst (λ (t : List ℕ). AreWritten c.args.manner c.args.ledger.now (texts_in c.args.bytes.now) [] start t)
      (sym c.new-text.ensures.items) none;
  few = omega arith;
}

-- the texts are those of the file
pub loop-index-preserved : goal.loop-index-preserved
loop-index-preserved c =
    let m = c.args.manner in
    let l = c.args.ledger.now in
    let es = c.in_ok-entries.entries.items in
    let e = c.index-entry.result.now in
    let place = c.loop-index.place in
    let below : c.loop-index.index < length es = search rules in
    let read : e ≡ get_or es c.loop-index.index e = search rules in
    let texts : map (λ (t : Bor (List ℕ)). t.now) c.as_slice.result.now ≡ texts_in c.args.bytes.now =
    ap (λ (ts : List (Bor (List ℕ))). map (λ (t : Bor (List ℕ)). t.now) ts) c.as_slice.ensures.value ∙ c.in_ok-texts.ensures in
    let adds : AddsLines c.loop-index.text.items (entry_lines m l (texts_in c.args.bytes.now) place e) c.tell_next.new.text.items =
    subst (λ (ts : List (List ℕ)). AddsLines c.loop-index.text.items (entry_lines m l ts place e) c.tell_next.new.text.items) texts
    c.in_ok-place.ensures.lines in record {
      written = next_written m l (texts_in c.args.bytes.now) es c.loop-index.index e place _ c.loop-index.text.items c.tell_next.new.text.items
          below read c.loop-index.invariant.written adds c.in_ok-place.ensures.place;
      few = few_sent m l place _ e c.loop-index.index c.loop-index.invariant.few c.in_ok-place.ensures.place;
    }
