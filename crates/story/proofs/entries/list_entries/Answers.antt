use Rattle.std.proofs.Common.{◌∙◌, refl, sym, ap, subst}
use Rattle.std.proofs.lemmas.Option.{slice_get-get_or}
use Rattle.story.specs.declared.entries.Told.{Told}
use Rattle.story.specs.Telling.{IsUpToDate, none}
use Rattle.story.proofs.LedgerLemmas.{begin_at, from_equal}
use Rattle.story.proofs.TellingLemmas.{one_line, same_tells}
use Rattle.story.proofs.entries.list_entries.Goals as goal

pub loop-index-init : goal.loop-index-init
loop-index-init c =
    let told = c.begin-listing.ensures.told in record {
      lines = ap (λ (t : Told). t.lines) told;
      steps = ap (λ (t : Told). t.steps) told;
      up_to_date = subst (λ (t : Told). IsUpToDate c.args.steps.now t) (sym told) refl;
      tells = same_tells c.args.lines.now c.args.steps.now c.args.outcomes.now _ _ _ _ c.begin-listing.ensures.entries told none;
    }

pub list_steps-requires-clause-there : goal.list_steps-requires-clause-there
list_steps-requires-clause-there c =
    c.requires.lines.there c.loop-index.index _ (slice_get-get_or c.args.lines.now c.loop-index.index _ c.loop-index-test.true)

pub list_steps-requires-clause-behind : goal.list_steps-requires-clause-behind
list_steps-requires-clause-behind c =
    from_equal _ _ _ c.loop-index.invariant.steps
    (c.requires.lines.rise c.loop-index.index _ (slice_get-get_or c.args.lines.now c.loop-index.index _ c.loop-index-test.true))

pub loop-index-preserved : goal.loop-index-preserved
loop-index-preserved c =
    let made = c.in_ok-list_steps.ensures in record {
      lines = refl;
      steps = made.steps ∙ sym (begin_at c.args.lines.now c.loop-index.index _ c.loop-index-test.true);
      up_to_date = made.up_to_date;
      tells = one_line c.args.lines.now c.args.steps.now c.args.outcomes.now c.list_steps.new.self c.loop-index.index made.up_to_date _ _ _
          (made.goes_on.goes_on c.args.lines.now c.loop-index.invariant.tells) (made.lines ∙ c.loop-index.invariant.lines)
          (slice_get-get_or c.args.lines.now c.loop-index.index _ c.loop-index-test.true) made.steps c.in_ok-push.ensures.items refl;
    }
