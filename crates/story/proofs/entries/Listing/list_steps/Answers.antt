use Rattle.std.proofs.Common.{◌≡◌, ℕ, ◌+◌, ◌<◌, ◌∙◌, length, sym, ap, arith}
use Rattle.std.proofs.lemmas.Option.{slice_get-get_or}
use Rattle.story.specs.declared.entries.Told.{Told}
use Rattle.story.specs.Counted.{counts_before}
use Rattle.story.proofs.LedgerLemmas.{counts_at}
use Rattle.story.proofs.TellingLemmas.{one_step}
use Rattle.story.proofs.entries.Listing.list_steps.Goals as goal

pub loop-index-preserved : goal.loop-index-preserved
loop-index-preserved c =
    let there : c.loop-index.index < length c.args.steps.now = omega arith in
    let told = c.in_ok-list_outcomes.ensures.told in
    let steps : c.list_outcomes.new.self.told.steps ≡ c.loop-index.index + 1 = ap (λ (t : Told). t.steps) told in
    record {
      steps = steps;
      lines = ap (λ (t : Told). t.lines) told ∙ c.loop-index.invariant.lines;
      up_to_date = ap (λ (t : Told). t.counts) told ∙ sym (counts_at c.args.steps.now c.loop-index.index _ there)
          ∙ sym (ap (λ (n : ℕ). counts_before c.args.steps.now n) steps);
      goes_on = one_step c.args.steps.now c.args.outcomes.now _ c.loop-index.self c.list_outcomes.new.self c.loop-index.index _ _
          c.loop-index.invariant.goes_on c.loop-index.invariant.steps (slice_get-get_or c.args.steps.now c.loop-index.index _ there)
          c.loop-index.invariant.up_to_date c.in_ok-push.ensures.items c.in_ok-list_outcomes.ensures.entries told;
    }
