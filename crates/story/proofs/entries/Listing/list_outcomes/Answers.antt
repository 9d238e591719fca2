use Rattle.std.proofs.Common.{◌≡◌, sym, ap, arith}
use Rattle.story.specs.declared.entries.Told.{Told}
use Rattle.story.specs.Telling.{no_outcome}
use Rattle.story.proofs.TellingLemmas.{framed_told, framed_within, next_outcome, on_ok_then, told_on, whole_step}
use Rattle.story.proofs.entries.Listing.list_outcomes.Goals as goal

pub loop-index-init : goal.loop-index-init
loop-index-init c =
    let told = c.in_ok-list_frames.ensures.told in record {
      within = framed_within c.args.self.now.told.counts _ c.args.ends (ap (λ (t : Told). t.counts) told) c.requires;
      told = framed_told c.args.self.now.told c.list_frames.new.self.told _ told;
      entries = no_outcome _ _;
    }

pub loop-index-preserved : goal.loop-index-preserved
loop-index-preserved c =
    let told = c.in_ok-list_told_by.ensures.told in
    record {
      within = c.in_ok-list_told_by.ensures.within;
      told = told_on c.args.self.now.told c.loop-index.self.told c.list_told_by.new.self.told c.args.ends c.outcome_at.result _ c.loop-index.invariant.told told;
      entries = next_outcome _ _ _ c.loop-index.self.told.counts _ c.outcome_at.result c.loop-index.index _
          c.loop-index.self.entries.items _ _ c.loop-index.invariant.entries
          (ap (λ (t : Told). t.counts.outcomes) c.loop-index.invariant.told) (sym c.outcome_at.ensures) c.in_ok-push.ensures.items
          c.in_ok-list_told_by.ensures.entries (ap (λ (t : Told). t.counts) told);
    }

pub returns-clause-entries : goal.returns-clause-entries
returns-clause-entries c =
    let index = ap (λ (t : Told). t.counts.outcomes) c.loop-index.invariant.told in
    let all : c.loop-index.self.told.counts.outcomes ≡ c.args.ends.outcomes =
    omega (arith, index, c.loop-index.invariant.within.outcomes, c.loop-index-test.false) in
    on_ok_then c.list_by_kind.result
    (λ h. whole_step _ _ _ _ c.loop-index.self.told.counts _ _ _ _ c.in_ok-list_frames.ensures.entries
    (ap (λ (t : Told). t.counts) c.in_ok-list_frames.ensures.told) c.loop-index.invariant.entries all h) c.list_by_kind.ensures.entries
