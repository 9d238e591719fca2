use Rattle.std.proofs.Common.{rules}
use Rattle.std.specs.BTreeMap.{get}
use Rattle.std.specs.Ordering.{nat_cmp}
use Rattle.learner.proofs.SlotLemmas.{IsReadAlike, opened, hears_there, learnt_stays, heard_stays, unlearnt_before, unheard_before}
use Rattle.learner.proofs.SlotLemmas.{untold_before}
use Rattle.learner.proofs.slots.Slots.hear.Goals as goal

-- the entry's value is what was known of the slot
alike : (c : goal.After-self-3-1) → IsReadAlike (get nat_cmp c.args.self.now.by_slot c.args.vote.now.slot) c.or_insert-place.result.now
alike c = opened _ _ c.new.result c.or_insert-place.result.now c.in_ok-self.ensures.value c.new.ensures c.or_insert-place.ensures.value

pub returns-clause-hears : goal.returns-clause-hears
returns-clause-hears c =
    hears_there c.args.nodes c.args.from c.args.vote.now c.args.self.now
    (record { by_slot = c.self-3-1.given.0 }) _ c.or_insert-place.result.now c.hear.new.self
    (c.self-3-1.given.1 (search rules)) (c.in_ok-self.ensures.update.0 c.hear.new.self) (alike c) c.hear.result c.hear.ensures.hears

pub returns-clause-learnt : goal.returns-clause-learnt
returns-clause-learnt c =
    learnt_stays c.args.nodes c.args.from c.args.vote.now c.args.self.now
    (record { by_slot = c.self-3-1.given.0 }) _ c.or_insert-place.result.now c.hear.new.self
    (c.self-3-1.given.1 (search rules)) (c.in_ok-self.ensures.update.0 c.hear.new.self) (alike c) c.hear.result c.hear.ensures.learnt

pub returns-clause-heard : goal.returns-clause-heard
returns-clause-heard c =
    heard_stays c.args.nodes c.args.from c.args.vote.now c.args.self.now
    (record { by_slot = c.self-3-1.given.0 }) _ c.or_insert-place.result.now c.hear.new.self
    (c.self-3-1.given.1 (search rules)) (c.in_ok-self.ensures.update.0 c.hear.new.self) (alike c) c.hear.result c.hear.ensures.heard

pub returns-clause-unlearnt : goal.returns-clause-unlearnt
returns-clause-unlearnt c = unlearnt_before _ c.or_insert-place.result.now (alike c) c.hear.result c.hear.ensures.unlearnt

pub returns-clause-once : goal.returns-clause-once
returns-clause-once c = unheard_before _ c.or_insert-place.result.now (alike c) c.args.vote.now.ballot c.args.from c.hear.result
    c.hear.ensures.once

pub returns-clause-first : goal.returns-clause-first
returns-clause-first c = untold_before _ c.or_insert-place.result.now (alike c) c.args.vote.now.ballot c.args.vote.now.command c.hear.result
    c.hear.ensures.first
