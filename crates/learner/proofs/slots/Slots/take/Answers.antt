use Rattle.std.proofs.Common.{rules, ◌≡◌, Some, None, sym, ◌∙◌}
use Rattle.learner.specs.Learning.{unheard}
use Rattle.learner.specs.Places.{place_learnt, place_heard}
use Rattle.learner.specs.Slots.{learnt_of, heard_of}
use Rattle.learner.proofs.KnownLemmas.{learnt_unheard}
use Rattle.learner.proofs.SlotLemmas.{all_updated, put_same}
use Rattle.learner.proofs.slots.Slots.take.Goals as goal

pub returns-in-Some-Learnt-clause-learnt : goal.returns-in-Some-Learnt-clause-learnt
returns-in-Some-Learnt-clause-learnt c =
    all_updated place_learnt c.args.self.now.by_slot c.remove.new.self c.args.slot None c.remove.ensures.updates

-- where it is learnt, nothing is kept of what was told
pub returns-in-Some-Learnt-clause-heard : goal.returns-in-Some-Learnt-clause-heard
returns-in-Some-Learnt-clause-heard c =
    let self = c.args.self.now in
    let there : learnt_of self c.args.slot ≡ Some c.in-Some-Learnt.command = search rules in
    all_updated place_heard self.by_slot c.remove.new.self c.args.slot None c.remove.ensures.updates
    ∙ put_same (heard_of self) c.args.slot unheard (sym (learnt_unheard _ c.in-Some-Learnt.command there))
