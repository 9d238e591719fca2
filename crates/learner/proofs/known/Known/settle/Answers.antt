use Rattle.std.proofs.Common.{rules, ◌≡◌, ◌+◌, ◌++◌, ◌∷◌, [], Some, None, length, sym, ap, ◌∙◌}
use Rattle.learner.specs.Known.{in_row, row_from}
use Rattle.learner.specs.Learning.{unheard}
use Rattle.learner.specs.Slots.{learnt_of, heard_of}
use Rattle.learner.proofs.KnownLemmas.{row_takes, row_covers, learnt_unheard, none_next}
use Rattle.learner.proofs.SlotLemmas.{put_same}
use Rattle.learner.proofs.known.Known.settle.Goals as goal

-- what is learnt at the next slot of the row joins it
pub returns-in-Some-clause-learnt : goal.returns-in-Some-clause-learnt
returns-in-Some-clause-learnt c =
    let self = c.args.self.now in
    let next : c.args.slot ≡ self.from + length self.settled.items = search rules in
    let longer : c.push.new.self.items ≡ self.settled.items ++ c.in-Some.command ∷ [] = search rules in
    let there : learnt_of self.others c.args.slot ≡ Some c.in-Some.command = sym c.take.ensures.is ∙ c.in-Some.is in
    rw longer (row_takes Some self.from self.settled.items c.in-Some.command (learnt_of self.others) (learnt_of c.take.new.self) c.args.slot
    next None there c.take.ensures.learnt)

pub returns-in-Some-clause-heard : goal.returns-in-Some-clause-heard
returns-in-Some-clause-heard c =
    let self = c.args.self.now in
    let next : c.args.slot ≡ self.from + length self.settled.items = search rules in
    let longer : c.push.new.self.items ≡ self.settled.items ++ c.in-Some.command ∷ [] = search rules in
    let there : learnt_of self.others c.args.slot ≡ Some c.in-Some.command = sym c.take.ensures.is ∙ c.in-Some.is in
    rw longer (row_covers (λ _. unheard) self.from self.settled.items c.in-Some.command (heard_of self.others) (heard_of c.take.new.self)
    c.args.slot next (learnt_unheard _ c.in-Some.command there) c.take.ensures.heard)

-- nothing is learnt there
pub returns-in-None-clause-is : goal.returns-in-None-clause-is
returns-in-None-clause-is c =
    let self = c.args.self.now in
    let next : c.args.slot ≡ self.from + length self.settled.items = search rules in
    none_next self.from self.settled.items (learnt_of self.others) c.args.slot next (sym c.take.ensures.is ∙ c.in-None.is)

pub returns-in-None-clause-learnt : goal.returns-in-None-clause-learnt
returns-in-None-clause-learnt c =
    let self = c.args.self.now in
    rw c.try_reserve.ensures.items (ap (in_row Some (row_from self.from self.settled.items))
    (c.take.ensures.learnt ∙ put_same (learnt_of self.others) c.args.slot None (sym (sym c.take.ensures.is ∙ c.in-None.is))))
