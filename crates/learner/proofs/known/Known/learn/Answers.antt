use Rattle.std.proofs.Common.{rules, ◌≡◌, ◌+◌, ◌++◌, ◌∷◌, [], Some, None, length}
use Rattle.learner.specs.Known.{row_from}
use Rattle.learner.specs.Learning.{unheard}
use Rattle.learner.specs.Slots.{learnt_of, heard_of}
use Rattle.learner.proofs.KnownLemmas.{not_of_row, row_put_ok, row_joined}
use Rattle.learner.proofs.known.Known.learn.Goals as goal

-- the slot isn't the next of the row
pub returns-then-not-is_next-clause-learnt : goal.returns-then-not-is_next-clause-learnt
returns-then-not-is_next-clause-learnt c =
    let self = c.args.self.now in
    row_put_ok c.learn.result Some (row_from self.from self.settled.items) (learnt_of self.others) (learnt_of c.learn.new.self) c.args.slot
    (Some c.args.command)
    (not_of_row _ (learnt_of self.others c.args.slot) c.requires) c.learn.ensures.learnt

pub returns-then-not-is_next-clause-heard : goal.returns-then-not-is_next-clause-heard
returns-then-not-is_next-clause-heard c =
    let self = c.args.self.now in
    row_put_ok c.learn.result (λ _. unheard) (row_from self.from self.settled.items) (heard_of self.others) (heard_of c.learn.new.self)
    c.args.slot unheard
    (not_of_row _ (learnt_of self.others c.args.slot) c.requires) c.learn.ensures.heard

-- memory is wanting for the row
pub returns-in-Err-clause-learnt : goal.returns-in-Err-clause-learnt
returns-in-Err-clause-learnt c =
    let self = c.args.self.now in
    rw c.try_reserve.ensures.items (row_put_ok c.learn-in-Err.result Some (row_from self.from self.settled.items) (learnt_of self.others)
    (learnt_of c.learn-in-Err.new.self) c.args.slot (Some c.args.command)
    (not_of_row _ (learnt_of self.others c.args.slot) c.requires) c.learn-in-Err.ensures.learnt)

pub returns-in-Err-clause-heard : goal.returns-in-Err-clause-heard
returns-in-Err-clause-heard c =
    let self = c.args.self.now in
    rw c.try_reserve.ensures.items (row_put_ok c.learn-in-Err.result (λ _. unheard) (row_from self.from self.settled.items)
    (heard_of self.others) (heard_of c.learn-in-Err.new.self) c.args.slot unheard
    (not_of_row _ (learnt_of self.others c.args.slot) c.requires) c.learn-in-Err.ensures.heard)

-- it joins the row
pub returns-clause-learnt : goal.returns-clause-learnt
returns-clause-learnt c =
    let self = c.args.self.now in
    let next : c.args.slot ≡ self.from + length self.settled.items = search rules in
    let longer : c.push.new.self.items ≡ self.settled.items ++ c.args.command ∷ [] = search rules in
    rw longer (row_joined Some self.from self.settled.items c.args.command (learnt_of self.others) (learnt_of c.forget.new.self) c.args.slot
    next None c.forget.ensures.learnt)

pub returns-clause-heard : goal.returns-clause-heard
returns-clause-heard c =
    let self = c.args.self.now in
    let next : c.args.slot ≡ self.from + length self.settled.items = search rules in
    let longer : c.push.new.self.items ≡ self.settled.items ++ c.args.command ∷ [] = search rules in
    rw longer (row_joined (λ _. unheard) self.from self.settled.items c.args.command (heard_of self.others) (heard_of c.forget.new.self)
    c.args.slot next unheard c.forget.ensures.heard)
