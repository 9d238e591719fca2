use Rattle.std.proofs.Common.{rules, ◌≡◌, None}
use Rattle.learner.specs.Known.{row_from, known_learnt, known_heard}
use Rattle.learner.specs.Slots.{learnt_of, heard_of}
use Rattle.learner.proofs.KnownLemmas.{hears_settled, hears_behind_ok, is_there, is_not_there}
use Rattle.learner.proofs.known.Known.hear.Goals as goal

-- the slot is of the row
pub returns-then-is_some-clause-hears : goal.returns-then-is_some-clause-hears
returns-then-is_some-clause-hears c =
    let self = c.args.self.now in
    hears_settled c.args.nodes c.args.from c.args.vote.now (known_learnt self) (known_heard self)
    (is_there _ (learnt_of self.others c.args.vote.now.slot) (search rules))

-- it isn't
behind : (c : goal.After-hear) → row_from c.args.self.now.from c.args.self.now.settled.items c.args.vote.now.slot ≡ None
behind c = is_not_there _ (search rules)

pub returns-clause-hears : goal.returns-clause-hears
returns-clause-hears c =
    let self = c.args.self.now in
    hears_behind_ok c.args.nodes c.args.from c.args.vote.now (row_from self.from self.settled.items) (learnt_of self.others)
    (learnt_of c.hear.new.self) (heard_of self.others) (heard_of c.hear.new.self) c.hear.result (behind c) c.hear.ensures.hears

pub returns-clause-unlearnt : goal.returns-clause-unlearnt
returns-clause-unlearnt c = rw (behind c) c.hear.ensures.unlearnt

pub returns-clause-first : goal.returns-clause-first
returns-clause-first c = rw (behind c) c.hear.ensures.first
