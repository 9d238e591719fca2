use Rattle.std.proofs.Common.{refl, rules, length, vec_len}
use Rattle.std.proofs.lemmas.Option.{MatchOption-at_some}
use Rattle.stable.specs.Storages.{scripted}
use Rattle.world_model.specs.Rounds.{RoundBreaksOff}
use Rattle.world_model.specs.Rounds as rounds
use Rattle.world.specs.Inner.{inner_of}
use Rattle.world_model.proofs.Progress.RoundLemmas.{on_err, at_none, down_by, broken_by, decides_by, decides_in_part}
use Rattle.world.proofs.inner.Inner.decide.Goals as goal

-- the accepts: memory is wanting
pub returns-in_err-down-clause-part : goal.returns-in_err-down-clause-part
returns-in_err-down-clause-part g c =
    let off : RoundBreaksOff (scripted g.S.Stable) c.args.node c.args.members.now rounds.answered c.args.accepts (inner_of c.args.self.now)
    (inner_of c.hand_on.new.self) = λ old comes.
    broken_by (scripted g.S.Stable) old c.args.node c.args.members.now rounds.answered c.args.accepts c.args.accepts
    (inner_of c.args.self.now) (inner_of c.hand_on.new.self) comes refl c.in_err-down.ensures.part in
    on_err _ off

-- the accepts: a receiver goes down
pub returns-in-Some-clause-decides : goal.returns-in-Some-clause-decides
returns-in-Some-clause-decides g c = λ old comes.
    down_by (scripted g.S.Stable) old c.args.node c.args.members.now rounds.answered c.args.accepts c.args.accepts c.in-Some.down
    (inner_of c.args.self.now) (inner_of c.hand_on.new.self) comes refl
    (MatchOption-at_some _ _ c.in-Some.down c.in-Some.is c.in_ok-down.ensures.delivers)

-- the votes
pub returns-clause-decides : goal.returns-clause-decides
returns-clause-decides g c =
    decides_by (scripted g.S.Stable) c.args.node c.args.members.now c.args.accepts (length c.frames-votes.result.now)
    (vec_len c.args.self.now.frames) (inner_of c.args.self.now) (inner_of c.hand_on.new.self) (inner_of c.hand_on-2.new.self)
    (search rules) (search rules) (at_none _ _ c.in_ok-down.field-0 (search rules) c.in_ok-down.ensures.delivers)
    c.hand_on-2.result (vec_len c.hand_on.new.self.frames) (search rules) c.hand_on-2.ensures.delivers

pub returns-clause-part : goal.returns-clause-part
returns-clause-part g c =
    decides_in_part (scripted g.S.Stable) c.args.node c.args.members.now c.args.accepts (length c.frames-votes.result.now)
    (vec_len c.args.self.now.frames) (inner_of c.args.self.now) (inner_of c.hand_on.new.self) (inner_of c.hand_on-2.new.self)
    (search rules) (search rules) (at_none _ _ c.in_ok-down.field-0 (search rules) c.in_ok-down.ensures.delivers)
    c.hand_on-2.result c.hand_on-2.ensures.part
