use Rattle.std.proofs.Common.{IsTrue, rules}
use Rattle.predicates.proofs.LegLemmas.{answers_none}
use Rattle.predicates.proofs.EndLemmas.{settled_leg, shares_not, leg_lies}
use Rattle.predicates.proofs.Tests.{told_no}
use Rattle.predicates.proofs.legs.leg.Goals as goal

pub returns-then-not-shares_time : goal.returns-then-not-shares_time
returns-then-not-shares_time c =
    answers_none c.args.question _ _ _
    (shares_not c.args.a.now c.args.b.now c.args.period.now c.shares_time.ensures.has_instant
    (told_no c.if-not-shares_time.true c.shares_time.ensures.shares.1))

pub returns-then-settle : goal.returns-then-settle
returns-then-settle c =
    let shared : IsTrue c.shares_time.result = let f = c.if-not-shares_time.false in search rules in
    let both = c.shares_time.ensures.shares.0 shared in
    rw c.settled.ensures
    (settled_leg c.args.question c.args.a.now c.args.b.now c.args.period.now c.args.area.now c.requires.later
    c.shares_time.ensures.has_instant both.0 both.1
    (c.settle.ensures.0 c.if-settle.true))

pub returns-then-is_within : goal.returns-then-is_within
returns-then-is_within c =
    let p = c.args.period.now in
    let within = c.is_within.ensures.0 c.if-is_within.true in
    let lies = leg_lies c.args.a.now c.args.b.now p c.shares_time.ensures.has_instant c.requires.later within.0 within.1 in
    c.unsettled.ensures p lies.0 lies.1
