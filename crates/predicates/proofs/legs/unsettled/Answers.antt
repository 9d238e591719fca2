use Rattle.predicates.proofs.EndLemmas.{crossed_leg, passed_leg, straying_leg}
use Rattle.predicates.proofs.Tests.{told_no}
use Rattle.predicates.proofs.legs.unsettled.Goals as goal

pub returns-then-crosses : goal.returns-then-crosses
returns-then-crosses c =
    λ p begun over.
    rw c.in-Ever.is
    (crossed_leg c.args.a.now c.args.b.now p c.args.area.now c.requires.later begun over (c.crosses.ensures.0 c.if-crosses.true))

pub returns-else-crosses : goal.returns-else-crosses
returns-else-crosses c =
    λ p begun over.
    rw c.in-Ever.is
    (passed_leg c.args.a.now c.args.b.now p c.args.area.now c.requires.later begun over
    (told_no c.if-crosses.false c.crosses.ensures.1))

pub returns-in-Always : goal.returns-in-Always
returns-in-Always c =
    λ p begun over.
    rw c.in-Always.is
    (straying_leg c.args.a.now c.args.b.now p c.args.area.now c.requires.later begun over (rw c.in-Always.is at c.requires.not_settled))

pub crosses-requires-clause-near : goal.crosses-requires-clause-near
crosses-requires-clause-near c = rw c.in-Ever.is at c.requires.not_settled
