use Rattle.verdicts.proofs.examination.is_enough.Goals as goal

pub returns-then-is_later-clause-undecided : goal.returns-then-is_later-clause-undecided
returns-then-is_later-clause-undecided c = λ h. h

pub returns-then-is_later-clause-more : goal.returns-then-is_later-clause-more
returns-then-is_later-clause-more c = λ e later. e

pub returns-else-is_later-clause-undecided : goal.returns-else-is_later-clause-undecided
returns-else-is_later-clause-undecided c = λ h. absurd (let f = c.if-is_later.false in cc (h, f))

pub returns-else-is_later-clause-more : goal.returns-else-is_later-clause-more
returns-else-is_later-clause-more c = λ e later. absurd (let t = c.is_later.ensures.1 later in let f = c.if-is_later.false in cc)

pub returns-then-is_later-clause-later : goal.returns-then-is_later-clause-later
returns-then-is_later-clause-later c = λ h. c.is_later.ensures.0 c.if-is_later.true

pub returns-else-is_later-clause-later : goal.returns-else-is_later-clause-later
returns-else-is_later-clause-later c = λ h. absurd (let f = c.if-is_later.false in cc (h, f))
