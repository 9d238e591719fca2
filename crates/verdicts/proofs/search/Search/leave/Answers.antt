use Rattle.verdicts.proofs.SearchLemmas.{leaving_later, leaving_earlier}
use Rattle.verdicts.proofs.search.Search.leave.Goals as goal

pub returns-then-is_later-clause-leaving : goal.returns-then-is_later-clause-leaving
returns-then-is_later-clause-leaving c = λ requests names questions told entering contradiction.
    leaving_later requests names questions told c.args.self.now c.args.contradiction entering contradiction
    (c.is_later.ensures.0 c.if-is_later.true)

pub returns-else-is_later-clause-leaving : goal.returns-else-is_later-clause-leaving
returns-else-is_later-clause-leaving c = λ requests names questions told entering contradiction.
    leaving_earlier requests names questions told c.args.self.now c.args.contradiction entering contradiction
    (λ later. let t = c.is_later.ensures.1 later in let f = c.if-is_later.false in cc)
