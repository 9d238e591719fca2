use Rattle.std.proofs.Common.{rules, tests}
use Rattle.std.proofs.lemmas.Iterator.{YieldsList-from_slice}
use Rattle.std.proofs.lemmas.Iterator.Search.{position_from_yields_List}
use Rattle.learner.proofs.TallyLemmas.{is_of, place_of}
use Rattle.learner.proofs.tallies.Tallies.position.Goals as goal

-- the first tally of them is the only one
pub returns : goal.returns
returns c =
    let tallies = c.args.self.now.tallies.items in
    place_of tallies c.args.self.now.apart c.args.ballot c.args.command.now _
    (position_from_yields_List (is_of c.args.ballot c.args.command.now) _ _ _ c.position.ensures.ran (YieldsList-from_slice tallies cc)
    (λ x b q k. search (rules, tests)))
