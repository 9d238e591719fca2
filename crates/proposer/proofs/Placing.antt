-- A proposal's place among the others.
use Rattle.std.proofs.Common.{◌≡◌, List, [], ◌∷◌, Bool, true, false, cond, length, take_while, insert, nat_lt, refl, ap}
use Rattle.std.proofs.lemmas.List.Sums.{take_while-cons}
use Rattle.proposer.specs.declared.window.Proposal.{Proposal}
use Rattle.proposer.specs.Campaigning.{placed}

-- the list of those before, and the same place in what follows a first one
placed_at : (b : Bool) (p q : Proposal) (qs rest before : List Proposal) → insert qs (length before) p ≡ rest
    → insert (q ∷ qs) (length (cond b (q ∷ before) [])) p ≡ cond b (q ∷ rest) (p ∷ q ∷ qs)
placed_at true p q qs rest before e = ap (λ l. q ∷ l) e
placed_at false p q qs rest before e = refl

pub placed_by_count : (p : Proposal) (qs : List Proposal)
    → insert qs (length (take_while (λ q. nat_lt q.slot p.slot) qs)) p ≡ placed p qs
placed_by_count p [] = refl
placed_by_count p (q ∷ qs) = rw take_while-cons (placed_at (nat_lt q.slot p.slot) p q qs (placed p qs)
    (take_while (λ q. nat_lt q.slot p.slot) qs) (placed_by_count p qs))
