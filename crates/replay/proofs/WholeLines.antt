-- Lines that are written from their end to their front.
use Rattle.std.proofs.Common.{◌≡◌, ℕ, List, [], ◌∷◌, ◌++◌, codes, drop, length, arith}
use Rattle.std.proofs.Math.ListN.{drop_of_length-le}
use Rattle.std.proofs.lemmas.Grind.{common_steps}

-- behind its end a line has nothing
pub none_behind : (line : List ℕ) (end : ℕ) → length line ≡ end → drop end line ≡ []
none_behind line end long = drop_of_length-le line (omega (arith, long))

-- ---- what is written piece by piece is the line
pub learn_joined : (node slot client number : List ℕ)
    → codes "learn " ++ (node ++ (32 ∷ (slot ++ (32 ∷ (client ++ (58 ∷ (number ++ 10 ∷ [])))))))
    ≡ codes "learn " ++ node ++ codes " " ++ slot ++ codes " " ++ (client ++ codes ":" ++ number) ++ codes "\n"
learn_joined node slot client number = grind (arith, common_steps)

pub noop_joined : (node slot : List ℕ) → codes "learn " ++ (node ++ (32 ∷ (slot ++ (codes " noop\n" ++ []))))
    ≡ codes "learn " ++ node ++ codes " " ++ slot ++ codes " " ++ codes "noop" ++ codes "\n"
noop_joined node slot = grind (arith, common_steps)

pub reply_joined : (node client number code : List ℕ)
    → codes "reply " ++ (node ++ (32 ∷ (client ++ (58 ∷ (number ++ (32 ∷ (code ++ 10 ∷ [])))))))
    ≡ codes "reply " ++ node ++ codes " " ++ (client ++ codes ":" ++ number) ++ codes " " ++ code ++ codes "\n"
reply_joined node client number code = grind (arith, common_steps)

pub event_joined : (word node number : List ℕ) → word ++ (node ++ (32 ∷ (number ++ 10 ∷ [])))
    ≡ word ++ node ++ codes " " ++ number ++ codes "\n"
event_joined word node number = grind (arith, common_steps)

pub answer_joined : (asked answer : List ℕ) → asked ++ (answer ++ 10 ∷ []) ≡ asked ++ answer ++ codes "\n"
answer_joined asked answer = grind (arith, common_steps)
