-- Promises that are counted.
use Rattle.std.proofs.Common.{◌≡◌, ℕ, List, [], ◌∷◌, ◌++◌, nat_le, min, Bool, true, false, cond, refl, sym, ap, ◌∙◌, append_assoc}
use Rattle.synod.specs.declared.vote.Vote.{Vote}
use Rattle.sessions.specs.declared.command.Command.{Command}
use Rattle.wire.specs.NodeSets.{with_node}
use Rattle.wire.specs.Promises.{Promised}
use Rattle.proposer.specs.Campaigning.{Campaigning, counts, with_promise, after_promise, up_to, is_most}

when : (b : Bool) (x y : Campaigning) → b ≡ true → x ≡ cond b x y
when true x y e = refl
when false x y e = absurd (cc)

-- what a promise that counts changes
pub made_promise : (nodes from : ℕ) (k : Campaigning) (p : Promised) (promised' : List Bool) (end' : ℕ) (told' : List (Vote Command))
    (leading' : Bool) → counts k from p ≡ true → promised' ≡ with_node k.promised from → end' ≡ min k.end p.last
    → told' ≡ up_to end' (k.told ++ p.entries) → leading' ≡ is_most nodes promised'
    → record k { promised = promised'; end = end'; told = told'; leading = leading' } ≡ after_promise nodes k from p
made_promise nodes from k p promised' end' told' leading' counted promised end told leading =
    rw leading (rw told (rw end (rw promised (when (counts k from p) (with_promise nodes k from p) k counted))))

-- one vote more is heard
up_to_first : (b : Bool) (v : Vote Command) (rest : List (Vote Command)) → b ≡ true → v ∷ rest ≡ cond b (v ∷ rest) rest
up_to_first true v rest e = refl
up_to_first false v rest e = absurd (cc)

pub heard_one : (old now rest left : List (Vote Command)) (x v : Vote Command) (end' : ℕ) → now ≡ old ++ v ∷ [] → left ≡ x ∷ rest
    → v ≡ x → nat_le v.slot end' ≡ true → now ++ up_to end' rest ≡ old ++ up_to end' left
heard_one old now rest left x v end' grown first same within =
    ap (λ l. l ++ up_to end' rest) grown ∙ append_assoc old (v ∷ []) (up_to end' rest)
    ∙ ap (λ l. old ++ l) (up_to_first (nat_le v.slot end') v (up_to end' rest) within)
    ∙ ap (λ (u : Vote Command). old ++ up_to end' (u ∷ rest)) same
    ∙ ap (λ l. old ++ up_to end' l) (sym first)

-- where nothing is kept of the votes, nothing is of those behind the first
none_behind_case : (b : Bool) (v : Vote Command) (rest : List (Vote Command)) → cond b (v ∷ rest) rest ≡ [] → rest ≡ []
none_behind_case true v rest e = absurd (cc e)
none_behind_case false v rest e = e

pub none_behind : (rest left : List (Vote Command)) (x : Vote Command) (end' : ℕ) → left ≡ x ∷ rest → up_to end' left ≡ []
    → up_to end' rest ≡ []
none_behind rest left x end' first none =
    none_behind_case (nat_le x.slot end') x (up_to end' rest) (sym (ap (λ l. up_to end' l) first) ∙ none)

-- a vote that comes after the end is passed over
passed_first : (b : Bool) (v : Vote Command) (rest : List (Vote Command)) → b ≡ false → rest ≡ cond b (v ∷ rest) rest
passed_first true v rest e = absurd (cc)
passed_first false v rest e = refl

pub passed_one : (now rest left : List (Vote Command)) (x v : Vote Command) (end' : ℕ) → left ≡ x ∷ rest → v ≡ x
    → nat_le v.slot end' ≡ false → now ++ up_to end' rest ≡ now ++ up_to end' left
passed_one now rest left x v end' first same late =
    ap (λ l. now ++ l) (passed_first (nat_le v.slot end') v (up_to end' rest) late)
    ∙ ap (λ (u : Vote Command). now ++ up_to end' (u ∷ rest)) same
    ∙ ap (λ l. now ++ up_to end' l) (sym first)
