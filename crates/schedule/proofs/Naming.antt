-- Naming node by node.
use Rattle.std.proofs.Common.{◌≡◌, ℕ, List, [], ◌∷◌, ◌++◌, append_assoc, append-nil, sym, ◌∙◌, ap, subst}
use Rattle.schedule.specs.Table.{IsNode, NameEach}

-- the first words of the list name these nodes, and the others are left
pub record AreNamed (n : ℕ) (words left : List (List ℕ)) (nodes : List ℕ) : Type 0 where
  pub before : List (List ℕ)
  pub parts : words ≡ before ++ left
  pub named : NameEach n before nodes

pub none_named : (n : ℕ) (words left : List (List ℕ)) → left ≡ words → AreNamed n words left []
none_named n words left same = record { before = []; parts = sym same; named = tt }

-- one word more
named_more : (n : ℕ) (before : List (List ℕ)) (word : List ℕ) (nodes : List ℕ) (node : ℕ) → NameEach n before nodes
    → IsNode n word node → NameEach n (before ++ word ∷ []) (nodes ++ node ∷ [])
named_more n [] word [] node named is = (is, tt)
named_more n [] word (x ∷ xs) node named is = absurd named
named_more n (w ∷ ws) word [] node named is = absurd named
named_more n (w ∷ ws) word (x ∷ xs) node named is = (named.0, named_more n ws word xs node named.1 is)

pub one_named : (n : ℕ) (words left more : List (List ℕ)) (word : List ℕ) (nodes now : List ℕ) (node : ℕ)
    → AreNamed n words left nodes → left ≡ word ∷ more → IsNode n word node → now ≡ nodes ++ node ∷ []
    → AreNamed n words more now
one_named n words left more word nodes now node a next is added = record {
  before = a.before ++ word ∷ [];
  parts = a.parts ∙ ap (λ (ws : List (List ℕ)). a.before ++ ws) next ∙ sym (append_assoc a.before (word ∷ []) more);
  named = rw added (named_more n a.before word nodes node a.named is);
}

-- all words
pub all_named : (n : ℕ) (words left : List (List ℕ)) (nodes : List ℕ) → AreNamed n words left nodes → left ≡ []
    → NameEach n words nodes
all_named n words left nodes a none =
    let same : words ≡ a.before = a.parts ∙ ap (λ (ws : List (List ℕ)). a.before ++ ws) none ∙ append-nil a.before in
    subst (λ (ws : List (List ℕ)). NameEach n ws nodes) (sym same) a.named

-- words among which one names no node name none
stranger_among : (n : ℕ) (before more : List (List ℕ)) (word : List ℕ) (nodes : List ℕ)
    → ((node : ℕ) → ¬ (IsNode n word node)) → ¬ (NameEach n (before ++ word ∷ more) nodes)
stranger_among n [] more word [] none named = named
stranger_among n [] more word (x ∷ xs) none named = none x named.0
stranger_among n (w ∷ ws) more word [] none named = named
stranger_among n (w ∷ ws) more word (x ∷ xs) none named = stranger_among n ws more word xs none named.1

pub stranger : (n : ℕ) (words left more : List (List ℕ)) (word : List ℕ) (taken : List ℕ) → AreNamed n words left taken
    → left ≡ word ∷ more → ((node : ℕ) → ¬ (IsNode n word node)) → (nodes : List ℕ) → ¬ (NameEach n words nodes)
stranger n words left more word taken a next none nodes named =
    let parts = a.parts ∙ ap (λ (ws : List (List ℕ)). a.before ++ ws) next in
    stranger_among n a.before more word nodes none (subst (λ (ws : List (List ℕ)). NameEach n ws nodes) parts named)
