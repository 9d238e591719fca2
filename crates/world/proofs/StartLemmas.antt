-- The nodes with which a run begins.
use Rattle.std.proofs.Common.{◌≡◌, ℕ, zero, suc, ◌+◌, ◌≤◌, ◌⊎◌, inl, inr, List, [], ◌∷◌, ◌++◌, length, slice_get, map, Some, refl, sym, ap}
use Rattle.std.proofs.Common.{subst, ◌∙◌, arith, append-nil}
use Rattle.std.proofs.lemmas.List.{map-append, length-append, length-map}
use Rattle.std.proofs.lemmas.List.Elements.{All-nil}
use Rattle.std.proofs.lemmas.Option.{same_Some, none-some, slice_get_within}
use Rattle.stable.specs.Script.{Script}
use Rattle.stable.specs.declared.stable.Stable.{Ghosts}
use Rattle.wire.specs.declared.frames.envelope.Envelope.{Envelope}
use Rattle.node.specs.declared.node.Node.{Node}
use Rattle.node_model.specs.Loading.{IsMember}
use Rattle.node_model.specs.Sending.{IsBetween}
use Rattle.world_model.specs.Memberships.{IsMembership}
use Rattle.world_model.specs.Flushing.{IsStarted, HaveStarted}
use Rattle.world_model.specs.Starting.{AreOver, WasRead}
use Rattle.node_model.specs.Nodes.{NodeState}
use Rattle.node.specs.Seen.{state_of}

-- what stands in a list with one element more at its end: that one, or what stood there
pub pushed_at : {A : Type 0} (xs : List A) (i : ℕ) (y z : A) → slice_get (xs ++ y ∷ []) i ≡ Some z
    → ((i ≡ length xs) × (y ≡ z)) ⊎ (slice_get xs i ≡ Some z)
pushed_at [] zero y z e = inl (refl, same_Some y z e)
pushed_at [] (suc i) y z e = absurd (none-some z e)
pushed_at (x ∷ xs) zero y z e = inr e
pushed_at (x ∷ xs) (suc i) y z e = elim (pushed_at xs i y z e) [ inl last ↦ inl (ap suc last.0, last.1) | inr before ↦ inr before ]

-- what was taken from a list is all of it, once none is left
pub all_taken : {A : Type 0} (taken left all : List A) (more len count : ℕ) → taken ++ left ≡ all → more ≡ length left → more ≡ 0
    → len ≡ length all → len ≡ count → length taken ≡ count
all_taken taken left all more len count parts counted none whole one_each =
    let sum : length (taken ++ left) ≡ length all = ap length parts in
    omega (arith, length-append taken left, sum, counted, none, whole, one_each)

-- so it is that list
pub whole_taken : {A : Type 0} (taken left all : List A) (more : ℕ) → taken ++ left ≡ all → more ≡ length left → more ≡ 0 → taken ≡ all
whole_taken taken [] all more parts counted none = sym (append-nil taken) ∙ parts
whole_taken taken (x ∷ left) all more parts counted none = absurd (omega (arith, counted, none))

module _ {S : Type 0} (storages : Ghosts (Script S)) where
  -- none has started
  pub none_started : (count : ℕ) (nodes : List (Node (Script S))) → nodes ≡ [] → HaveStarted storages 0 count (map state_of nodes)
  none_started count nodes none =
      subst (λ (ns : List (Node (Script S))). HaveStarted storages 0 count (map state_of ns)) (sym none)
      (record { all = refl; each = λ i n here. absurd (none-some n here) })

  -- one node more has started
  one_more : (first count : ℕ) (nodes : List (NodeState (Script S))) (n : NodeState (Script S)) → HaveStarted storages first count nodes
      → IsStarted storages first count n → HaveStarted storages (first + 1) count (nodes ++ n ∷ [])
  one_more first count nodes n h started = record {
    all = omega (arith, length-append nodes (n ∷ []), h.all);
    each = λ i m here. elim (pushed_at nodes i n m here) [
      | inl last ↦ subst (λ (x : NodeState (Script S)). IsStarted storages i count x) last.1
          (subst (λ k. IsStarted storages k count n) (sym (last.0 ∙ h.all)) started)
      | inr before ↦ h.each i m before
    ];
  }

  pub one_more_started : (first count : ℕ) (nodes more : List (Node (Script S))) (n : Node (Script S)) → more ≡ nodes ++ n ∷ []
      → HaveStarted storages first count (map state_of nodes) → IsStarted storages first count (state_of n)
      → HaveStarted storages (first + 1) count (map state_of more)
  one_more_started first count nodes more n e h started =
      subst (λ (ns : List (NodeState (Script S))). HaveStarted storages (first + 1) count ns)
      (sym (ap (map state_of) e ∙ map-append state_of nodes (n ∷ [])))
      (one_more first count (map state_of nodes) (state_of n) h started)

  -- nodes that have started are a membership, of which nothing was sent yet
  membership_of : (count : ℕ) (nodes : List (NodeState (Script S))) → HaveStarted storages count count nodes → length nodes ≤ 7
      → IsMembership nodes []
  membership_of count nodes h few = record {
    few = few;
    members = λ i n here. subst (λ k. IsMember i k n) (sym h.all) (h.each i n here).member;
    between = All-nil (IsBetween (length nodes));
  }

  pub started_membership : (count len : ℕ) (nodes : List (Node (Script S))) (frames : List Envelope) → len ≡ length nodes → len ≤ 7
      → frames ≡ [] → HaveStarted storages count count (map state_of nodes) → IsMembership (map state_of nodes) frames
  started_membership count len nodes frames e few nothing h =
      subst (λ (fs : List Envelope). IsMembership (map state_of nodes) fs) (sym nothing)
      (membership_of count (map state_of nodes) h (omega (arith, e, few, length-map nodes state_of)))

-- ---- each node is over its own storage
module _ {S : Type 0} (storages : Ghosts S) where
  pub none_over : (nodes : List (NodeState (Script S))) → AreOver storages [] nodes
  none_over nodes = record { each = λ i s n here there. absurd (none-some s here) }

  -- one storage more, and the node over it
  one_more_over : (stores : List S) (nodes : List (NodeState (Script S))) (store : S) (node : NodeState (Script S))
      → length nodes ≡ length stores → AreOver storages stores nodes → WasRead storages store node.storage.inner
      → AreOver storages (stores ++ store ∷ []) (nodes ++ node ∷ [])
  one_more_over stores nodes store node same h read = record {
    each = λ i s n here there. elim (pushed_at stores i store s here) [
      | inl last ↦ elim (pushed_at nodes i node n there) [
        | inl also ↦ subst (λ (x : S). WasRead storages x n.storage.inner) last.1
            (subst (λ (m : NodeState (Script S)). WasRead storages store m.storage.inner) also.1 read)
        | inr before ↦ absurd (omega (arith, slice_get_within nodes i n before, last.0, same))
      ]
      | inr before ↦ elim (pushed_at nodes i node n there) [
        | inl also ↦ absurd (omega (arith, slice_get_within stores i s before, also.0, same))
        | inr earlier ↦ h.each i s n before earlier
      ]
    ];
  }

  pub one_over_more : (stores : List S) (nodes more : List (Node (Script S))) (store : S) (node : Node (Script S))
      → more ≡ nodes ++ node ∷ [] → length (map state_of nodes) ≡ length stores → AreOver storages stores (map state_of nodes)
      → WasRead storages store (state_of node).storage.inner → AreOver storages (stores ++ store ∷ []) (map state_of more)
  one_over_more stores nodes more store node e same h read =
      subst (λ (ns : List (NodeState (Script S))). AreOver storages (stores ++ store ∷ []) ns)
      (sym (ap (map state_of) e ∙ map-append state_of nodes (node ∷ [])))
      (one_more_over stores (map state_of nodes) store (state_of node) same h read)
