-- One node of a world is changed.
use Rattle.std.proofs.Common.{◌≡◌, ℕ, ◌<◌, List, map, length, slice_get, slice_set, Some, option_map, sym, ap, ◌∙◌, subst, refl, arith}
use Rattle.std.proofs.Common.{append-nil}
use Rattle.std.proofs.lemmas.List.{map-set, set-get_or}
use Rattle.std.proofs.lemmas.Option.{slice_get-map, slice_get_read, get_or_from_slice_get}
use Rattle.std.proofs.Math.ListN.{get_or}
use Rattle.stable.specs.Script.{Script}
use Rattle.stable.specs.declared.stable.Stable.{Ghosts}
use Rattle.node.specs.declared.node.Node.{Node}
use Rattle.node_model.specs.Nodes.{NodeState}
use Rattle.node.specs.Seen.{state_of}
use Rattle.node_model.specs.Outputs.{silence}
use Rattle.world_model.specs.Worlds.{WorldState, DeliversFrame, with_node, with_response, quiet}

-- the node at a place, as it shows
pub shown_at : {S : Type 0} (nodes : List (Node (Script S))) (i : ℕ) (n : Node (Script S)) → slice_get nodes i ≡ Some n
    → slice_get (map state_of nodes) i ≡ Some (state_of n)
shown_at nodes i n here = slice_get-map state_of nodes i ∙ ap (option_map state_of) here

-- another node at a place, as it shows
pub shown_set : {S : Type 0} (nodes : List (Node (Script S))) (i : ℕ) (n : Node (Script S))
    → map state_of (slice_set nodes i n) ≡ slice_set (map state_of nodes) i (state_of n)
shown_set nodes i n = map-set state_of nodes i n

-- what a change of one node leaves, as it shows
pub left_by : {S : Type 0} (new old : WorldState S) (nodes : List (Node (Script S))) (i : ℕ) (n : Node (Script S))
    (f : WorldState S → WorldState S) → new ≡ f (record old { nodes = map state_of (slice_set nodes i n) })
    → old.nodes ≡ map state_of nodes → new ≡ f (with_node old i (state_of n))
left_by {S} new old nodes i n f e same =
    e ∙ ap (λ (ns : List (NodeState (Script S))). f (record old { nodes = ns }))
    (shown_set nodes i n ∙ ap (λ (ms : List (NodeState (Script S))). slice_set ms i (state_of n)) (sym same))

-- the node that an index lends, as it shows
pub lent_at : {S : Type 0} (nodes : List (Node (Script S))) (len i j : ℕ) (n : Node (Script S)) → len ≡ length nodes → j ≡ i → i < len
    → n ≡ get_or nodes j n → slice_get (map state_of nodes) i ≡ Some (state_of n)
lent_at nodes len i j n counted named there lent =
    shown_at nodes i n (subst (λ k. slice_get nodes k ≡ Some n) named
    (slice_get_read nodes len j n counted (omega (arith, named, there)) lent))

-- a node is put at its own place, as it is
set_same : {S : Type 0} (nodes : List (NodeState (Script S))) (i : ℕ) (n : NodeState (Script S)) → slice_get nodes i ≡ Some n
    → slice_set nodes i n ≡ nodes
set_same nodes i n here = ap (λ m. slice_set nodes i m) (sym (get_or_from_slice_get nodes i n n here)) ∙ set-get_or nodes i n

-- the node that an index lends has changed, and shows what it showed
pub shows_the_same : {S : Type 0} (nodes : List (Node (Script S))) (len j : ℕ) (n m : Node (Script S)) → len ≡ length nodes → j < len
    → n ≡ get_or nodes j n → state_of m ≡ state_of n → map state_of (slice_set nodes j m) ≡ map state_of nodes
shows_the_same {S} nodes len j n m counted there lent same =
    shown_set nodes j m ∙ ap (λ (t : NodeState (Script S)). slice_set (map state_of nodes) j t) same
    ∙ set_same (map state_of nodes) j (state_of n) (lent_at nodes len j j n counted refl there lent)

-- a step of which nothing comes
pub nothing_comes : {S : Type 0} (w : WorldState S) (i : ℕ) (n : NodeState (Script S)) → slice_get w.nodes i ≡ Some n
    → quiet w ≡ with_response (with_node w i n) i silence
nothing_comes w i n here =
    rw (set_same w.nodes i n here, append-nil w.frames, append-nil w.waiting, append-nil w.learnt, append-nil w.replies) refl

-- a frame is delivered in a world that is the same, under the same number
pub delivers_same : {S : Type 0} (storages : Ghosts (Script S)) (v w : WorldState S) (j k : ℕ) (new : WorldState S) → v ≡ w → j ≡ k
    → DeliversFrame storages v j new → DeliversFrame storages w k new
delivers_same storages v w j k new same named d =
    subst (λ i. DeliversFrame storages w i new) named (subst (λ u. DeliversFrame storages u j new) same d)
