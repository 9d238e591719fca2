-- Sets of nodes: a flag for each.
use Rattle.std.specs.Prelude.{ℕ, List, Bool, true, false, replicate, slice_set, slice_index_or}

abbrev pub no_nodes : List Bool
no_nodes = replicate 7 false

-- the node is in the set
abbrev pub has_node : List Bool → ℕ → Bool
has_node set node = slice_index_or set node false

-- the set, and this node
abbrev pub with_node : List Bool → ℕ → List Bool
with_node set node = slice_set set node true
