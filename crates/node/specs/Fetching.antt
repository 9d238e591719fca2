-- What a node fetches, as it is held in memory.
use Rattle.node.specs.declared.fetch.Fetching.{Fetching}
use Rattle.node_model.specs.Fetching as model

abbrev pub fetching_of : Fetching → model.Fetching
fetching_of f = record { target = f.target; total = f.total; held = f.held.items }
