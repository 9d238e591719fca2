-- Where an id stands in a database, or would stand.
use Rattle.std.specs.Prelude.{ℕ, List}
use Rattle.mfjson.specs.declared.feature.Feature.{Feature}
use Rattle.timeindex.specs.Ascending as by_id
use Rattle.store.specs.Features.{feature_id}

-- the feature at i has the id
abbrev pub FeatureIsAt : List Feature → List ℕ → ℕ → Type 0
FeatureIsAt = by_id.ElementIsAt feature_id

-- none has it, and a feature with it would go to the place i
abbrev pub IsFeatureGap : List Feature → List ℕ → ℕ → Type 0
IsFeatureGap = by_id.IsElementGap feature_id
