-- The plain database: features, ascending by their ids.
use Rattle.std.specs.Prelude.{ℕ, ◌≤◌, List, length, All, Option}
use Rattle.tpoint.specs.Moving.{IsValid}
use Rattle.mfjson.specs.declared.feature.Feature.{Feature}
use Rattle.timeindex.specs.Ascending as by_id
use Rattle.timeindex.specs.Ascending.{IdsAscend, element_of, with_element}
use Rattle.store.specs.declared.db.TheConstants.{MOST_FEATURES}

-- features go by their ids
abbrev pub feature_id : Feature → List ℕ
feature_id f = f.id

-- a database: the id of each feature comes before those of all that follow, and there are at most
-- `MOST_FEATURES`
pub record IsDatabase (fs : List Feature) : Type 0 where
  pub ascending : IdsAscend feature_id fs
  pub not_too_many : length fs ≤ MOST_FEATURES

-- each feature's sequence is valid
pub record AreValid (fs : List Feature) : Type 0 where
  pub each : All (λ (f : Feature). IsValid f.seq) fs

-- the feature with an id, where there is one
abbrev pub feature_of : List Feature → List ℕ → Option Feature
feature_of = element_of feature_id

-- the database with a feature, in the place of any other with its id
abbrev pub with_feature : List Feature → Feature → List Feature
with_feature = with_element feature_id

-- the database without the feature of an id
abbrev pub without : List Feature → List ℕ → List Feature
without = by_id.without feature_id
