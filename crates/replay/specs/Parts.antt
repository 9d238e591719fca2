-- Texts that are handed on in parts.
use Rattle.std.specs.Prelude.{◌≡◌, ℕ, List, ◌++◌}
use Rattle.std.specs.List.{FoldsTo, concat}

-- to something of which it is known what a part may make of it
module _ {K : Type 0} (takes : K → List ℕ → K → Type 0) where
  -- the text was handed on in some parts, one after the other
  pub record TakesInParts (old : K) (text : List ℕ) (new : K) : Type 0 where
    pub parts : List (List ℕ)
    pub taken : FoldsTo takes old parts new
    pub joined : concat parts ≡ text

  -- the text was added behind what waited: of both, some was handed on, and the rest waits
  pub record Adds (old : K) (waited text : List ℕ) (new : K) (waits : List ℕ) : Type 0 where
    pub handed : List ℕ
    pub parts : TakesInParts old handed new
    pub joined : handed ++ waits ≡ waited ++ text
