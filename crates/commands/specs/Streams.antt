-- What a run does to the streams that it reads and writes.
use Rattle.std.specs.Prelude.{◌≡◌, ◌⊎◌, Bool, true, ℕ, List, Option}
use Rattle.std.specs.Io.KnownBytes.{Appends}

-- a reader or a writer, and whether a call of it has failed
pub record Stream (W : Type 0) : Type 0 where
  pub inner : W
  pub has_failed : Bool

-- over what is known of a writer's bytes
module _ {W : Type 0} (contents : W → Option (List ℕ)) where
  -- the text was written, all of it, and nothing else; no write failed
  pub record Takes (old new : Stream W) (text : List ℕ) : Type 0 where
    pub bytes : Appends (contents old.inner) (contents new.inner) text
    pub sound : new.has_failed ≡ old.has_failed

  -- so it was, or a write failed
  abbrev pub Tells : Stream W → Stream W → List ℕ → Type 0
  Tells old new text = Takes old new text ⊎ (new.has_failed ≡ true)
