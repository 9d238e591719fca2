-- Where a node's records are, and what opening those of all nodes comes to.
use Rattle.std.specs.Prelude.{◌≡◌, ◌≢◌, ◌⊎◌, ◌<◌, ◌++◌, if◌then◌else◌, Bool, false, ℕ, List, [], ◌∷◌, Some, codes, eqb, slice_get}
use Rattle.std.specs.Fmt.{decimal}
use Rattle.commands.specs.declared.failure.Failure.{Failure}
use Rattle.commands.specs.declared.failure.Failure.TheVariants as ends
use Rattle.stable.specs.declared.fault.StableFault.{StableFault}
use Rattle.stable.specs.declared.fault.StableFault.TheVariants as refusal
use Rattle.record_files.specs.declared.access.FileAccess.{Ghosts}

-- the path begins at the root of all folders: with a slash
abbrev pub is_rooted : List ℕ → Bool
is_rooted [] = false
is_rooted (byte ∷ rest) = eqb byte 47

-- any other begins at the folder in which the program runs, and is spelled so that none begins with a word, as `file:`, which the
-- database reads in another way
abbrev pub rooted : List ℕ → List ℕ
rooted folder = if is_rooted folder then folder else codes "./" ++ folder

-- where a node's records are
abbrev pub path_in : List ℕ → ℕ → List ℕ
path_in folder number = rooted folder ++ (codes "/node" ++ decimal number ++ codes ".db")

-- over files of which it is known what their calls may do
module _ {A F : Type 0} (files : Ghosts A F) where
  -- these records are what opening the file of this node has handed out
  pub record IsOpened (folder : List ℕ) (number : ℕ) (store : F) : Type 0 where
    pub before : A
    pub after : A
    pub opens : files.opens before (path_in folder number) store after

  -- each node has the records of the file of its very number
  pub record AreOpened (folder : List ℕ) (stores : List F) : Type 0 where
    pub each : (number : ℕ) (store : F) → slice_get stores number ≡ Some store → IsOpened folder number store

  -- the file of one of so many nodes could not be opened, and not for memory
  pub record OpeningIsRefused (folder : List ℕ) (count : ℕ) : Type 0 where
    pub number : ℕ
    pub is_node : number < count
    pub before : A
    pub after : A
    pub fault : StableFault
    pub fails : files.open_fails before (path_in folder number) fault after
    pub cause : fault ≢ refusal.Memory

  -- a device is at fault only where the folder has no name, or where a file could not be opened
  abbrev pub MayFail : (folder : List ℕ) → (count : ℕ) → Failure → Type 0
  MayFail folder count failure = failure ≡ ends.Device → (folder ≡ []) ⊎ OpeningIsRefused folder count
