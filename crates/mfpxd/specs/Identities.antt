-- What stands beside a database.
use Rattle.std.specs.Prelude.{◌≡◌, ◌≢◌, ℕ, List, ◌++◌, Bool, true, false, Option, Some, None, codes, decimal}
use Rattle.hex.specs.Hex.{encode_lower}
use Rattle.mfpxd.specs.declared.identity.Standing.{Standing}
use Rattle.mfpxd.specs.declared.identity.Standing.TheVariants.{Missing, Begun, Served, Foreign}

-- three lines: the run's name, the node, and how many nodes there are
abbrev pub identity_text : List ℕ → ℕ → ℕ → List ℕ
identity_text name node nodes =
    codes "run " ++ (encode_lower name ++ (codes "\nnode " ++ (decimal node ++ (codes "\nnodes " ++ (decimal nodes ++ codes "\n")))))

-- and a fourth as long as the node has only begun: it serves nobody before it is gone
abbrev pub begun_text : List ℕ → List ℕ
begun_text own = own ++ codes "begun\n"

-- ---- what it says of a node whose own text is this
abbrev pub Says : List ℕ → Option (List ℕ) → Standing → Type 0
Says own found Missing = found ≡ None
Says own found Begun = found ≡ Some (begun_text own)
Says own found Served = found ≡ Some own
Says own found Foreign = (found ≢ None) × (found ≢ Some (begun_text own)) × (found ≢ Some own)

-- ---- when a node may start
-- for the first time where neither a database nor a text is there, or where a first start was cut off before it made a database; and again
-- where its database is there, whether its first start was cut off behind that or not
pub data MayStart (is_new has_database : Bool) (standing : Standing) : Type 0 where
  first : is_new ≡ true → has_database ≡ false → standing ≡ Missing → MayStart is_new has_database standing
  begins_again : is_new ≡ true → has_database ≡ false → standing ≡ Begun → MayStart is_new has_database standing
  goes_on : is_new ≡ false → has_database ≡ true → standing ≡ Begun → MayStart is_new has_database standing
  again : is_new ≡ false → has_database ≡ true → standing ≡ Served → MayStart is_new has_database standing
