-- Requests by client and number.
use Rattle.std.specs.Prelude.{◌≡◌, ◌≢◌, ℕ, List, slice_get, Contains, true, false, Option, Some, None}
use Rattle.std.specs.BTreeMap.{BTreeMap, get}
use Rattle.std.specs.Ordering.{nat_cmp, ordering_then}
use Rattle.std.specs.declared.cmp.Ordering.{Ordering}
use Rattle.sessions.specs.declared.submission.Submission.{Submission}
use Rattle.verdicts.specs.declared.request_index.Occurrence.{Occurrence}

-- it is known by this client and number
pub record IsOf (client number : ℕ) (r : Submission) : Type 0 where
  pub of_client : r.client ≡ client
  pub of_number : r.number ≡ number

-- two requests of the client and number have different operations
pub record IsAmbiguous (requests : List Submission) (client number : ℕ) : Type 0 where
  pub one : Submission
  pub other : Submission
  pub one_there : Contains requests one
  pub other_there : Contains requests other
  pub one_is : IsOf client number one
  pub other_is : IsOf client number other
  pub differ : one.op ≢ other.op

-- a request of the client and number stands at the first place, and each other one is the same unless it is ambiguous
pub record IsOccurrence (requests : List Submission) (client number : ℕ) (o : Occurrence) : Type 0 where
  pub first : Submission
  pub there : slice_get requests o.first ≡ Some first
  pub is_of : IsOf client number first
  pub only : o.is_ambiguous ≡ false → (r : Submission) → Contains requests r → IsOf client number r → r ≡ first
  pub ambiguous : o.is_ambiguous ≡ true → IsAmbiguous requests client number

abbrev pub IsFound : List Submission → ℕ → ℕ → Option Occurrence → Type 0
IsFound requests client number None = (r : Submission) → Contains requests r → IsOf client number r → ⊥
IsFound requests client number (Some o) = IsOccurrence requests client number o

abbrev pub key_cmp : ℕ × ℕ → ℕ × ℕ → Ordering
key_cmp a b = ordering_then (nat_cmp a.0 b.0) (nat_cmp a.1 b.1)

abbrev pub reply_cmp : (ℕ × ℕ) × ℕ → (ℕ × ℕ) × ℕ → Ordering
reply_cmp a b = ordering_then (key_cmp a.0 b.0) (nat_cmp a.1 b.1)

pub record IsIndexed (requests : List Submission) (index : BTreeMap (ℕ × ℕ) Occurrence) : Type 0 where
  pub each : (client number : ℕ) → IsFound requests client number (get key_cmp index (client, number))
