-- Why points are refused.
use Rattle.std.specs.Prelude.{◌≡◌, ℕ, ◌+◌, ◌-◌, ◌<◌, ◌≤◌, List, ◌++◌, length, codes, Option, Some, None}
use Rattle.std.specs.Fmt.{decimal}
use Rattle.tpoint.specs.Places.{EachAt}
use Rattle.tpoint.specs.Moving.{Rises, InBounds}
use Rattle.tpoint.specs.declared.point.Point.{Point}
use Rattle.tpoint.specs.declared.seq.TheConstants.{MOST_POINTS}
use Rattle.tpoint.specs.declared.faults.SeqFault.{SeqFault}
use Rattle.tpoint.specs.declared.faults.SeqFault.TheVariants as seq_fault
use Rattle.tpoint.specs.declared.faults.AppendFault.{AppendFault}
use Rattle.tpoint.specs.declared.faults.AppendFault.TheVariants as append_fault

-- ---- a list of points that is no sequence: of all faults the first kind, and of that kind the
-- first place
-- i is the first place at which P fails
pub record FirstFailure (P : ℕ → Type 0) (count i : ℕ) : Type 0 where
  pub within : i < count
  pub before : (k : ℕ) → k < i → P k
  pub fails : ¬ P i

-- the point at i is the first that is not later than the one before it
pub record FirstFall (ps : List Point) (i : ℕ) : Type 0 where
  pub before : ℕ
  pub next : i ≡ before + 1
  pub within : i < length ps
  pub first : FirstFailure (Rises ps) (length ps) before

-- as many points as a sequence may have
abbrev pub RightCount : List Point → Type 0
RightCount ps = (1 ≤ length ps) × (length ps ≤ MOST_POINTS)

abbrev pub IsFault : List Point → SeqFault → Type 0
IsFault ps seq_fault.Empty = length ps ≡ 0
IsFault ps seq_fault.TooMany = MOST_POINTS < length ps
IsFault ps (seq_fault.NotIncreasing i) = RightCount ps × FirstFall ps i
IsFault ps (seq_fault.Range i) = RightCount ps × ((k : ℕ) → Rises ps k) ×
    FirstFailure (EachAt ps InBounds) (length ps) i

-- the number under which the fault is told
abbrev pub seq_fault_code : SeqFault → ℕ
seq_fault_code seq_fault.Empty = 1
seq_fault_code seq_fault.TooMany = 2
seq_fault_code (seq_fault.NotIncreasing i) = 3
seq_fault_code (seq_fault.Range i) = 4

-- what is printed of it
abbrev pub seq_fault_text : SeqFault → List ℕ
seq_fault_text seq_fault.Empty = codes "there is no point"
seq_fault_text seq_fault.TooMany = codes "there are too many points"
seq_fault_text (seq_fault.NotIncreasing i) = codes "point " ++ (decimal i ++ codes " is not later than the one before it")
seq_fault_text (seq_fault.Range i) = codes "point " ++ (decimal i ++ codes " has a coordinate out of range")

-- ---- a point that is not appended
-- it is later than the last point
pub record IsLater (ps : List Point) (p : Point) : Type 0 where
  pub after_last : EachAt ps (λ (last : Point). last.t < p.t) (length ps - 1)

-- it may be appended
pub record MayFollow (ps : List Point) (p : Point) : Type 0 where
  pub later : IsLater ps p
  pub room : length ps < MOST_POINTS
  pub in_bounds : InBounds p

abbrev pub IsAppendFault : List Point → Point → AppendFault → Type 0
IsAppendFault ps p append_fault.NotLater = ¬ IsLater ps p
IsAppendFault ps p append_fault.Full = IsLater ps p × (length ps ≡ MOST_POINTS)
IsAppendFault ps p append_fault.Range = IsLater ps p × (length ps < MOST_POINTS) × (¬ InBounds p)
IsAppendFault ps p append_fault.Memory = MayFollow ps p

-- the number under which the fault is told; want of memory has none of its own
abbrev pub append_fault_code : AppendFault → Option ℕ
append_fault_code append_fault.NotLater = Some 22
append_fault_code append_fault.Full = Some 23
append_fault_code append_fault.Range = Some 4
append_fault_code append_fault.Memory = None

-- what is printed of it
abbrev pub append_fault_text : AppendFault → List ℕ
append_fault_text append_fault.NotLater = codes "the point is not later than the last one"
append_fault_text append_fault.Full = codes "the sequence has no room for a point more"
append_fault_text append_fault.Range = codes "the point has a coordinate out of range"
append_fault_text append_fault.Memory = codes "out of memory"
