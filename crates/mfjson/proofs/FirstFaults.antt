-- Which of the rules that a value breaks is the first.
use Rattle.std.proofs.Common.{◌≡◌, ℕ, ◌+◌, ◌<◌, ◌≤◌, ◌==◌, if◌then◌else◌, length, codes, refl, arith, ap, subst, ◌∙◌, inl, inr}
use Rattle.std.proofs.lemmas.Bool.{cases_lt}
use Rattle.serde_json.specs.Data.{Data}
use Rattle.tpoint.specs.declared.seq.TheConstants.{MOST_POINTS}
use Rattle.mfjson.specs.declared.fault.MfFault.{MfFault}
use Rattle.mfjson.specs.declared.fault.MfFault.TheVariants.{NotJson, Members, NotFeature, Id, Geometry, Interpolation, Datetime}
use Rattle.mfjson.specs.declared.fault.MfFault.TheVariants.{Coordinates, Lengths, Empty, TooMany, Order, Memory}
use Rattle.mfjson.specs.Faults.{Breaks, IsFirstBroken, code_of, place_of, HasFeatureMembers, SaysFeature, SaysId, IsMovingPoint, SaysInterp}
use Rattle.mfjson.specs.Faults.{IsInstantText, IsPlaceValue, FailsAt, part, geometry, datetimes, coordinates}

-- the fault of this number, at this place
abbrev fault_at : ℕ → ℕ → MfFault
fault_at n i =
    if n == 1 then NotJson else
    (if n == 2 then Members else
    (if n == 3 then NotFeature else
    (if n == 4 then Id else
    (if n == 5 then Geometry else
    (if n == 6 then Interpolation else
    (if n == 7 then Datetime i else
    (if n == 8 then Coordinates i else
    (if n == 9 then Lengths else
    (if n == 10 then Empty else
    (if n == 11 then TooMany else
    (if n == 12 then Order i else Memory)))))))))))

told : (fault : MfFault) → fault ≡ fault_at (code_of fault) (place_of fault)
told NotJson = refl
told Members = refl
told NotFeature = refl
told Id = refl
told Geometry = refl
told Interpolation = refl
told (Datetime i) = refl
told (Coordinates i) = refl
told Lengths = refl
told Empty = refl
told TooMany = refl
told (Order i) = refl
told Memory = refl

-- what is broken, by its number and place
broken_at : (d : Data) (fault : MfFault) (n : ℕ) → code_of fault ≡ n → Breaks d fault → Breaks d (fault_at n (place_of fault))
broken_at d fault n e b = subst (Breaks d) (told fault ∙ ap (λ m. fault_at m (place_of fault)) e) b

-- the rules of the faults below n are kept
pub record IsClear (d : Data) (n : ℕ) : Type 0 where
  pub below : (fault : MfFault) → Breaks d fault → n ≤ code_of fault

clear_more : (d : Data) (n : ℕ) → IsClear d n → ((i : ℕ) → ¬ Breaks d (fault_at n i)) → IsClear d (n + 1)
clear_more d n c kept =
    record {
      below = λ fault b. elim (cases_lt n (code_of fault)) [
        | inl above ↦ omega (arith, above)
        | inr up_to ↦
            let least = c.below fault b in
            absurd (kept (place_of fault) (broken_at d fault n (omega (arith, up_to, least)) b))
      ];
    }

pub first_of : (d : Data) (fault : MfFault) → IsClear d (code_of fault) → Breaks d fault →
    ((j : ℕ) → j < place_of fault → ¬ Breaks d (fault_at (code_of fault) j)) → IsFirstBroken d fault
first_of d fault c b earlier =
    record {
      broken = b;
      first = λ other broken before. elim before [
        | inl lower ↦ let least = c.below other broken in absurd (omega (arith, lower, least))
        | inr same ↦ earlier (place_of other) same.1 (broken_at d other (code_of fault) same.0 broken)
      ];
    }

-- a fault that tells no place
pub first_alone : (d : Data) (fault : MfFault) → IsClear d (code_of fault) → Breaks d fault → place_of fault ≡ 0 → IsFirstBroken d fault
first_alone d fault c b none = first_of d fault c b (λ j h. absurd (omega (arith, h, none)))

-- ---- rule by rule
clear_0 : (d : Data) → IsClear d 0
clear_0 d = record { below = λ fault b. omega arith }

pub clear_2 : (d : Data) → IsClear d 2
clear_2 d = clear_more d 1 (clear_more d 0 (clear_0 d) (λ i b. b)) (λ i b. b)

pub clear_3 : (d : Data) → HasFeatureMembers d → IsClear d 3
clear_3 d h = clear_more d 2 (clear_2 d) (λ i b. b h)

pub clear_4 : (d : Data) → HasFeatureMembers d → SaysFeature d → IsClear d 4
clear_4 d a h = clear_more d 3 (clear_3 d a) (λ i b. b h)

pub clear_5 : (d : Data) → IsClear d 4 → SaysId (part (codes "id") d) → IsClear d 5
clear_5 d c h = clear_more d 4 c (λ i b. b h)

pub clear_6 : (d : Data) → IsClear d 5 → IsMovingPoint (geometry d) → IsClear d 6
clear_6 d c h = clear_more d 5 c (λ i b. b h)

pub clear_7 : (d : Data) → IsClear d 6 → SaysInterp (part (codes "interpolation") (geometry d)) → IsClear d 7
clear_7 d c h = clear_more d 6 c (λ i b. b h)

pub clear_8 : (d : Data) → IsClear d 7 → ((i : ℕ) → ¬ FailsAt IsInstantText (datetimes d) i) → IsClear d 8
clear_8 d c h = clear_more d 7 c h

pub clear_9 : (d : Data) → IsClear d 8 → ((i : ℕ) → ¬ FailsAt IsPlaceValue (coordinates d) i) → IsClear d 9
clear_9 d c h = clear_more d 8 c h

pub clear_10 : (d : Data) → IsClear d 9 → length (datetimes d) ≡ length (coordinates d) → IsClear d 10
clear_10 d c h = clear_more d 9 c (λ i b. b h)

pub clear_11 : (d : Data) → IsClear d 10 → 1 ≤ length (datetimes d) → IsClear d 11
clear_11 d c h = clear_more d 10 c (λ i b. absurd (omega (arith, h, b)))

pub clear_12 : (d : Data) → IsClear d 11 → length (datetimes d) ≤ MOST_POINTS → IsClear d 12
clear_12 d c h = clear_more d 11 c (λ i b. absurd (omega (arith, h, b)))
