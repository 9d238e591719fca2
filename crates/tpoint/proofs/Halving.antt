-- A binary search among instants of which each is later than the one before.
use Rattle.std.proofs.Common.{◌≡◌, ℕ, zero, suc, ◌+◌, ◌^◌, ◌<◌, ◌≤◌, List, length, get_or, true, false, nat_le, refl, sym}
use Rattle.std.proofs.Common.{ap, subst, ◌∙◌, inl, inr, arith}
use Rattle.std.specs.List.{AllWithin, count_by}
use Rattle.std.specs.Ordering.{nat_cmp, is_gt}
use Rattle.std.proofs.lemmas.Bool.{cases_eq, cases_lt}
use Rattle.std.proofs.lemmas.Bool.Decides.{nat_tests}
use Rattle.std.proofs.lemmas.List.{length-take-le, get_or_default}
use Rattle.std.proofs.lemmas.List.Sums.{length-filter}
use Rattle.std.proofs.Math.Nat.{two-pow-succ}
use Rattle.tpoint.specs.Listing.{IsListed}
use Rattle.tpoint.proofs.ListLemmas.{filter-take}

-- the instants before low are not after t, and those from high on are; `left` more probes find the
-- place between, and at most eleven are made in all
pub record Narrowed (ts : List ℕ) (t low high start made : ℕ) : Type 0 where
  pub passed : AllWithin (λ s. s ≤ t) ts 0 low
  pub to_come : AllWithin (λ s. t < s) ts high (length ts)
  pub ordered : low ≤ high
  pub within : high ≤ length ts
  pub left : ℕ
  pub narrow : high < low + 2 ^ left
  pub few : made + left ≤ start + 11

pub unnarrowed : (ts : List ℕ) (t start : ℕ) → length ts ≤ 1024 → Narrowed ts t 0 (length ts) start start
unnarrowed ts t start short =
    record {
      passed = λ k d from to. absurd (omega arith);
      to_come = λ k d from to. absurd (omega arith);
      ordered = omega arith;
      within = omega arith;
      left = 11;
      narrow = omega arith;
      few = omega arith;
    }

-- with a probe more to come, what is left fits twice what it leaves
record Halved (low high left : ℕ) : Type 0 where
  rest : ℕ
  one_less : left ≡ suc rest
  half : high < low + (2 ^ rest + 2 ^ rest)

halved : (low high left : ℕ) → low < high → high < low + 2 ^ left → Halved low high left
halved low high zero some few = absurd (omega arith)
halved low high (suc rest) some few =
    let twice = two-pow-succ rest in
    record { rest = rest; one_less = refl; half = subst (λ n. high < low + n) twice few }

module _ (ts : List ℕ) (t low high start made middle : ℕ) (listed : IsListed ts) (n : Narrowed ts t low high start made)
    (above : low ≤ middle) (below : middle < high) where
  -- the instant in the middle is not after t
  pub passed_more : low + high ≤ middle + (middle + 1) → get_or ts middle 0 ≤ t →
      Narrowed ts t (middle + 1) high start (made + 1)
  passed_more half reached =
      let h = halved low high n.left (omega arith) n.narrow in
      record {
        passed = λ k d from to. omega (arith, up_to k d (omega arith));
        to_come = n.to_come;
        ordered = omega (arith, n.within);
        within = n.within;
        left = h.rest;
        narrow = omega (arith, h.half);
        few = omega (arith, n.few, h.one_less);
      }
    where
      up_to : (k : ℕ) (d : ℕ) → k ≤ middle → get_or ts k d ≤ t
      up_to k d over =
          let within = n.within in
          let there : get_or ts k d ≡ get_or ts k 0 = get_or_default ts k d 0 (omega arith) in
          elim (cases_eq k middle) [
            | inl same ↦ subst (λ s. s ≤ t) (sym there) (subst (λ j. get_or ts j 0 ≤ t) (sym same) reached)
            | inr other ↦ omega (arith, there, listed.ascending k middle 0 (omega arith) (omega arith))
          ]

  -- it is after t
  pub to_come_more : middle + middle ≤ low + high → t < get_or ts middle 0 →
      Narrowed ts t low middle start (made + 1)
  to_come_more half not_reached =
      let h = halved low high n.left (omega arith) n.narrow in
      record {
        passed = n.passed;
        to_come = λ k d from to. later k d from to;
        ordered = above;
        within = omega (arith, n.within);
        left = h.rest;
        narrow = omega (arith, h.half);
        few = omega (arith, n.few, h.one_less);
      }
    where
      later : (k : ℕ) (d : ℕ) → middle ≤ k → k < length ts → t < get_or ts k d
      later k d from to =
          let there : get_or ts k d ≡ get_or ts k 0 = get_or_default ts k d 0 to in
          elim (cases_eq k middle) [
            | inl same ↦ subst (λ s. t < s) (sym there) (subst (λ j. t < get_or ts j 0) (sym same) not_reached)
            | inr other ↦ omega (arith, there, listed.ascending middle k 0 (omega arith) to)
          ]

-- ---- the number that is found
le_told : (s t : ℕ) → s ≤ t → nat_le s t ≡ true
le_told s t h = grind (arith, nat_tests, h)

lt_told : (s t : ℕ) → t < s → nat_le s t ≡ false
lt_told s t h = grind (arith, nat_tests, h)

pub number_passed : (ts : List ℕ) (t n : ℕ) → AllWithin (λ s. s ≤ t) ts 0 n → AllWithin (λ s. t < s) ts n (length ts) →
    n ≤ length ts → count_by (λ s. nat_le s t) ts ≡ n
number_passed ts t n passed to_come within =
    let front = filter-take (λ s. nat_le s t) ts n (λ k d from to. le_told _ t (passed k d from to))
    (λ k d from to. lt_told _ t (to_come k d from to)) within in
    sym (length-filter (λ s. nat_le s t) ts) ∙ ap length front ∙ length-take-le n ts within

-- ---- what a comparison tells
pub after_told : (s t : ℕ) → is_gt (nat_cmp s t) ≡ true → t < s
after_told s t h =
    elim (cases_lt s t) [
      | inl less ↦ absurd (grind (arith, nat_tests, h, less))
      | inr over ↦ elim (cases_eq s t) [
        | inl same ↦ absurd (grind (arith, nat_tests, h, same))
        | inr other ↦ omega arith
      ]
    ]

pub not_after_told : (s t : ℕ) → is_gt (nat_cmp s t) ≡ false → s ≤ t
not_after_told s t h =
    elim (cases_lt t s) [
      | inl less ↦ absurd (grind (arith, nat_tests, h, less))
      | inr over ↦ omega arith
    ]

-- while something is left there is a probe to come
pub has_probe : (ts : List ℕ) (t low high start made : ℕ) → Narrowed ts t low high start made → low < high →
    made + 1 ≤ start + 11
has_probe ts t low high start made n some =
    let few = n.few in
    let one_less = (halved low high n.left some n.narrow).one_less in
    omega arith
