-- The points that are listed make a sequence, where there are neither none nor too many.
use Rattle.std.proofs.Common.{◌≡◌, ℕ, ◌+◌, ◌<◌, ◌≤◌, ◌⊎◌, inl, inr, refl, ◌∙◌, ap, subst, arith}
use Rattle.std.proofs.Common.{List, [], ◌∷◌, ◌++◌, length, Result, Ok, Err, IfErr}
use Rattle.std.proofs.lemmas.Bool.{cases_lt}
use Rattle.std.proofs.lemmas.Int.{ints}
use Rattle.std.proofs.lemmas.List.{length_push}
use Rattle.std.proofs.lemmas.Option.{slice_get_within}
use Rattle.tpoint.specs.Moving.{IsValid}
use Rattle.tpoint.specs.declared.interp.Interp.TheVariants.{Linear}
use Rattle.tpoint.specs.declared.point.Point.{Point}
use Rattle.tpoint.proofs.Appending.{added_at, kept_at}
use Rattle.conformance.specs.Scenes.{AreFixes, fix}
use Rattle.conformance.specs.declared.fault.Fault.{Fault}
use Rattle.conformance.specs.declared.fault.Fault.TheVariants.{Usage}

pub no_fixes : AreFixes 0 []
no_fixes = record { size = refl; each = λ k p e. absurd (omega (arith, slice_get_within [] k p e)) }

pub one_fix_more : (n : ℕ) (ps : List Point) (q : Point) → AreFixes n ps → q ≡ fix n → AreFixes (n + 1) (ps ++ q ∷ [])
one_fix_more n ps q so_far h =
    let size = so_far.size in
    record {
      size = length_push ps q ∙ ap (λ (m : ℕ). m + 1) size;
      each = λ k p e.
          elim (cases_lt k (length ps)) [
            | inl less ↦ so_far.each k p (kept_at ps q p k less e)
            | inr over ↦
                let within = slice_get_within (ps ++ q ∷ []) k p e in
                let place : n ≡ k = omega (arith, within, length_push ps q) in
                subst (λ (m : ℕ). p ≡ fix m) place (subst (λ (z : Point). z ≡ fix n) (added_at ps q p k over e) h)
          ];
    }

pub fixes_are_valid : (n : ℕ) (ps : List Point) → AreFixes n ps → 1 ≤ n → n ≤ 1024 → IsValid (record { interp = Linear; points = ps })
fixes_are_valid n ps are some few =
    let size = are.size in
    record {
      not_empty = omega arith;
      not_too_many = omega arith;
      increasing = λ k p q e f.
          omega (arith, ap (λ (z : Point). z.t) (are.each k p e), ap (λ (z : Point). z.t) (are.each (k + 1) q f));
      in_range = λ k p e.
          let within = slice_get_within ps k p e in
          let x = ap (λ (z : Point). z.x) (are.each k p e) in
          let y = ap (λ (z : Point). z.y) (are.each k p e) in
          record {
            x_fits = record { least = omega (arith, ints, x); greatest = omega (arith, ints, x) };
            y_fits = record { least = omega (arith, ints, y); greatest = omega (arith, ints, y) };
          };
    }

-- so where they make none, there are none or too many
pub else_usage : (n : ℕ) (ps : List Point) → AreFixes n ps → ¬ IsValid (record { interp = Linear; points = ps }) → (n ≡ 0) ⊎ (1024 < n)
else_usage n ps are invalid =
    elim (cases_lt 0 n) [
      | inl some ↦
          elim (cases_lt 1024 n) [
            | inl many ↦ inr many
            | inr few ↦ absurd (invalid (fixes_are_valid n ps are (omega arith) few))
          ]
      | inr none ↦ inl (omega arith)
    ]

-- what holds anyway holds at a fault
pub at_usage : {T : Type 0} → (r : Result T Fault) (P : Type 0) → P → IfErr r (λ fault. fault ≡ Usage → P)
at_usage (Ok v) P p = tt
at_usage (Err e) P p = λ _. p
