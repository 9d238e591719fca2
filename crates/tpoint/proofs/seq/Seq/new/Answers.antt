use Rattle.std.proofs.Common.{ℕ, List, subst, refl, rules, arith}
use Rattle.tpoint.specs.Moving.{Rises, InBounds}
use Rattle.tpoint.specs.Places.{EachAt}
use Rattle.tpoint.specs.declared.point.Point.{Point}
use Rattle.tpoint.proofs.seq.Seq.new.Goals as goal

pub returns-in-Some-first_out_of_range-clause-valid : goal.returns-in-Some-first_out_of_range-clause-valid
returns-in-Some-first_out_of_range-clause-valid c =
    let P : List Point → Type 0 = λ ps. EachAt ps InBounds c.in-Some-first_out_of_range.k → ⊥ in
    let outside = subst P c.deref-2.ensures.value c.in-Some-first_out_of_range.ensures.fails in
    (λ e. absurd (cc), λ v. absurd (outside (v.in_range c.in-Some-first_out_of_range.k)))

pub invariant_of-result : goal.invariant_of-result
invariant_of-result c =
    let P : List Point → Type 0 = λ ps. (k : ℕ) → Rises ps k in
    let Q : List Point → Type 0 = λ ps. (k : ℕ) → EachAt ps InBounds k in
    record {
      not_empty = search rules;
      not_too_many = omega arith;
      increasing = subst P c.deref.ensures.value c.in_default.ensures;
      in_range = subst Q c.deref-2.ensures.value c.in_default-first_out_of_range.ensures;
    }

pub returns-clause-valid : goal.returns-clause-valid
returns-clause-valid c = (λ _. invariant_of-result c, λ _. refl)
