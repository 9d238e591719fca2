-- Signs beside each other.
use Rattle.std.proofs.Common.{◌≡◌, ◌==◌, ◌&&◌, inl, inr, ℕ, zero, suc, ◌+◌, ◌<◌, ◌≤◌, List, [], ◌∷◌, ◌++◌, length, take, replicate, slice_index_or, slice_set, if◌then◌else◌, refl, sym, subst, ap, arith}
use Rattle.std.proofs.lemmas.Bool.{cases_eq, eq-eqb}
use Rattle.std.proofs.lemmas.List.{get_or-set_other}
use Rattle.std.proofs.lemmas.List.Sums.{sum_by_more_le, sum_by_push}
use Rattle.diagram.specs.Drawn.{Adds, IsMark, mark_text, sign_place}
use Rattle.diagram.specs.Places.{further}
use Rattle.diagram.specs.Signs.{AreCounted, marks_at}
use Rattle.diagram.specs.declared.scene.Mark.{Mark}

-- 1 for a mark of the node at the step
abbrev pub one_of : ℕ → ℕ → Mark → ℕ
one_of node step m = if m.node == node && m.step == step then 1 else 0

is_one : (m : Mark) → one_of m.node m.step m ≡ 1
is_one m = rw (eq-eqb m.node m.node refl, eq-eqb m.step m.step refl) refl

-- no more than one is added where it is set
set_one : (xs : List ℕ) (i : ℕ) → slice_index_or (slice_set xs i (further (slice_index_or xs i 0) 1)) i 0 ≤ slice_index_or xs i 0 + 1
set_one [] i = omega arith
set_one (x ∷ xs) zero = omega arith
set_one (x ∷ xs) (suc i) = set_one xs i

-- where none is counted yet
zeros : (n node : ℕ) → slice_index_or {A = ℕ} (replicate n 0) node 0 ≡ 0
zeros zero node = refl
zeros (suc n) zero = refl
zeros (suc n) (suc node) = zeros n node

pub none_counted : (n step : ℕ) → AreCounted [] step (replicate n 0)
none_counted n step = record { each = λ node. omega (arith, zeros n node) }

module _ (marks : List Mark) (m : Mark) (lanes : List ℕ) (so_far : AreCounted marks m.step lanes) where
  -- a mark of its node at its step is counted
  counted : AreCounted (marks ++ m ∷ []) m.step (slice_set lanes m.node (further (slice_index_or lanes m.node 0) 1))
  counted = record {
    each = λ node. elim (cases_eq node m.node) [
      | inl e ↦ subst (λ (k : ℕ).
          slice_index_or (slice_set lanes m.node (further (slice_index_or lanes m.node 0) 1)) k 0 ≤ marks_at (marks ++ m ∷ []) k m.step) (sym e)
          (omega (arith, set_one lanes m.node, so_far.each m.node, is_one m, sum_by_push (one_of m.node m.step) marks m))
      | inr apart ↦
          omega (
            arith,
            get_or-set_other lanes m.node node (further (slice_index_or lanes m.node 0) 1) 0 apart,
            so_far.each node,
            sum_by_push (one_of node m.step) marks m,
          )
    ];
  }

  pub one_counted : (all : List Mark) (new : List ℕ) (n : ℕ) → marks ++ m ∷ [] ≡ all → n ≡ slice_index_or lanes m.node 0
      → new ≡ slice_set lanes m.node (further n 1) → AreCounted all m.step new
  one_counted all new n more read set =
      subst (λ (xs : List Mark). AreCounted xs m.step new) more
      (subst (λ (xs : List ℕ). AreCounted (marks ++ m ∷ []) m.step xs) (sym set)
      (subst (λ (k : ℕ). AreCounted (marks ++ m ∷ []) m.step (slice_set lanes m.node (further k 1))) (sym read) counted))

-- a mark among these is behind fewer others
pub fewer : (marks : List Mark) (i : ℕ) (m : Mark) (lanes : List ℕ) → i < length marks → m ≡ slice_index_or marks i m
    → AreCounted (take i marks) m.step lanes → slice_index_or lanes m.node 0 < marks_at marks m.node m.step
fewer marks i m lanes below read so_far =
    omega (arith, so_far.each m.node, is_one m, sum_by_more_le (one_of m.node m.step) marks i m below, ap (one_of m.node m.step) read)

pub mark_so : (nodes : ℕ) (marks : List Mark) (ends : List ℕ) (m : Mark) (others : ℕ) (old new : List ℕ)
    → others < marks_at marks m.node m.step → new ≡ old ++ mark_text (sign_place nodes ends m others) m
    → Adds (IsMark nodes marks ends m) old new
mark_so nodes marks ends m others old new few is = record {
  part = mark_text (sign_place nodes ends m others) m;
  such = record { others = others; fewer = few; is = refl };
  is = is;
}
