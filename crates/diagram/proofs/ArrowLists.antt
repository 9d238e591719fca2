-- Arrows, one after another.
use Rattle.std.proofs.Common.{◌≡◌, ℕ, zero, suc, ◌+◌, ◌<◌, List, [], ◌∷◌, ◌++◌, length, slice_index_or, Bool, refl, sym, subst, length-append, arith}
use Rattle.std.proofs.lemmas.Option.{slice_get-get_or, slice_get_read}
use Rattle.wire.specs.declared.frames.envelope.Envelope.{Envelope}
use Rattle.diagram.specs.Arrows.{AreArrows, IsArrow, arrow_of}
use Rattle.diagram.specs.declared.arrows.Arrow.{Arrow}
use Rattle.diagram.specs.declared.arrows.Passage.{Passage}

-- what holds of each element holds still where one more comes, of which it holds as well
each_more : (P : ℕ → Arrow → Type 0) (xs : List Arrow) (x : Arrow)
    → ((i : ℕ) (d : Arrow) → i < length xs → P i (slice_index_or xs i d)) → P (length xs) x
    → (i : ℕ) (d : Arrow) → i < length (xs ++ x ∷ []) → P i (slice_index_or (xs ++ x ∷ []) i d)
each_more P [] x each here zero d below = here
each_more P [] x each here (suc i) d below = absurd (omega arith)
each_more P (y ∷ xs) x each here zero d below = each zero d (omega arith)
each_more P (y ∷ xs) x each here (suc i) d below =
    each_more (λ (j : ℕ) (a : Arrow). P (suc j) a) xs x (λ j e h. each (suc j) e (omega arith)) here i d (omega arith)

-- the arrow of the next frame comes behind those of the frames before it
pub one_more : (frames : List Envelope) (waiting : List Bool) (passages : List Passage) (first number : ℕ) (xs ys : List Arrow) (x : Arrow)
    (f : Envelope) (w : Bool) (p : Passage) → AreArrows frames waiting passages first number xs → ys ≡ xs ++ x ∷ []
    → number < length frames → number < length waiting → number < length passages → f ≡ slice_index_or frames number f
    → x ≡ arrow_of number f (slice_index_or waiting number w) (slice_index_or passages number p)
    → AreArrows frames waiting passages first (number + 1) ys
one_more frames waiting passages first number xs ys x f w p so_far grown in_frames in_waiting in_passages read made =
    let here : IsArrow frames waiting passages number x = record {
      frame = f;
      sent = slice_get_read frames (length frames) number f refl in_frames read;
      waits = slice_index_or waiting number w;
      flag = slice_get-get_or waiting number w in_waiting;
      passage = slice_index_or passages number p;
      passed = slice_get-get_or passages number p in_passages;
      is = made;
    } in
    let once = so_far.each_once in
    subst (λ (zs : List Arrow). AreArrows frames waiting passages first (number + 1) zs) (sym grown) (record {
      each_once = omega (arith, length-append xs (x ∷ []), once);
      each = each_more (λ (i : ℕ) (a : Arrow). IsArrow frames waiting passages (first + i) a) xs x so_far.each
          (subst (λ (k : ℕ). IsArrow frames waiting passages k x) (sym once) here);
    })
