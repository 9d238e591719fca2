-- How much a turn takes: all that there is, or as much as one may.
use Rattle.std.proofs.Common.{◌≡◌, ◌<◌, ◌≤◌, ℕ, ◌+◌, Bool, true, false, List, [], ◌∷◌, ◌++◌, length, Option, Some, refl, sym, ap, subst, ◌∙◌, arith}
use Rattle.std.proofs.lemmas.List.{length_push}
use Rattle.std.proofs.lemmas.List.Elements.{All-append, All-cons, All-nil}
use Rattle.serving.specs.Resting.{AllCame, HasRead, IsReading}
use Rattle.serving.specs.Resting.HasRead.{as_many_as_may_be, up_to_the_last}
use Rattle.serving.specs.Serving.{Passes}
use Rattle.serving.specs.Tapes.{IsHeard, heard, read}
use Rattle.serving.specs.declared.desk.Came.{Came}
use Rattle.serving.specs.declared.desk.Came.TheVariants as came
use Rattle.serving.specs.declared.server.TheConstants.{MOST_IN_A_TURN}
use Rattle.serving.proofs.Passing.{passes_none, passes_then}

pub what_came_is_read : (what : Came) → read (heard what) ≡ Some true
what_came_is_read (came.Line connection text) = refl
what_came_is_read (came.Gone connection) = refl

pub what_came_was_heard : (what : Came) → IsHeard (heard what)
what_came_was_heard (came.Line connection text) = tt
what_came_was_heard (came.Gone connection) = tt

module _ {T A : Type 0} (tape : T → List A) (Tells : T → Type 0) (found : A → Option Bool) where
  -- so many came, and led somewhere
  abbrev pub SoMany : (List A → Type 0) → ℕ → List A → Type 0
  SoMany Leads count passed = Leads passed × AllCame found passed × (length passed ≡ count)

  pub none_came : (Leads : List A → Type 0) (t : T) → Leads [] → Passes tape Tells (SoMany Leads 0) t t
  none_came Leads t leads = record {
    passed = [];
    are = (leads, All-nil (λ x. found x ≡ Some true), refl);
    passes = passes_none tape Tells t;
  }

  more_came : (Leads More Both : List A → Type 0) → ((xs ys : List A) → Leads xs → More ys → Both (xs ++ ys)) → (count : ℕ)
      (xs ys : List A) (is : Bool) → is ≡ true → SoMany Leads count xs → More ys × IsReading found ys is → SoMany Both (count + 1) (xs ++ ys)
  more_came Leads More Both join count xs ys is so h k =
      let one = k.1 in
      let last : xs ++ ys ≡ xs ++ one.0 ∷ [] = ap (λ (zs : List A). xs ++ zs) one.1 in
      let each : AllCame found (xs ++ one.0 ∷ []) =
      All-append (λ x. found x ≡ Some true) xs (one.0 ∷ []) h.1
      (All-cons (λ x. found x ≡ Some true) one.0 [] (one.2 ∙ ap (λ (b : Bool). Some b) so) (All-nil (λ x. found x ≡ Some true))) in (
        join xs ys h.0 k.0,
        subst (λ (zs : List A). AllCame found zs) (sym last) each,
        ap (λ (zs : List A). length zs) last ∙ length_push xs one.0 ∙ ap (λ (n : ℕ). n + 1) h.2,
      )

  -- one more
  pub came_then : (Leads More Both : List A → Type 0) → ((xs ys : List A) → Leads xs → More ys → Both (xs ++ ys)) → (count : ℕ)
      (a b c : T) (is : Bool) → is ≡ true → Passes tape Tells (SoMany Leads count) a b
      → Passes tape Tells (λ ys. More ys × IsReading found ys is) b c → Passes tape Tells (SoMany Both (count + 1)) a c
  came_then Leads More Both join count a b c is so h k = record {
    passed = h.passed ++ k.passed;
    are = more_came Leads More Both join count h.passed k.passed is so h.are k.are;
    passes = passes_then tape Tells a b c h.passed k.passed h.passes k.passes;
  }

  -- no more
  pub read_to_the_last : (Leads More Both : List A → Type 0) → ((xs ys : List A) → Leads xs → More ys → Both (xs ++ ys)) → (count : ℕ)
      (a b c : T) (is : Bool) → is ≡ false → count < MOST_IN_A_TURN → Passes tape Tells (SoMany Leads count) a b
      → Passes tape Tells (λ ys. More ys × IsReading found ys is) b c → Passes tape Tells (λ xs. Both xs × HasRead found xs false) a c
  read_to_the_last Leads More Both join count a b c is so few h k =
      let one = k.are.1 in
      let last : h.passed ++ one.0 ∷ [] ≡ h.passed ++ k.passed = ap (λ (zs : List A). h.passed ++ zs) (sym one.1) in
      let has : HasRead found (h.passed ++ one.0 ∷ []) false =
      up_to_the_last h.passed one.0 h.are.1 (omega (arith, few, h.are.2)) (one.2 ∙ ap (λ (b : Bool). Some b) so) in
      record {
        passed = h.passed ++ k.passed;
        are = (join h.passed k.passed h.are.0 k.are.0, subst (λ (zs : List A). HasRead found zs false) last has);
        passes = passes_then tape Tells a b c h.passed k.passed h.passes k.passes;
      }

  -- as many as may be
  pub read_the_most : (Leads : List A → Type 0) (count : ℕ) (a b : T) → count ≤ MOST_IN_A_TURN → MOST_IN_A_TURN ≤ count
      → Passes tape Tells (SoMany Leads count) a b → Passes tape Tells (λ xs. Leads xs × HasRead found xs true) a b
  read_the_most Leads count a b most least h = record {
    passed = h.passed;
    are = (h.are.0, as_many_as_may_be h.passed h.are.1 (omega (arith, most, least, h.are.2)));
    passes = h.passes;
  }
