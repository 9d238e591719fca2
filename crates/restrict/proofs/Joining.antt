-- Lists that are put together, element by element and one after another.
use Rattle.std.proofs.Common.{◌≡◌, ℕ, ◌+◌, ◌<◌, ℤ, pos, ◌*ℤ◌, unsigned_abs, List, [], ◌∷◌, ◌++◌, zero, suc, length, slice_get, get_or, Some}
use Rattle.std.proofs.Common.{sym, ◌∙◌, ap, subst, refl, append_assoc, arith}
use Rattle.std.proofs.lemmas.List.{length_push}
use Rattle.std.proofs.lemmas.Option.{same_Some, none-some, slice_get_read}
use Rattle.tpoint.specs.Reduced.{IsWholeNumber}
use Rattle.tpoint.specs.declared.frac.Frac.{Frac}
use Rattle.tpoint.specs.declared.point.Point.{Point}
use Rattle.restrict.specs.Inside.{IsPoint, ArePoints, AddsPoints}

-- ---- where an element of xs ++ ys stands
pub get_left : {A : Type 0} → (xs ys : List A) (k : ℕ) (x : A) → slice_get xs k ≡ Some x → slice_get (xs ++ ys) k ≡ Some x
get_left [] ys k x e = absurd (none-some x e)
get_left (y ∷ xs) ys zero x e = e
get_left (y ∷ xs) ys (suc k) x e = get_left xs ys k x e

next : {A : Type 0} → (y : A) (xs : List A) (k : ℕ) (x : A) → slice_get xs k ≡ Some x → slice_get (y ∷ xs) (suc k) ≡ Some x
next y xs k x e = e

pub get_right : {A : Type 0} → (xs ys : List A) (k : ℕ) (x : A) → slice_get ys k ≡ Some x → slice_get (xs ++ ys) (k + length xs) ≡ Some x
get_right [] ys k x e = subst (λ (i : ℕ). slice_get ys i ≡ Some x) (omega arith) e
get_right (y ∷ xs) ys k x e =
    subst (λ (i : ℕ). slice_get ((y ∷ xs) ++ ys) i ≡ Some x) {x = suc (k + length xs)} (omega arith)
    (next y (xs ++ ys) (k + length xs) x (get_right xs ys k x e))

-- the element at k is one of xs, or the j-th of ys
pub data Side {A : Type 0} (xs ys : List A) (k : ℕ) (x : A) : Type 0 where
  left : slice_get xs k ≡ Some x → Side xs ys k x
  right : (j : ℕ) → k ≡ j + length xs → slice_get ys j ≡ Some x → Side xs ys k x

pub side : {A : Type 0} → (xs ys : List A) (k : ℕ) (x : A) → slice_get (xs ++ ys) k ≡ Some x → Side xs ys k x
side [] ys k x e = right k (omega arith) e
side (y ∷ xs) ys zero x e = left e
side (y ∷ xs) ys (suc k) x e =
    elim (side xs ys k x e) [
      | left f ↦ left f
      | right j f g ↦ right j (omega arith) g
    ]

-- ---- one point after another
pub record PushedTo (qs : List Point) (n : ℕ) (old new : List (ℕ × Frac × Frac)) : Type 0 where
  pub ws : List (ℕ × Frac × Frac)
  pub are_points : ArePoints qs n ws
  pub added : new ≡ old ++ ws

pub none_pushed : (qs : List Point) (old : List (ℕ × Frac × Frac)) → old ≡ old ++ [] → PushedTo qs 0 old old
none_pushed qs old e = record { ws = []; are_points = record { all = refl; each = λ k q w f g. absurd (none-some w g) }; added = e }

-- a whole number is itself over 1
over_one : (n d z : ℤ) → n ≡ z → d ≡ pos 1 → n *ℤ pos 1 ≡ z *ℤ pos (unsigned_abs d)
over_one n d z e f = rw (e, f) refl

is_point : (q : Point) (x y : Frac) → IsWholeNumber q.x x → IsWholeNumber q.y y → IsPoint q (q.t, x, y)
is_point q x y h k =
    record {
      then = refl;
      there = record {
        same_x = record { cross = over_one x.num x.den q.x h.num h.den };
        same_y = record { cross = over_one y.num y.den q.y k.num k.den };
      };
    }

pub one_more : (qs : List Point) (n : ℕ) (q : Point) (x y : Frac) (old new newer : List (ℕ × Frac × Frac)) → n < length qs
    → q ≡ get_or qs n q → IsWholeNumber q.x x → IsWholeNumber q.y y → newer ≡ new ++ (q.t, x, y) ∷ [] → PushedTo qs n old new
    → PushedTo qs (n + 1) old newer
one_more qs n q x y old new newer within read hx hy e h =
    let w : ℕ × Frac × Frac = (q.t, x, y) in
    record {
      ws = h.ws ++ w ∷ [];
      are_points = record {
        all = omega (arith, length_push h.ws w, h.are_points.all);
        each = λ k p u f g.
            elim (side h.ws (w ∷ []) k u g) [
              | left l ↦ h.are_points.each k p u f l
              | right zero l m ↦
                  let at : slice_get qs n ≡ Some p = subst (λ (i : ℕ). slice_get qs i ≡ Some p) (omega (arith, l, h.are_points.all)) f in
                  let same : q ≡ p = same_Some q p (sym (slice_get_read qs (length qs) n q refl within read) ∙ at) in
                  let P : ℕ × Frac × Frac → Type 0 = λ v. IsPoint p v in
                  let Q : Point → Type 0 = λ r. IsPoint r w in
                  subst P (same_Some w u m) (subst Q same (is_point q x y hx hy))
              | right (suc j) l m ↦ absurd (none-some u m)
            ];
      };
      added = e ∙ (ap (λ (l : List (ℕ × Frac × Frac)). l ++ w ∷ []) h.added ∙ append_assoc old h.ws (w ∷ []));
    }

pub all_pushed : (qs : List Point) (n : ℕ) (old new : List (ℕ × Frac × Frac)) → n ≡ length qs → PushedTo qs n old new
    → AddsPoints qs old new
all_pushed qs n old new e h =
    record {
      inside = h.ws;
      are_points = record { all = h.are_points.all ∙ e; each = h.are_points.each };
      added = h.added;
    }
