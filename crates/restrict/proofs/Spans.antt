-- A list of vertices has values from its first instant to its last, and nowhere else.
use Rattle.std.proofs.Common.{◌≡◌, ◌≢◌, ℕ, ◌+◌, ◌<◌, inl, inr, zero, suc, List, map, length, slice_get, get_or, Some, sym, subst, refl}
use Rattle.std.proofs.Common.{arith}
use Rattle.std.proofs.lemmas.Bool.{cases_lt}
use Rattle.std.proofs.lemmas.Option.{slice_get_within, slice_get-get_or}
use Rattle.tpoint.proofs.Fractions.{≤ᶠ_trans, ≤ᶠ_of_≈, ≈_sym, ≈_refl, ≈_from_≤ᶠ, ≤ᶠ_of_<ᶠ, moment_le, <ᶠ_of_≤ᶠ_not}
use Rattle.tpoint.proofs.SubLegs.{leg_reaches}
use Rattle.tpoint.proofs.PieceLemmas.{unmap, mapped, leg_to, single_to, rises_le}
use Rattle.tpoint.specs.Fraction.{Fraction, ◌≤ᶠ◌, ◌<ᶠ◌}
use Rattle.tpoint.specs.Moving.{Position, Vertex, IsPositionOf, AtPlace, HasValue, Rises, moment, vertex}
use Rattle.tpoint.specs.declared.point.Point.{Point}
use Rattle.tpoint.specs.declared.interp.Interp.{Interp}
use Rattle.tpoint.specs.declared.interp.Interp.TheVariants.{Discrete, Step, Linear}
use Rattle.restrict.proofs.Latest.{Latest, latest}

-- an instant that is not before t
pub record NotBefore (list : List Vertex) (t : Fraction) : Type 0 where
  pub i : ℕ
  pub w : Vertex
  pub listed : slice_get list i ≡ Some w
  pub reaches : t ≤ᶠ moment w.time

-- and one that is not after it
pub record NotAfter (list : List Vertex) (t : Fraction) : Type 0 where
  pub i : ℕ
  pub w : Vertex
  pub listed : slice_get list i ≡ Some w
  pub reached : moment w.time ≤ᶠ t

pub begun_before : (interp : Interp) (list : List Vertex) (i : ℕ) (t : Fraction) (v : Position) → AtPlace interp list i t v
    → NotAfter list t
begun_before Discrete list i t v h = record { i = i; w = h.point; listed = h.listed; reached = ≤ᶠ_of_≈ (≈_sym h.then) }
begun_before Step list i t v h = record { i = i; w = h.point; listed = h.listed; reached = h.reached }
begun_before Linear list i t v (inl h) = record { i = i; w = h.point; listed = h.listed; reached = h.between.begun }
begun_before Linear list i t v (inr h) = record { i = i; w = h.1.point; listed = h.1.listed; reached = ≤ᶠ_of_≈ (≈_sym h.1.then) }

pub ended_after : (interp : Interp) (list : List Vertex) (i : ℕ) (t : Fraction) (v : Position) → AtPlace interp list i t v
    → NotBefore list t
ended_after Discrete list i t v h = record { i = i; w = h.point; listed = h.listed; reaches = ≤ᶠ_of_≈ h.then }
ended_after Step list i t v h = record { i = h.not_over.0; w = h.not_over.1; listed = h.not_over.2; reaches = h.not_over.3 }
ended_after Linear list i t v (inl h) = record { i = i + 1; w = h.next; listed = h.next_listed; reaches = h.between.not_over }
ended_after Linear list i t v (inr h) = record { i = i; w = h.1.point; listed = h.1.listed; reaches = ≤ᶠ_of_≈ h.1.then }

-- the last vertex that is not after t, where there is one that is not
pub latest_of : (list : List Vertex) (t : Fraction) → NotAfter list t → Latest list t
latest_of list t h =
    elim (latest list t) [
      | inl l ↦ l
      | inr all ↦ absurd (<ᶠ_of_≤ᶠ_not t (moment h.w.time) (all h.i h.w h.listed) h.reached)
    ]

-- ---- the last point that is not after t
pub record LatestPoint (ps : List Point) (t : Fraction) : Type 0 where
  pub i : ℕ
  pub p : Point
  pub listed : slice_get ps i ≡ Some p
  pub reached : moment p.t ≤ᶠ t
  pub later : (j : ℕ) (q : Point) → i < j → slice_get ps j ≡ Some q → t <ᶠ moment q.t

pub latest_point : (ps : List Point) (t : Fraction) → NotAfter (map vertex ps) t → LatestPoint ps t
latest_point ps t h =
    let l = latest_of (map vertex ps) t h in
    let f = unmap ps l.i l.w l.is.listed in
    let P : Vertex → Type 0 = λ w. moment w.time ≤ᶠ t in
    record {
      i = l.i;
      p = f.0;
      listed = f.1;
      reached = subst P (sym f.2) l.is.reached;
      later = λ j q before e. l.is.later j (vertex q) before (mapped ps j q e);
    }

-- ---- a value from the first instant to the last
-- what is listed last stays, up to what is listed and not before t
pub held_value : (list : List Vertex) (t : Fraction) (v : Position) → (l : Latest list t) → NotBefore list t → IsPositionOf v l.w.place
    → HasValue Step list t v
held_value list t v l k there =
    record {
      i = l.i;
      at_i = record {
        point = l.w;
        listed = l.is.listed;
        reached = l.is.reached;
        not_left = l.is.later;
        not_over = (k.i, k.w, k.listed, k.reaches);
        there = there;
      };
    }

fills_step : (ps : List Point) (t : Fraction) → NotAfter (map vertex ps) t → NotBefore (map vertex ps) t
    → (v : Position) × HasValue Step (map vertex ps) t v
fills_step ps t h k =
    let l = latest_of (map vertex ps) t h in
    let here = l.w.place in
    (here, held_value (map vertex ps) t here l k (record { same_x = ≈_refl here.x; same_y = ≈_refl here.y }))

on_leg_of : (ps : List Point) → ((k : ℕ) → Rises ps k) → (i : ℕ) (a b : Point) (t : Fraction) → slice_get ps i ≡ Some a
    → slice_get ps (i + 1) ≡ Some b → moment a.t ≤ᶠ t → t ≤ᶠ moment b.t → (v : Position) × HasValue Linear (map vertex ps) t v
on_leg_of ps rise i a b t ea eb from to =
    let w = leg_reaches a b t (rise i a b ea eb) from to in
    (w.0, record { i = i; at_i = leg_to ps i a b ea eb t w.0 w.1 })

-- at the last point
at_last : (ps : List Point) → ((k : ℕ) → Rises ps k) → (i : ℕ) (p : Point) (t : Fraction) → length ps ≡ i + 1 → slice_get ps i ≡ Some p
    → moment p.t ≤ᶠ t → t ≤ᶠ moment p.t → (v : Position) × HasValue Linear (map vertex ps) t v
at_last ps rise zero p t len e from to = (
  (vertex p).place,
  record {
    i = zero;
    at_i = single_to ps zero p len e t (vertex p).place (record {
      then = ≈_from_≤ᶠ to from;
      there = record { same_x = ≈_refl (vertex p).place.x; same_y = ≈_refl (vertex p).place.y };
    });
  },
)
at_last ps rise (suc i) p t len e from to =
    let a = get_or ps i p in
    let ea : slice_get ps i ≡ Some a = slice_get-get_or ps i p (omega arith) in
    let eb : slice_get ps (i + 1) ≡ Some p = subst (λ (k : ℕ). slice_get ps k ≡ Some p) (omega arith) e in
    let order = rise i a p ea eb in
    on_leg_of ps rise i a p t ea eb (≤ᶠ_trans ((moment_le a.t p.t).0 (omega arith)) from) to

fills_linear : (ps : List Point) → ((k : ℕ) → Rises ps k) → (t : Fraction) → NotAfter (map vertex ps) t → NotBefore (map vertex ps) t
    → (v : Position) × HasValue Linear (map vertex ps) t v
fills_linear ps rise t h k =
    let l = latest_point ps t h in
    elim (cases_lt (l.i + 1) (length ps)) [
      | inl within ↦
          let b = get_or ps (l.i + 1) l.p in
          let eb : slice_get ps (l.i + 1) ≡ Some b = slice_get-get_or ps (l.i + 1) l.p within in
          on_leg_of ps rise l.i l.p b t l.listed eb l.reached (≤ᶠ_of_<ᶠ (l.later (l.i + 1) b (omega arith) eb))
      | inr over ↦
          let f = unmap ps k.i k.w k.listed in
          let P : Vertex → Type 0 = λ w. t ≤ᶠ moment w.time in
          let order = rises_le ps rise k.i l.i f.0 l.p (omega (arith, slice_get_within ps k.i f.0 f.1)) f.1 l.listed in
          let to = ≤ᶠ_trans (subst P (sym f.2) k.reaches) ((moment_le f.0.t l.p.t).0 order) in
          at_last ps rise l.i l.p t (omega (arith, slice_get_within ps l.i l.p l.listed)) l.listed l.reached to
    ]

-- a sequence that fills the time between its instants
abbrev pub Fills : Interp → Type 0
Fills Discrete = ⊥
Fills Step = Unit {0}
Fills Linear = Unit {0}

pub fills : (interp : Interp) → Fills interp → (ps : List Point) → ((k : ℕ) → Rises ps k) → (t : Fraction) → NotAfter (map vertex ps) t
    → NotBefore (map vertex ps) t → (v : Position) × HasValue interp (map vertex ps) t v
fills Discrete f ps rise t h k = absurd f
fills Step f ps rise t h k = fills_step ps t h k
fills Linear f ps rise t h k = fills_linear ps rise t h k

pub fills_of : (interp : Interp) → interp ≢ Discrete → Fills interp
fills_of Discrete goes_on = absurd (goes_on refl)
fills_of Step goes_on = tt
fills_of Linear goes_on = tt
