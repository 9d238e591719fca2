-- What a search among the instants of points tells of their pieces.
use Rattle.std.proofs.Common.{◌≡◌, ℕ, ◌+◌, ◌<◌, ◌≤◌, List, [], ◌∷◌, length, get_or, slice_get, Some, ap, ◌∙◌, arith}
use Rattle.std.specs.List.{AllWithin}
use Rattle.std.proofs.lemmas.List.{get_or-map, length-map}
use Rattle.std.proofs.lemmas.Option.{slice_get_within, slice_get-get_or, get_or_from_slice_get}
use Rattle.tpoint.proofs.Fractions.{moment_le}
use Rattle.tpoint.proofs.PieceLemmas.{rises_le, place_within, piece_from, piece_until}
use Rattle.tpoint.specs.Places.{EachAt}
use Rattle.tpoint.specs.Listing.{IsListed, instants_of}
use Rattle.tpoint.specs.Moving.{Position, Rises, moment}
use Rattle.tpoint.specs.Pieces.{OnPiece}
use Rattle.tpoint.specs.declared.point.Point.{Point}
use Rattle.tpoint.specs.declared.interp.Interp.{Interp}

-- ---- points and their instants
point_at : (ps : List Point) (i : ℕ) → i < length ps → (p : Point) × (slice_get ps i ≡ Some p)
point_at [] i within = absurd (omega arith)
point_at (x ∷ xs) i within = (get_or (x ∷ xs) i x, slice_get-get_or (x ∷ xs) i x within)

instant_at : (ps : List Point) (i d : ℕ) (p : Point) → slice_get ps i ≡ Some p → get_or (instants_of ps) i d ≡ p.t
instant_at ps i d p at =
    get_or-map (λ (q : Point). q.t) ps i p d (slice_get_within ps i p at)
    ∙ ap (λ (q : Point). q.t) (get_or_from_slice_get ps i p p at)

-- the instants of points that rise can be searched
pub instants_listed : (ps : List Point) → ((k : ℕ) → Rises ps k) → length ps ≤ 1024 → IsListed (instants_of ps)
instants_listed ps rise short =
    record {
      ascending = λ i j d less within. later i j d less (omega (arith, length-map ps (λ (q : Point). q.t)));
      not_too_many = omega (arith, length-map ps (λ (q : Point). q.t));
    }
  where
    later : (i j d : ℕ) → i < j → j < length ps → get_or (instants_of ps) i d < get_or (instants_of ps) j d
    later i j d less within =
        let p = point_at ps i (omega arith) in
        let m = point_at ps (i + 1) (omega arith) in
        let q = point_at ps j within in
        let first = instant_at ps i d p.0 p.1 in
        let second = instant_at ps j d q.0 q.1 in
        let step = rise i p.0 m.0 p.1 m.1 in
        let rest = rises_le ps rise (i + 1) j m.0 q.0 (omega arith) m.1 q.1 in
        omega arith

-- ---- what a search among the instants tells of the points
pub points_passed : (ps : List Point) (t n : ℕ) → AllWithin (λ s. s ≤ t) (instants_of ps) 0 n → (k : ℕ) → k < n →
    EachAt ps (λ p. p.t ≤ t) k
points_passed ps t n passed k below p at = omega (arith, instant_at ps k 0 p at, passed k 0 (omega arith) below)

pub points_to_come : (ps : List Point) (t n : ℕ) → AllWithin (λ s. t < s) (instants_of ps) n (length (instants_of ps)) →
    (k : ℕ) → n ≤ k → EachAt ps (λ p. t < p.t) k
points_to_come ps t n to_come k from p at =
    let within = slice_get_within ps k p at in
    omega (arith, instant_at ps k 0 p at, to_come k 0 from (omega (arith, length-map ps (λ (q : Point). q.t))))

-- ---- the pieces that have no value at t
-- all but the last two of those that have begun
pub none_passed : (interp : Interp) (ps : List Point) (t count : ℕ) → ((k : ℕ) → Rises ps k) → count ≤ length ps →
    ((k : ℕ) → k < count → EachAt ps (λ p. p.t ≤ t) k) → (j : ℕ) → j + 2 < count → (v : Position) → ¬ OnPiece interp ps j (moment t) v
none_passed interp [] t count rise within passed j less v h = absurd (omega arith)
none_passed interp (x ∷ xs) t count rise within passed j less v h =
    let ps = x ∷ xs in
    let next = get_or ps (j + 1) x in
    let later = get_or ps (j + 1 + 1) x in
    let there = slice_get-get_or ps (j + 1) x (omega arith) in
    let there_too = slice_get-get_or ps (j + 1 + 1) x (omega arith) in
    let order = rise (j + 1) next later there there_too in
    let come = passed (j + 1 + 1) (omega arith) later there_too in
    let until = (moment_le t next.t).1 (piece_until interp ps j next (moment t) v rise there h) in
    omega arith

-- those that are to come
pub none_to_come : (interp : Interp) (ps : List Point) (t count : ℕ) → ((k : ℕ) → count ≤ k → EachAt ps (λ p. t < p.t) k) → (j : ℕ) →
    count ≤ j → (v : Position) → ¬ OnPiece interp ps j (moment t) v
none_to_come interp [] t count to_come j over v h = absurd (omega (arith, place_within interp [] j (moment t) v h))
none_to_come interp (x ∷ xs) t count to_come j over v h =
    let ps = x ∷ xs in
    let own = get_or ps j x in
    let there = slice_get-get_or ps j x (place_within interp ps j (moment t) v h) in
    let after = to_come j over own there in
    let from = (moment_le own.t t).1 (piece_from interp ps j own (moment t) v there h) in
    omega arith
