-- Bounds of blocks: how they are kept, and what they tell of a block's legs.
use Rattle.std.proofs.Common.{◌≡◌, ℕ, ◌∙◌, ◌+◌, ◌-◌, ◌*◌, ◌/◌, ◌<◌, ◌≤◌, inl, inr, List, [], ◌∷◌, ◌++◌, length, get_or, slice_get, Some, set}
use Rattle.std.proofs.Common.{sym, subst, refl, arith, length-append}
use Rattle.std.proofs.lemmas.Bool.{cases_lt, cases_eq}
use Rattle.std.proofs.lemmas.List.{length-set, get_or-set_same, get_or-set_other}
use Rattle.std.proofs.lemmas.List.Edits.{length-between, get_or-between}
use Rattle.std.proofs.lemmas.Option.{slice_get-get_or, slice_get_read, slice_get_within, get_or_from_slice_get}
use Rattle.std.specs.List.{between}
use Rattle.tpoint.specs.Fraction.{Fraction, ◌≤ᶠ◌}
use Rattle.tpoint.specs.Moving.{Position, Sequence, At, Rises, moment}
use Rattle.tpoint.specs.Places.{EachAt}
use Rattle.tpoint.specs.Pieces.{OnPiece}
use Rattle.tpoint.specs.Extents.{Span, Area, LiesIn}
use Rattle.tpoint.specs.declared.point.Point.{Point}
use Rattle.tpoint.specs.declared.interp.Interp.{Interp}
use Rattle.tpoint.specs.declared.interp.Interp.TheVariants.{Linear}
use Rattle.tpoint.proofs.Appending.{kept_at, added_at}
use Rattle.tpoint.proofs.Fractions.{≤ᶠ_trans, moment_le}
use Rattle.tpoint.proofs.PieceLemmas.{piece_from, piece_until, leg_from, no_leg, rises_le}
use Rattle.mfjson.specs.declared.feature.Feature.{Feature}
use Rattle.predicates.specs.Predicates.{SomeInside}
use Rattle.store.specs.Blocks.{BlocksHold, Cover, IsIn}
use Rattle.store.specs.Bounds.{Holds, HoldsAll, IsWithin, IsApart}
use Rattle.store.specs.declared.bounds.Bounds.{Bounds}
use Rattle.store.proofs.BoundsLemmas.{area_of, leg_inside, apart_inside, held_inside, wider}
use Rattle.store.proofs.GaplessLemmas.{listed}

-- ---- a block more
-- what stands in a part of a list
in_part : {A : Type 0} → (xs : List A) (i j k : ℕ) (x : A) → j ≤ length xs → i + k < j → slice_get xs (i + k) ≡ Some x →
    slice_get (between i j xs) k ≡ Some x
in_part {A} xs i j k x h within e =
    let part = between i j xs in
    let there = slice_get-get_or part k x (omega (arith, length-between xs i j h, within)) in
    let same = get_or-between xs i j k x within ∙ get_or_from_slice_get xs (i + k) x x e in
    subst (λ (y : A). slice_get part k ≡ Some y) same there

pub pushed_block : (bs : List Bounds) (ps : List Point) (b : Bounds) (n end : ℕ) → length bs ≡ n → 32 * n + 1 < length ps → end ≤ length ps →
    ((place : ℕ) → place < length ps → place ≤ 32 * n + 32 → place < end) → HoldsAll b (between (32 * n) end ps) →
    BlocksHold bs ps → BlocksHold (bs ++ b ∷ []) ps
pushed_block bs ps b n end size leg within reach all hold =
    record {
      all = λ k c e place i q f.
          elim (cases_lt k (length bs)) [
            | inl less ↦ hold.all k c (kept_at bs b c k less e) place i q f
            | inr up ↦
                let last : k ≡ n =
                omega (arith, up, size, slice_get_within (bs ++ b ∷ []) k c e, length-append bs (b ∷ [])) in
                let from = 32 * n in
                let at : slice_get ps (from + (place - from)) ≡ Some q =
                subst (λ (n : ℕ). slice_get ps n ≡ Some q) (omega (arith, i.from, last)) f in
                let before = reach place (slice_get_within ps place q f) (omega (arith, i.to, last)) in
                let there = in_part ps from end (place - from) q within (omega (arith, i.from, last, before)) at in
                subst (λ (d : Bounds). Holds d q) (added_at bs b c k up e) (all.each (place - from) q there)
          ];
      leg = λ k h.
          elim (cases_lt k (length bs)) [
            | inl less ↦ hold.leg k less
            | inr up ↦ omega (arith, leg, size, up, h, length-append bs (b ∷ []))
          ];
    }

-- ---- a leg more
more_legs : (ps : List Point) (p : Point) (n : ℕ) → n < length ps → n < length (ps ++ p ∷ [])
more_legs ps p n h = omega (arith, h, length-append ps (p ∷ []))

-- blocks that end before it
earlier_block : (bs : List Bounds) (ps : List Point) (p : Point) (k place : ℕ) (b : Bounds) → BlocksHold bs ps → slice_get bs k ≡ Some b →
    32 * k + 33 ≤ length ps → IsIn place k → EachAt (ps ++ p ∷ []) (Holds b) place
earlier_block bs ps p k place b hold e over i q f =
    hold.all k b e place i q (kept_at ps p q place (omega (arith, i.to, over)) f)

pub all_earlier : (bs : List Bounds) (ps : List Point) (p : Point) (leg : ℕ) → leg ≡ length ps - 1 → length bs ≤ leg / 32 →
    BlocksHold bs ps → BlocksHold bs (ps ++ p ∷ [])
all_earlier bs ps p leg n over hold =
    record {
      all = λ k b e place i.
          earlier_block bs ps p k place b hold e (omega (arith, over, n, slice_get_within bs k b e)) i;
      leg = λ k h. more_legs ps p (32 * k + 1) (hold.leg k h);
    }

-- the block of the leg
pub widened : (bs : List Bounds) (ps : List Point) (p : Point) (leg at : ℕ) (b c : Bounds) → leg ≡ length ps - 1 → at ≡ leg / 32 →
    slice_get bs at ≡ Some b → IsWithin b c → Holds c p → BlocksHold bs ps → BlocksHold (set bs at c) (ps ++ p ∷ [])
widened bs ps p leg at b c n is e w has hold =
    record {
      all = λ k d f place i.
          let within = slice_get_within (set bs at c) k d f in
          let size = length-set bs at c in
          let read = get_or_from_slice_get (set bs at c) k d d f in
          elim (cases_eq k at) [
            | inl same ↦
                let own : c ≡ d = sym (get_or-set_same bs at c d (omega (arith, within, size, same)))
                ∙ subst (λ (j : ℕ). get_or (set bs at c) j d ≡ d) same read in
                let old : slice_get bs k ≡ Some b = subst (λ (j : ℕ). slice_get bs j ≡ Some b) (sym same) e in
                λ q g.
                subst (λ (h : Bounds). Holds h q) own
                (elim (cases_lt place (length ps)) [
                  | inl less ↦ wider b c q w (hold.all k b old place i q (kept_at ps p q place less g))
                  | inr last ↦ subst (Holds c) (added_at ps p q place last g) has
                ])
            | inr other ↦
                let old = slice_get_read bs (length bs) k d refl (omega (arith, within, size))
                (sym (sym (get_or-set_other bs at k c d other) ∙ read)) in
                let begun = hold.leg k (omega (arith, within, size)) in
                earlier_block bs ps p k place d hold old (omega (arith, begun, n, is, other)) i
          ];
      leg = λ k h. more_legs ps p (32 * k + 1) (hold.leg k (omega (arith, h, length-set bs at c)));
    }

-- ---- legs
leg_of : (ps : List Point) (leg : ℕ) (t : Fraction) (v : Position) → 1 < length ps → OnPiece Linear ps leg t v → leg + 1 < length ps
leg_of ps leg t v many on =
    elim (cases_lt (leg + 1) (length ps)) [
      | inl more ↦ more
      | inr over ↦ absurd (no_leg ps leg over (λ one. omega (arith, one, many)) t v on)
    ]

-- those of a block that is apart from the rectangle
pub apart_legs : (bs : List Bounds) (ps : List Point) (k : ℕ) (b : Bounds) (p : Span) (r : Area) → ((k : ℕ) → Rises ps k) → BlocksHold bs ps →
    slice_get bs k ≡ Some b → IsApart b r → (leg : ℕ) → 32 * k ≤ leg → leg < 32 * k + 32 → ¬ SomeInside (OnPiece Linear ps leg) p r
apart_legs bs ps k b p r rise hold e apart leg from to s =
    let begun = hold.leg k (slice_get_within bs k b e) in
    let more = leg_of ps leg s.t s.v (omega (arith, begun)) s.value in
    let own = listed ps leg (omega (arith, more)) in
    let next = listed ps (leg + 1) more in
    let x = held_inside b own.0 (hold.all k b e leg (record { from = from; to = omega (arith, to) }) own.0 own.1) in
    let y = held_inside b next.0
    (hold.all k b e (leg + 1) (record { from = omega (arith, from); to = omega (arith, to) }) next.0 next.1) in
    let on = leg_from ps leg own.0 next.0 more own.1 next.1 s.t s.v s.value in
    apart_inside s.v (area_of b) r (leg_inside own.0 next.0 (area_of b) (rise leg own.0 next.0 own.1 next.1) x y s.t s.v on) s.inside apart

-- those from one up to another, in time
pub legs_in_time : (ps : List Point) (from to last leg : ℕ) (a b : Point) → ((k : ℕ) → Rises ps k) → from + 1 < length ps →
    ((k : ℕ) → k ≤ to → k < length ps → k ≤ last) → slice_get ps from ≡ Some a → slice_get ps last ≡ Some b → from ≤ leg → leg < to →
    (t : Fraction) (v : Position) → OnPiece Linear ps leg t v → (moment a.t ≤ᶠ t) × (t ≤ᶠ moment b.t)
legs_in_time ps from to last leg a b rise many order e f up below t v on =
    let more = leg_of ps leg t v (omega (arith, many)) on in
    let own = listed ps leg (omega (arith, more)) in
    let next = listed ps (leg + 1) more in
    let first = rises_le ps rise from leg a own.0 up e own.1 in
    let behind = rises_le ps rise (leg + 1) last next.0 b (order (leg + 1) (omega (arith, below)) more) next.1 f in (
      ≤ᶠ_trans ((moment_le a.t own.0.t).0 first) (piece_from Linear ps leg own.0 t v own.1 on),
      ≤ᶠ_trans (piece_until Linear ps leg next.0 t v rise next.1 on) ((moment_le next.0.t b.t).0 behind),
    )

-- no leg is left
pub no_leg_inside : (s : Sequence) (bs : List Bounds) (n : ℕ) (p : Span) (r : Area) → s.interp ≡ Linear → BlocksHold bs s.points →
    Cover bs s.points → length bs ≤ n → ((leg : ℕ) → leg < 32 * n → ¬ SomeInside (OnPiece Linear s.points leg) p r) →
    ¬ SomeInside (At s) p r
no_leg_inside s bs n p r linear hold cover over none h =
    let on : OnPiece Linear s.points h.value.i h.t h.v = subst (λ (k : Interp). OnPiece k s.points h.value.i h.t h.v) linear h.value.at_i in
    let many = hold.leg 0 (omega (arith, cover.some)) in
    let more = leg_of s.points h.value.i h.t h.v (omega (arith, many)) on in
    none h.value.i (omega (arith, more, over, cover.every))
    (record { t = h.t; v = h.v; in_period = h.in_period; value = on; inside = h.inside })

-- a leg's value is one of the whole
pub leg_inside_part : (s : Sequence) (leg : ℕ) (p q : Span) (r : Area) → s.interp ≡ Linear →
    (h : SomeInside (OnPiece Linear s.points leg) p r) → LiesIn h.t q → SomeInside (At s) q r
leg_inside_part s leg p q r linear h lies =
    record {
      t = h.t;
      v = h.v;
      in_period = lies;
      value = record { i = leg; at_i = subst (λ (k : Interp). OnPiece k s.points leg h.t h.v) (sym linear) h.value };
      inside = h.inside;
    }

-- ---- of a feature, as it is written in two ways
pub of_feature : {bs : List Bounds} (f g : Feature) → f ≡ g → BlocksHold bs f.seq.points → BlocksHold bs g.seq.points
of_feature {bs} f g same hold = subst (λ (h : Feature). BlocksHold bs h.seq.points) same hold
