-- From what was read of a value to the feature that it stands for, or to the first fault.
use Rattle.std.proofs.Common.{◌≡◌, ◌≢◌, ℕ, zero, suc, ℤ, [], ◌∷◌, ◌+◌, ◌<◌, List, map, length, codes, Some, refl, arith, ap, sym, subst}
use Rattle.std.proofs.Common.{◌∙◌, inl, inr}
use Rattle.std.specs.Prelude.{slice_get}
use Rattle.std.proofs.lemmas.Bool.{cases_lt}
use Rattle.std.proofs.lemmas.List.{length-map}
use Rattle.std.proofs.lemmas.Option.{same_Some}
use Rattle.serde_json.specs.Data.{Data}
use Rattle.tpoint.specs.declared.interp.Interp.{Interp}
use Rattle.tpoint.specs.declared.point.Point.{Point}
use Rattle.tpoint.specs.declared.faults.SeqFault.{SeqFault}
use Rattle.tpoint.specs.declared.faults.SeqFault.TheVariants as seq_fault
use Rattle.tpoint.specs.Faults.{IsFault, FirstFall}
use Rattle.tpoint.specs.Moving.{IsValid, InBounds, Rises}
use Rattle.tpoint.specs.Places.{EachAt}
use Rattle.mfjson.specs.declared.fault.MfFault.TheVariants.{Datetime, Coordinates, Lengths, Empty, TooMany, Order}
use Rattle.mfjson.specs.Pairs.{Pairwise}
use Rattle.mfjson.specs.Document.{SaysInstant, SaysWhen, SaysWhere, IsFeatureValue}
use Rattle.mfjson.specs.Faults.{IsFirstBroken, IsInstantText, IsPlaceValue, SaysCoordinates, FallsAt, geometry, datetimes, coordinates}
use Rattle.mfjson.specs.Outline.{IsOutline, FailsFirst, AreTogether, list_fault}
use Rattle.mfjson.proofs.FirstFaults.{IsClear, clear_4, clear_5, clear_6, clear_7, clear_8, clear_9, clear_10, clear_11, clear_12, first_of}
use Rattle.mfjson.proofs.FirstFaults.{first_alone}
use Rattle.mfjson.proofs.Lists.{pairwise_length, pairwise_get, pairwise_back, pairwise_under, pairwise_weaker, none_fails}
use Rattle.mfjson.proofs.OneFeature.{one_instant}
use Rattle.mfjson.proofs.PartLemmas.{found, text_found, array_found}

-- ---- the rules that are kept
pub clear_outline : (d : Data) (id : List ℕ) (interp : Interp) (times places : List Data) → IsOutline d id interp times places → IsClear d 7
clear_outline d id interp times places o =
    let named = clear_5 d (clear_4 d o.members o.kind) (record { text = id; is_text = o.id_is.is_text; is_id = o.id_is.is_id }) in
    clear_7 d (clear_6 d named o.lists.is_moving_point) (record { interp = interp; is_name = o.interp_is })

-- the lists of a value were read
pub record HasRead (d : Data) (ts : List ℕ) (cs : List (ℤ × ℤ)) : Type 0 where
  pub clear : IsClear d 7
  pub when : Pairwise SaysInstant (datetimes d) ts
  pub where_to : Pairwise SaysCoordinates (coordinates d) cs

pub has_read : (d : Data) (id : List ℕ) (interp : Interp) (times places : List Data) (ts : List ℕ) (cs : List (ℤ × ℤ)) →
    IsOutline d id interp times places → Pairwise SaysInstant times ts → Pairwise SaysCoordinates places cs → HasRead d ts cs
has_read d id interp times places ts cs o when where_to =
    record {
      clear = clear_outline d id interp times places o;
      when = subst (λ ds. Pairwise SaysInstant ds ts) o.lists.times_are when;
      where_to = subst (λ ds. Pairwise SaysCoordinates ds cs) o.lists.places_are where_to;
    }

clear_times : (d : Data) (ts : List ℕ) → IsClear d 7 → Pairwise SaysInstant (datetimes d) ts → IsClear d 8
clear_times d ts c when =
    clear_8 d c (none_fails SaysInstant IsInstantText (datetimes d) ts (λ e t says. record { t = t; says = says }) when)

clear_places : (d : Data) (ts : List ℕ) (cs : List (ℤ × ℤ)) → HasRead d ts cs → IsClear d 9
clear_places d ts cs r =
    clear_9 d (clear_times d ts r.clear r.when) (none_fails SaysCoordinates IsPlaceValue (coordinates d) cs
    (λ e p says. record { p = p; says = says }) r.where_to)

-- ---- the first fault
pub datetime_first : (d : Data) (id : List ℕ) (interp : Interp) (times places : List Data) (i : ℕ) → IsOutline d id interp times places →
    FailsFirst IsInstantText times i → IsFirstBroken d (Datetime i)
datetime_first d id interp times places i o f =
    let here = subst (λ ds. FailsFirst IsInstantText ds i) o.lists.times_are f in
    first_of d (Datetime i) (clear_outline d id interp times places o) here.fails
    (λ j h g. let least = here.before j g in absurd (omega (arith, h, least)))

pub coordinates_first : (d : Data) (id : List ℕ) (interp : Interp) (times places : List Data) (ts : List ℕ) (i : ℕ) →
    IsOutline d id interp times places → Pairwise SaysInstant times ts → FailsFirst IsPlaceValue places i → IsFirstBroken d (Coordinates i)
coordinates_first d id interp times places ts i o when f =
    let here = subst (λ ds. FailsFirst IsPlaceValue ds i) o.lists.places_are f in
    let read = subst (λ ds. Pairwise SaysInstant ds ts) o.lists.times_are when in
    first_of d (Coordinates i) (clear_times d ts (clear_outline d id interp times places o) read) here.fails
    (λ j h g. let least = here.before j g in absurd (omega (arith, h, least)))

pub lengths_first : (d : Data) (ts : List ℕ) (cs : List (ℤ × ℤ)) → HasRead d ts cs → length ts ≢ length cs → IsFirstBroken d Lengths
lengths_first d ts cs r differ =
    first_alone d Lengths (clear_places d ts cs r) (λ same. differ (sym (pairwise_length SaysInstant (datetimes d) ts r.when) ∙ same
    ∙ pairwise_length SaysCoordinates (coordinates d) cs r.where_to)) refl

-- ---- the points
abbrev PlaceOf : Point → ℤ × ℤ
PlaceOf p = (p.x, p.y)

abbrev SaysPlaceOf : Data → Point → Type 0
SaysPlaceOf d p = SaysCoordinates d (p.x, p.y)

when_points : (ds : List Data) (ps : List Point) (ts : List ℕ) → map (λ (p : Point). p.t) ps ≡ ts → Pairwise SaysInstant ds ts
    → Pairwise SaysWhen ds ps
when_points ds ps ts e w = pairwise_under SaysInstant (λ (p : Point). p.t) ds ps (subst (λ us. Pairwise SaysInstant ds us) (sym e) w)

where_points : (ds : List Data) (ps : List Point) (cs : List (ℤ × ℤ)) → map (λ (p : Point). (p.x, p.y)) ps ≡ cs
    → Pairwise SaysCoordinates ds cs → Pairwise SaysPlaceOf ds ps
where_points ds ps cs e w = pairwise_under SaysCoordinates PlaceOf ds ps (subst (λ us. Pairwise SaysCoordinates ds us) (sym e) w)

in_bounds : (ds : List Data) (ps : List Point) → Pairwise SaysPlaceOf ds ps → (k : ℕ) → EachAt ps InBounds k
in_bounds ds ps w k p e =
    let says = pairwise_back SaysPlaceOf ds ps k p w e in record { x_fits = says.2.says_x.fits; y_fits = says.2.says_y.fits }

-- ---- the order of the datetimes
get_here : (ps : List Point) (k : ℕ) → k < length ps → (p : Point) × (slice_get ps k ≡ Some p)
get_here [] k h = absurd (omega (arith, h))
get_here (p ∷ ps) zero h = (p, refl)
get_here (p ∷ ps) (suc k) h = get_here ps k (omega (arith, h))

falls : (ds : List Data) (ps : List Point) (i : ℕ) → Pairwise SaysWhen ds ps → FirstFall ps i → FallsAt ds i
falls ds ps i w f =
    let p = get_here ps f.before (let e = f.next in let h = f.within in omega (arith, e, h)) in
    let q = get_here ps (f.before + 1) (let e = f.next in let h = f.within in omega (arith, e, h)) in
    let d = pairwise_back SaysWhen ds ps f.before p.0 w p.1 in
    let e = pairwise_back SaysWhen ds ps (f.before + 1) q.0 w q.1 in
    record {
      before = f.before;
      next = f.next;
      t = p.0.t;
      u = q.0.t;
      earlier = record { element = d.0; here = d.1; says = d.2 };
      later = record { element = e.0; here = ap (slice_get ds) f.next ∙ e.1; says = e.2 };
      not_later = elim (cases_lt p.0.t q.0.t) [
        | inl rises ↦ absurd (f.first.fails (λ x y at_x at_y.
            let first = same_Some p.0 x (sym p.1 ∙ at_x) in
            let second = same_Some q.0 y (sym q.1 ∙ at_y) in
            subst (λ z. x.t < z.t) second (subst (λ z. z.t < q.0.t) first rises)))
        | inr down ↦ down
      ];
    }

-- it doesn't fall where the points rise
pub no_fall : (ds : List Data) (ps : List Point) → Pairwise SaysWhen ds ps → (j : ℕ) (f : FallsAt ds j) → ¬ Rises ps f.before
no_fall ds ps w j f rises =
    let p = pairwise_get SaysWhen ds ps f.before f.earlier.element w f.earlier.here in
    let q = pairwise_get SaysWhen ds ps (f.before + 1) f.later.element w (ap (slice_get ds) (sym f.next) ∙ f.later.here) in
    let t = one_instant f.earlier.element f.t p.0.t f.earlier.says p.2 in
    let u = one_instant f.later.element f.u q.0.t f.later.says q.2 in
    let up = rises p.0 q.0 p.1 q.1 in
    let down = f.not_later in
    absurd (omega (arith, t, u, up, down))

-- ---- what a list of points that is no sequence says of the document
told_first : (d : Data) (ps : List Point) (fault : SeqFault) → IsClear d 10 → length (datetimes d) ≡ length ps →
    Pairwise SaysWhen (datetimes d) ps → ((k : ℕ) → EachAt ps InBounds k) → IsFault ps fault → IsFirstBroken d (list_fault fault)
told_first d ps seq_fault.Empty c long when bounds is = first_alone d Empty c (long ∙ is) refl
told_first d ps seq_fault.TooMany c long when bounds is =
    first_alone d TooMany (clear_11 d c (omega (arith, long, is))) (omega (arith, long, is)) refl
told_first d ps (seq_fault.NotIncreasing i) c long when bounds is =
    let least = is.0.0 in
    let most = is.0.1 in
    let here = falls (datetimes d) ps i when is.1 in
    first_of d (Order i) (clear_12 d (clear_11 d c (omega (arith, long, least))) (omega (arith, long, most))) here (λ j h f.
    let next = f.next in
    let at = is.1.next in
    absurd (no_fall (datetimes d) ps when j f (is.1.first.before f.before (omega (arith, h, next, at)))))
told_first d ps (seq_fault.Range i) c long when bounds is = absurd (is.2.fails (bounds i))

pub list_fault_first : (d : Data) (ts : List ℕ) (cs : List (ℤ × ℤ)) (ps : List Point) (fault : SeqFault) →
    HasRead d ts cs → length ts ≡ length cs → AreTogether ps ts cs → IsFault ps fault → IsFirstBroken d (list_fault fault)
list_fault_first d ts cs ps fault r same all is =
    let long : length (datetimes d) ≡ length ps =
    pairwise_length SaysInstant (datetimes d) ts r.when ∙ sym (ap length all.when) ∙ length-map ps _ in
    let as_long : length (datetimes d) ≡ length (coordinates d) =
    pairwise_length SaysInstant (datetimes d) ts r.when ∙ same ∙ sym (pairwise_length SaysCoordinates (coordinates d) cs r.where_to) in
    let when = when_points (datetimes d) ps ts all.when r.when in
    let bounds = in_bounds (coordinates d) ps (where_points (coordinates d) ps cs all.where_to r.where_to) in
    told_first d ps fault (clear_10 d (clear_places d ts cs r) as_long) long when bounds is

-- ---- the feature
place_says : (e : Data) (p : Point) → SaysPlaceOf e p → SaysWhere e p
place_says e p s =
    record {
      x = s.says_x.n;
      y = s.says_y.n;
      pair = s.pair ∙ rw (s.says_x.is_number, s.says_y.is_number) refl;
      x_is = s.says_x.whole;
      y_is = s.says_y.whole;
    }

pub feature_stands : (d : Data) (id : List ℕ) (interp : Interp) (times places : List Data) (ts : List ℕ) (cs : List (ℤ × ℤ))
    (ps : List Point) →
    IsOutline d id interp times places → HasRead d ts cs → AreTogether ps ts cs → IsValid (record { interp = interp; points = ps }) →
    IsFeatureValue d (record { id = id; seq = record { interp = interp; points = ps } })
feature_stands d id interp times places ts cs ps o r all valid =
    let moving = o.lists.is_moving_point in
    record {
      geometry = geometry d;
      three_members = o.members.three;
      kind = text_found (codes "type") d _ o.kind;
      id = text_found (codes "id") d _ o.id_is.is_text;
      temporal_geometry = found (codes "temporalGeometry") d o.members.geometry;
      is_geometry = record {
        times = datetimes d;
        places = coordinates d;
        four_members = moving.four;
        kind = moving.kind;
        datetimes = array_found (codes "datetimes") (geometry d) moving.datetimes;
        coordinates = array_found (codes "coordinates") (geometry d) moving.coordinates;
        interpolation = text_found (codes "interpolation") (geometry d) _ o.interp_is;
        when = when_points (datetimes d) ps ts all.when r.when;
        where_to = pairwise_weaker SaysPlaceOf SaysWhere (coordinates d) ps place_says
            (where_points (coordinates d) ps cs all.where_to r.where_to);
      };
      id_is = o.id_is.is_id;
      seq_is = valid;
    }
