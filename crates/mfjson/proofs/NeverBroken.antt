-- A value that stands for a feature breaks no rule.
use Rattle.std.proofs.Common.{◌≡◌, ◌≢◌, ◌⊎◌, ℕ, List, codes, Some, refl, arith, ap, sym, subst, ◌∙◌, inl, inr}
use Rattle.std.specs.Prelude.{Result, Ok, Err, IfOk, IfErr, IsSome}
use Rattle.std.proofs.lemmas.Option.{same_Some}
use Rattle.serde_json.specs.Data.{Data, array}
use Rattle.serde_json.specs.Find.{as_array, get}
use Rattle.serde_json.specs.View.{items_of}
use Rattle.tpoint.specs.declared.point.Point.{Point}
use Rattle.tpoint.specs.Moving.{InBounds}
use Rattle.tpoint.specs.Places.{EachAt}
use Rattle.mfjson.specs.declared.feature.Feature.{Feature}
use Rattle.mfjson.specs.declared.fault.MfFault.{MfFault}
use Rattle.mfjson.specs.declared.fault.MfFault.TheVariants.{NotJson, Members, NotFeature, Id, Geometry, Interpolation, Datetime}
use Rattle.mfjson.specs.declared.fault.MfFault.TheVariants.{Coordinates, Lengths, Empty, TooMany, Order, Memory}
use Rattle.mfjson.specs.Pairs.{Pairwise}
use Rattle.mfjson.specs.Document.{SaysWhen, SaysWhere, IsGeometry, IsFeatureValue, IsDocumentOf, TextShows}
use Rattle.mfjson.specs.Faults.{Breaks, IsFirstBroken, IsMovingPoint, IsInstantText, IsPlaceValue, FailsAt, part, elements, geometry, datetimes}
use Rattle.mfjson.specs.Faults.{coordinates}
use Rattle.mfjson.proofs.Lists.{pairwise_length, pairwise_get, none_fails}
use Rattle.mfjson.proofs.OneFeature.{stands_for_one}
use Rattle.mfjson.proofs.PartLemmas.{part_found, array_here, elements_here}
use Rattle.mfjson.proofs.FeatureLemmas.{no_fall}

there : (name : List ℕ) (d x : Data) → get name d ≡ Some x → IsSome (get name d)
there name d x e = rw e refl

an_array : (name : List ℕ) (d : Data) (ds : List Data) → get name d ≡ Some (array (items_of ds)) → IsSome (as_array (part name d))
an_array name d ds e = rw (array_here name d _ _ e refl) refl

moving_point : (g : Data) (f : Feature) → IsGeometry g f → IsMovingPoint g
moving_point g f is =
    record {
      four = is.four_members;
      kind = is.kind;
      interpolation = there (codes "interpolation") g _ is.interpolation;
      datetimes = an_array (codes "datetimes") g is.times is.datetimes;
      coordinates = an_array (codes "coordinates") g is.places is.coordinates;
    }

-- a place of a point in range
is_place : (ds : List Data) (ps : List Point) → Pairwise SaysWhere ds ps → ((k : ℕ) → EachAt ps InBounds k) → (i : ℕ)
    → ¬ FailsAt IsPlaceValue ds i
is_place ds ps w all i f =
    let p = pairwise_get SaysWhere ds ps i f.element w f.here in
    let in_bounds = all i p.0 p.1 in
    f.fails (record {
      p = (p.0.x, p.0.y);
      says = record {
        first = _;
        second = _;
        pair = p.2.pair;
        says_x = record { n = p.2.x; is_number = refl; whole = p.2.x_is; fits = in_bounds.x_fits };
        says_y = record { n = p.2.y; is_number = refl; whole = p.2.y_is; fits = in_bounds.y_fits };
      };
    })

-- the lists of the value
record HasPoints (d : Data) (f : Feature) : Type 0 where
  when : Pairwise SaysWhen (datetimes d) f.seq.points
  where_to : Pairwise SaysWhere (coordinates d) f.seq.points

has_points : (d : Data) (f : Feature) → IsFeatureValue d f → HasPoints d f
has_points d f s =
    let is = s.is_geometry in
    let g : geometry d ≡ s.geometry = part_found (codes "temporalGeometry") d s.geometry s.temporal_geometry in
    let times : datetimes d ≡ is.times =
    ap (λ x. elements (part (codes "datetimes") x)) g ∙ elements_here (codes "datetimes") s.geometry is.times
    (array_here (codes "datetimes") s.geometry _ _ is.datetimes refl) in
    let places : coordinates d ≡ is.places =
    ap (λ x. elements (part (codes "coordinates") x)) g ∙ elements_here (codes "coordinates") s.geometry is.places
    (array_here (codes "coordinates") s.geometry _ _ is.coordinates refl) in
    record {
      when = subst (λ ds. Pairwise SaysWhen ds f.seq.points) (sym times) is.when;
      where_to = subst (λ ds. Pairwise SaysWhere ds f.seq.points) (sym places) is.where_to;
    }

pub never_broken : (d : Data) (f : Feature) → IsFeatureValue d f → (fault : MfFault) → ¬ Breaks d fault
never_broken d f s NotJson b = b
never_broken d f s Members b =
    b (record {
      three = s.three_members;
      kind = there (codes "type") d _ s.kind;
      id = there (codes "id") d _ s.id;
      geometry = there (codes "temporalGeometry") d _ s.temporal_geometry;
    })
never_broken d f s NotFeature b = b (part_found (codes "type") d _ s.kind)
never_broken d f s Id b =
    b (record { text = f.id; is_text = part_found (codes "id") d _ s.id; is_id = s.id_is })
never_broken d f s Geometry b =
    let g = part_found (codes "temporalGeometry") d s.geometry s.temporal_geometry in
    b (subst IsMovingPoint (sym g) (moving_point s.geometry f s.is_geometry))
never_broken d f s Interpolation b =
    let g : geometry d ≡ s.geometry = part_found (codes "temporalGeometry") d s.geometry s.temporal_geometry in
    b (record {
      interp = f.seq.interp;
      is_name = ap (part (codes "interpolation")) g ∙ part_found (codes "interpolation") s.geometry _ s.is_geometry.interpolation;
    })
never_broken d f s (Datetime i) b =
    none_fails SaysWhen IsInstantText (datetimes d) f.seq.points (λ e p says. record { t = p.t; says = says }) (has_points d f s).when i b
never_broken d f s (Coordinates i) b = is_place (coordinates d) f.seq.points (has_points d f s).where_to s.seq_is.in_range i b
never_broken d f s Lengths b =
    let h = has_points d f s in
    b (pairwise_length SaysWhen (datetimes d) f.seq.points h.when ∙ sym (pairwise_length SaysWhere (coordinates d) f.seq.points h.where_to))
never_broken d f s Empty b =
    let long = pairwise_length SaysWhen (datetimes d) f.seq.points (has_points d f s).when in
    let least = s.seq_is.not_empty in
    absurd (omega (arith, b, long, least))
never_broken d f s TooMany b =
    let long = pairwise_length SaysWhen (datetimes d) f.seq.points (has_points d f s).when in
    let most = s.seq_is.not_too_many in
    absurd (omega (arith, b, long, most))
never_broken d f s (Order i) b = no_fall (datetimes d) f.seq.points (has_points d f s).when i b (s.seq_is.increasing b.before)
never_broken d f s Memory b = b

-- what is answered of a value that stands for a feature
abbrev IsAnswered : Feature → Result Feature MfFault → Type 0
IsAnswered f r = (r ≡ Ok f) ⊎ (r ≡ Err Memory)

abbrev IsTold : Data → MfFault → Type 0
IsTold d fault = fault ≢ Memory → IsFirstBroken d fault

told : (d : Data) (f : Feature) (fault : MfFault) → IsFeatureValue d f → IsTold d fault → IsAnswered f (Err fault)
told d f Memory s h = inr refl
told d f NotJson s h = absurd (never_broken d f s NotJson (h (λ e. cc)).broken)
told d f Members s h = absurd (never_broken d f s Members (h (λ e. cc)).broken)
told d f NotFeature s h = absurd (never_broken d f s NotFeature (h (λ e. cc)).broken)
told d f Id s h = absurd (never_broken d f s Id (h (λ e. cc)).broken)
told d f Geometry s h = absurd (never_broken d f s Geometry (h (λ e. cc)).broken)
told d f Interpolation s h = absurd (never_broken d f s Interpolation (h (λ e. cc)).broken)
told d f (Datetime i) s h = absurd (never_broken d f s (Datetime i) (h (λ e. cc)).broken)
told d f (Coordinates i) s h = absurd (never_broken d f s (Coordinates i) (h (λ e. cc)).broken)
told d f Lengths s h = absurd (never_broken d f s Lengths (h (λ e. cc)).broken)
told d f Empty s h = absurd (never_broken d f s Empty (h (λ e. cc)).broken)
told d f TooMany s h = absurd (never_broken d f s TooMany (h (λ e. cc)).broken)
told d f (Order i) s h = absurd (never_broken d f s (Order i) (h (λ e. cc)).broken)

answered : (d : Data) (f : Feature) (r : Result Feature MfFault) → IsFeatureValue d f → IfOk r (IsFeatureValue d) → IfErr r (IsTold d)
    → IsAnswered f r
answered d f (Ok g) s ok err = inl (ap (λ x. Ok x) (stands_for_one d g f ok s))
answered d f (Err fault) s ok err = told d f fault s err

pub document_answered : (text : List ℕ) (d : Data) (f : Feature) (r : Result Feature MfFault) → TextShows text d → IsDocumentOf text f →
    IfOk r (IsFeatureValue d) → IfErr r (IsTold d) → IsAnswered f r
document_answered text d f r shows is ok err =
    let same : is.value ≡ d = same_Some _ _ (sym is.shown.read ∙ shows.read) in
    answered d f r (subst (λ x. IsFeatureValue x f) same is.stands) ok err
