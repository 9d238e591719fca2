-- What is told of a geometry and of a feature by their members.
use Rattle.std.proofs.Common.{◌≡◌, ℕ, ℤ, ◌≤◌, List, [], ◌∷◌, length, codes, Option, Some, None, refl, sym, ap, ◌∙◌, ◌++◌, append-nil, subst}
use Rattle.std.proofs.Common.{arith}
use Rattle.std.specs.Prelude.{IsSome, IsUtf8, IfSome}
use Rattle.json.specs.Token.{Token}
use Rattle.json.specs.Lex.{tokens}
use Rattle.json.specs.Json.{document}
use Rattle.json.specs.Find.{BeginsWith}
use Rattle.json.specs.Tree.{json_tokens}
use Rattle.json.proofs.Printed.Trees.{value-json_tokens}
use Rattle.json.proofs.Unique.Spelling.{tokens-document}
use Rattle.serde_json.specs.Read.{max_depth}
use Rattle.json.specs.Json as json
use Rattle.json.specs.Strict.{keys}
use Rattle.serde_json.specs.Data.{Data, array, object}
use Rattle.serde_json.specs.Find.{as_array}
use Rattle.serde_json.specs.View.{items_of}
use Rattle.tpoint.specs.declared.interp.Interp.{Interp}
use Rattle.tpoint.specs.Interps.{interp_name}
use Rattle.tpoint.specs.Moving.{Sequence, IsValid}
use Rattle.mfjson.specs.declared.feature.Feature.{Feature}
use Rattle.mfjson.specs.Document.{SaysInstant, IsFeatureValue, IsDocumentOf}
use Rattle.mfjson.specs.Faults.{SaysCoordinates, part}
use Rattle.mfjson.specs.Outline.{HasLists, IsOutline, SaysThisId, AreTogether}
use Rattle.mfjson.specs.Tokens.{Means, ValueIsTold, Member, TokensSay, IsText, SaysEach, HasCount, SaysCourse}
use Rattle.mfjson.proofs.FeatureLemmas.{has_read, feature_stands}
use Rattle.mfjson.proofs.Named.{Named, whole}
use Rattle.mfjson.proofs.PartLemmas.{part_found, elements_here}

named : {X : Type 0} (m n : ℕ) (R : Data → X → Type 0) (ms : json.Members) (name : List ℕ) (x : X) → m ≤ n →
    (t : Member m R (json.object ms) name x) → Named n ms name t.told.value
named {X} m n R ms name x less t =
    let deep = t.told.means.nests in
    record { value = t.value; here = t.here; means = record { read = t.told.means.read; nests = omega (arith, less, deep) } }

longer : (k l : List ℕ) → (length l ≡ length k → ⊥) → l ≡ k → ⊥
longer k l apart e = apart (ap length e)

-- ---- a geometry

course_members : (ms : json.Members) (interp : Interp) (ts : List ℕ) (cs : List (ℤ × ℤ)) → length (keys ms) ≡ 4 →
    Member 0 IsText (json.object ms) (codes "type") (codes "MovingPoint") →
    Member 0 IsText (json.object ms) (codes "interpolation") (interp_name interp) →
    Member 1 (SaysEach SaysInstant) (json.object ms) (codes "datetimes") ts →
    Member 2 (SaysEach SaysCoordinates) (json.object ms) (codes "coordinates") cs →
    (d : Data) × Means 3 (json.object ms) d × SaysCourse d interp ts cs
course_members ms interp ts cs count kind name times places =
    let n_kind = named 0 2 IsText ms (codes "type") _ (omega arith) kind in
    let n_name = named 0 2 IsText ms (codes "interpolation") _ (omega arith) name in
    let n_times = named 1 2 (SaysEach SaysInstant) ms (codes "datetimes") _ (omega arith) times in
    let n_places = named 2 2 (SaysEach SaysCoordinates) ms (codes "coordinates") _ (omega arith) places in
    let w = whole 2 ms (codes "type" ∷ codes "interpolation" ∷ codes "datetimes" ∷ codes "coordinates" ∷ []) (
      (longer _ _ (λ e. omega (arith, e)), (longer _ _ (λ e. omega (arith, e)), (longer _ _ (λ e. omega (arith, e)), tt))),
      (
        (longer _ _ (λ e. omega (arith, e)), (longer _ _ (λ e. omega (arith, e)), tt)),
        ((longer _ _ (λ e. omega (arith, e)), tt), (tt, tt)),
      ),
    )
    ((_, n_kind), ((_, n_name), ((_, n_times), ((_, n_places), tt)))) count in
    let d = object w.members in
    let at_times : part (codes "datetimes") d ≡ array (items_of times.told.says.elements) =
    part_found (codes "datetimes") d _ (w.there _ _ n_times) ∙ times.told.says.is_array in
    let at_places : part (codes "coordinates") d ≡ array (items_of places.told.says.elements) =
    part_found (codes "coordinates") d _ (w.there _ _ n_places) ∙ places.told.says.is_array in
    let in_times = ap as_array at_times in
    let in_places = ap as_array at_places in (
      d,
      w.means,
      record {
        times = times.told.says.elements;
        coordinates = places.told.says.elements;
        lists = record {
          is_moving_point = record {
            four = w.count_is;
            kind = w.there _ _ n_kind ∙ ap Some kind.told.says;
            interpolation = rw (w.there _ _ n_name) refl;
            datetimes = rw in_times refl;
            coordinates = rw in_places refl;
          };
          times_are = sym (elements_here (codes "datetimes") d times.told.says.elements in_times);
          places_are = sym (elements_here (codes "coordinates") d places.told.says.elements in_places);
        };
        named = part_found (codes "interpolation") d _ (w.there _ _ n_name) ∙ name.told.says;
        when = times.told.says.each;
        where_to = places.told.says.each;
      },
    )

pub course_told : {X : Type 0} (j : json.Json) (interp : Interp) (ts : List ℕ) (cs : List (ℤ × ℤ)) (course : X) → HasCount 4 j →
    Member 0 IsText j (codes "type") (codes "MovingPoint") → Member 0 IsText j (codes "interpolation") (interp_name interp) →
    Member 1 (SaysEach SaysInstant) j (codes "datetimes") ts → Member 2 (SaysEach SaysCoordinates) j (codes "coordinates") cs →
    ValueIsTold 3 (λ d (_ : X). SaysCourse d interp ts cs) j course
course_told {X} j interp ts cs course h kind name times places =
    let is = h.is_object in
    let told = course_members h.members interp ts cs h.count (subst (λ k. Member 0 IsText k (codes "type") (codes "MovingPoint")) is kind)
    (subst (λ k. Member 0 IsText k (codes "interpolation") (interp_name interp)) is name)
    (subst (λ k. Member 1 (SaysEach SaysInstant) k (codes "datetimes") ts) is times)
    (subst (λ k. Member 2 (SaysEach SaysCoordinates) k (codes "coordinates") cs) is places) in
    record { value = told.0; means = subst (λ k. Means 3 k told.0) (sym is) told.1; says = told.2 }

-- ---- a feature

feature_members : {X : Type 0} (ms : json.Members) (id : List ℕ) (seq : Sequence) (ts : List ℕ) (cs : List (ℤ × ℤ)) (course : X) →
    length (keys ms) ≡ 3 →
    Member 0 IsText (json.object ms) (codes "type") (codes "Feature") → Member 0 SaysThisId (json.object ms) (codes "id") id →
    Member 3 (λ d (_ : X). SaysCourse d seq.interp ts cs) (json.object ms) (codes "temporalGeometry") course →
    AreTogether seq.points ts cs → IsValid seq → ValueIsTold 4 IsFeatureValue (json.object ms) (record { id = id; seq = seq })
feature_members {X} ms id seq ts cs course count kind name place all valid =
    let R : Data → X → Type 0 = λ d (_ : X). SaysCourse d seq.interp ts cs in
    let n_kind = named 0 3 IsText ms (codes "type") _ (omega arith) kind in
    let n_name = named 0 3 SaysThisId ms (codes "id") _ (omega arith) name in
    let n_place = named 3 3 R ms (codes "temporalGeometry") _ (omega arith) place in
    let w = whole 3 ms (codes "type" ∷ codes "id" ∷ codes "temporalGeometry" ∷ []) (
      (longer _ _ (λ e. omega (arith, e)), (longer _ _ (λ e. omega (arith, e)), tt)),
      ((longer _ _ (λ e. omega (arith, e)), tt), (tt, tt)),
    )
    ((_, n_kind), ((_, n_name), ((_, n_place), tt))) count in
    let d = object w.members in
    let says = place.told.says in
    let at_place : part (codes "temporalGeometry") d ≡ place.told.value = part_found (codes "temporalGeometry") d _ (w.there _ _ n_place) in
    let outline : IsOutline d id seq.interp says.times says.coordinates =
    record {
      members = record {
        three = w.count_is;
        kind = rw (w.there _ _ n_kind) refl;
        id = rw (w.there _ _ n_name) refl;
        geometry = rw (w.there _ _ n_place) refl;
      };
      kind = part_found (codes "type") d _ (w.there _ _ n_kind) ∙ kind.told.says;
      id_is = subst (λ e. SaysThisId e id) (sym (part_found (codes "id") d _ (w.there _ _ n_name))) name.told.says;
      lists = subst (λ e. HasLists e says.times says.coordinates) (sym at_place) says.lists;
      interp_is = ap (part (codes "interpolation")) at_place ∙ says.named;
    } in
    let read = has_read d id seq.interp says.times says.coordinates ts cs outline says.when says.where_to in
    record {
      value = d;
      means = w.means;
      says = feature_stands d id seq.interp says.times says.coordinates ts cs seq.points outline read all valid;
    }

pub feature_told : {X : Type 0} (j : json.Json) (id : List ℕ) (interp : Interp) (seq : Sequence) (ts : List ℕ) (cs : List (ℤ × ℤ))
    (course : X) →
    HasCount 3 j → Member 0 IsText j (codes "type") (codes "Feature") → Member 0 SaysThisId j (codes "id") id →
    Member 3 (λ d (_ : X). SaysCourse d interp ts cs) j (codes "temporalGeometry") course → seq.interp ≡ interp →
    AreTogether seq.points ts cs → IsValid seq → ValueIsTold 4 IsFeatureValue j (record { id = id; seq = seq })
feature_told {X} j id interp seq ts cs course h kind name place same all valid =
    let is = h.is_object in
    let told = feature_members h.members id seq ts cs course h.count
    (subst (λ k. Member 0 IsText k (codes "type") (codes "Feature")) is kind)
    (subst (λ k. Member 0 SaysThisId k (codes "id") id) is name)
    (subst (λ k. Member 3 (λ d (_ : X). SaysCourse d seq.interp ts cs) k (codes "temporalGeometry") course) is
    (subst (λ i. Member 3 (λ d (_ : X). SaysCourse d i ts cs) j (codes "temporalGeometry") course) (sym same) place)) all valid in
    subst (λ k. ValueIsTold 4 IsFeatureValue k (record { id = id; seq = seq })) (sym is) told

-- ---- a whole text

there : (o : Option json.Json) → IsSome o → (j : json.Json) × (o ≡ Some j)
there None some = absurd (cc)
there (Some j) some = (j, refl)

pub document_told : (text : List ℕ) (ts : List Token) (f : Feature) → IsUtf8 text → IsSome (document text) →
    ((j : json.Json) → document text ≡ Some j → BeginsWith ts j) → TokensSay 4 IsFeatureValue ts f → IsDocumentOf text f
document_told text ts f utf8 some begins says =
    let whole = there (document text) some in
    let j = whole.0 in
    let told = says.told j (begins j whole.1) in
    let deep = told.means.nests in
    let spelled : tokens text ≡ json_tokens j ++ [] = tokens-document text j whole.1 ∙ sym (append-nil (json_tokens j)) in
    let read : json.value max_depth (tokens text) ≡ Some (j, []) =
    ap (json.value max_depth) spelled ∙ value-json_tokens j max_depth [] (omega (arith, deep)) in
    record {
      value = told.value;
      shown = record { utf8 = utf8; read = rw read told.means.read };
      stands = told.says;
    }

pub document_answer : (o : Option Feature) (bytes text : List ℕ) (tape root : List Token) → text ≡ bytes → IsUtf8 bytes →
    IsSome (document text) →
    ((j : json.Json) → document text ≡ Some j → BeginsWith tape j) → root ≡ tape → IfSome o (λ f. TokensSay 4 IsFeatureValue root f) →
    IfSome o (λ f. IsDocumentOf bytes f)
document_answer None bytes text tape root same utf8 some begins at says = tt
document_answer (Some f) bytes text tape root same utf8 some begins at says =
    subst (λ s. IsDocumentOf s f) same
    (document_told text tape f (subst IsUtf8 (sym same) utf8) some begins (subst (λ ts. TokensSay 4 IsFeatureValue ts f) at says))
