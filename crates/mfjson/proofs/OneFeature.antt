-- A value stands for one feature at most.
use Rattle.std.proofs.Common.{◌≡◌, ℕ, List, [], ◌∷◌, length, refl, arith, ap, subst, sym, ◌∙◌}
use Rattle.std.proofs.lemmas.Option.{same_Some}
use Rattle.serde_json.specs.Data.{Data, Num, number, string, array, item, no_items}
use Rattle.serde_json.specs.View.{items_of}
use Rattle.serde_json.specs.Find.{as_i64}
use Rattle.tpoint.specs.declared.interp.Interp.{Interp}
use Rattle.tpoint.specs.declared.interp.Interp.TheVariants.{Discrete, Step, Linear}
use Rattle.tpoint.specs.declared.point.Point.{Point}
use Rattle.mfjson.specs.declared.feature.Feature.{Feature}
use Rattle.mfjson.specs.Datetime.{ReadsAs}
use Rattle.mfjson.specs.Pairs.{Pairwise}
use Rattle.mfjson.specs.Document.{SaysInstant, SaysWhen, SaysWhere, IsGeometry, IsFeatureValue, IsDocumentOf}
use Rattle.tpoint.specs.Interps.{interp_name}
use Rattle.mfjson.proofs.OneText.{instant_of_one}

name_injective : (i j : Interp) → interp_name i ≡ interp_name j → i ≡ j
name_injective Discrete Discrete e = refl
name_injective Discrete Step e = let long : 8 ≡ 4 = ap length e in absurd (omega (arith, long))
name_injective Discrete Linear e = let long : 8 ≡ 6 = ap length e in absurd (omega (arith, long))
name_injective Step Discrete e = let long : 4 ≡ 8 = ap length e in absurd (omega (arith, long))
name_injective Step Step e = refl
name_injective Step Linear e = let long : 4 ≡ 6 = ap length e in absurd (omega (arith, long))
name_injective Linear Discrete e = let long : 6 ≡ 8 = ap length e in absurd (omega (arith, long))
name_injective Linear Step e = let long : 6 ≡ 4 = ap length e in absurd (omega (arith, long))
name_injective Linear Linear e = refl

items_injective : (xs ys : List Data) → items_of xs ≡ items_of ys → xs ≡ ys
items_injective [] [] e = refl
items_injective [] (y ∷ ys) e = absurd (cc)
items_injective (x ∷ xs) [] e = absurd (cc)
items_injective (x ∷ xs) (y ∷ ys) e =
    let rest : items_of xs ≡ items_of ys = cc in
    let first : x ≡ y = cc in
    let tails = items_injective xs ys rest in
    cc

same_text : (a b : List ℕ) → string a ≡ string b → a ≡ b
same_text a b e = cc

same_items : (a b : List Data) → array (items_of a) ≡ array (items_of b) → a ≡ b
same_items a b e = let inside : items_of a ≡ items_of b = cc in items_injective a b inside

pub one_instant : (d : Data) (t u : ℕ) → SaysInstant d t → SaysInstant d u → t ≡ u
one_instant d t u a b =
    let texts = same_text a.text b.text (sym a.is_text ∙ b.is_text) in
    instant_of_one b.text t u (subst (λ s. ReadsAs s t) texts a.read) b.read

pairs_injective : (x y u v : Num) →
    array (item (number x) (item (number y) no_items)) ≡ array (item (number u) (item (number v) no_items)) →
    (x ≡ u) × (y ≡ v)
pairs_injective x y u v e = let first : x ≡ u = cc in let second : y ≡ v = cc in (first, second)

same_where : (d : Data) (p q : Point) → SaysWhere d p → SaysWhere d q → (p.x ≡ q.x) × (p.y ≡ q.y)
same_where d p q a b =
    let same = pairs_injective a.x a.y b.x b.y (sym a.pair ∙ b.pair) in (
      same_Some p.x q.x (sym a.x_is ∙ ap as_i64 same.0 ∙ b.x_is),
      same_Some p.y q.y (sym a.y_is ∙ ap as_i64 same.1 ∙ b.y_is),
    )

same_point : (d e : Data) (p q : Point) → SaysWhen d p → SaysWhen d q → SaysWhere e p → SaysWhere e q → p ≡ q
same_point d e p q a b c f =
    let place = same_where e p q c f in
    let when = one_instant d p.t q.t a b in
    λ i. record { t = when i; x = place.0 i; y = place.1 i }

same_points : (ds es : List Data) (ps qs : List Point) → Pairwise SaysWhen ds ps → Pairwise SaysWhen ds qs →
    Pairwise SaysWhere es ps → Pairwise SaysWhere es qs → ps ≡ qs
same_points [] es [] [] a b c f = refl
same_points [] es [] (q ∷ qs) a b c f = absurd b
same_points [] es (p ∷ ps) qs a b c f = absurd a
same_points (d ∷ ds) es [] qs a b c f = absurd a
same_points (d ∷ ds) es (p ∷ ps) [] a b c f = absurd b
same_points (d ∷ ds) [] (p ∷ ps) (q ∷ qs) a b c f = absurd c
same_points (d ∷ ds) (e ∷ es) (p ∷ ps) (q ∷ qs) a b c f =
    let first = same_point d e p q a.0 b.0 c.0 f.0 in
    let rest = same_points ds es ps qs a.1 b.1 c.1 f.1 in
    ap (λ x. x ∷ ps) first ∙ ap (λ xs. q ∷ xs) rest

same_geometry : (d : Data) (f g : Feature) → IsGeometry d f → IsGeometry d g → f.seq ≡ g.seq
same_geometry d f g a b =
    let times = same_items a.times b.times (same_Some _ _ (sym a.datetimes ∙ b.datetimes)) in
    let places = same_items a.places b.places (same_Some _ _ (sym a.coordinates ∙ b.coordinates)) in
    let names = same_text _ _ (same_Some _ _ (sym a.interpolation ∙ b.interpolation)) in
    let when = subst (λ ds. Pairwise SaysWhen ds f.seq.points) times a.when in
    let where_to = subst (λ ds. Pairwise SaysWhere ds f.seq.points) places a.where_to in
    let interps = name_injective f.seq.interp g.seq.interp names in
    let points = same_points b.times b.places f.seq.points g.seq.points when b.when where_to b.where_to in
    λ i. record { interp = interps i; points = points i }

pub stands_for_one : (d : Data) (f g : Feature) → IsFeatureValue d f → IsFeatureValue d g → f ≡ g
stands_for_one d f g a b =
    let geometries = same_Some _ _ (sym a.temporal_geometry ∙ b.temporal_geometry) in
    let ids = same_text f.id g.id (same_Some _ _ (sym a.id ∙ b.id)) in
    let seqs = same_geometry b.geometry f g (subst (λ d. IsGeometry d f) geometries a.is_geometry) b.is_geometry in
    λ i. record { id = ids i; seq = seqs i }

pub document_of_one : (text : List ℕ) (f g : Feature) → IsDocumentOf text f → IsDocumentOf text g → f ≡ g
document_of_one text f g a b =
    let values = same_Some _ _ (sym a.shown.read ∙ b.shown.read) in
    stands_for_one b.value f g (subst (λ d. IsFeatureValue d f) values a.stands) b.stands
