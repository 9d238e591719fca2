-- What is told of a value by its tokens: texts, numbers, and the lists of a geometry.
use Rattle.std.proofs.Common.{◌≡◌, ℕ, suc, ℤ, ◌≤◌, List, [], ◌∷◌, ◌++◌, Option, Some, None, option_map, refl, sym, ap, ◌∙◌, subst, arith}
use Rattle.std.proofs.Common.{Bor}
use Rattle.std.specs.Prelude.{IfSome, IsSome, ◌↔◌}
use Rattle.std.proofs.lemmas.Option.{same_Some}
use Rattle.json.specs.Token.{Token}
use Rattle.json.specs.Json as json
use Rattle.json.specs.Tree as tree
use Rattle.json.specs.Find as find
use Rattle.json.specs.Find.{BeginsWith}
use Rattle.serde_json.specs.Data.{Data, string, number, array, item, no_items}
use Rattle.serde_json.specs.Read.{of_items, number_of}
use Rattle.serde_json.specs.View.{items_of}
use Rattle.tpoint.specs.Coordinates.{InRange}
use Rattle.tpoint.specs.Ids.{IsId}
use Rattle.tpoint.specs.declared.interp.Interp.{Interp}
use Rattle.tpoint.specs.Interps.{interp_name}
use Rattle.mfjson.specs.Datetime.{ReadsAs}
use Rattle.mfjson.specs.Document.{SaysInstant}
use Rattle.mfjson.specs.Outline.{SaysThisId}
use Rattle.mfjson.specs.Pairs.{Pairwise}
use Rattle.mfjson.specs.Faults.{SaysCoordinate, SaysCoordinates}
use Rattle.mfjson.specs.Tokens.{ValueIsTold, TokensSay, HasMember, SaysEach, IsText, IsWhole, ItemsAreRead, IsReadEach}

-- ---- one value

text_told : (j : json.Json) (text : List ℕ) → find.as_str j ≡ Some text → ValueIsTold 0 IsText j text
text_told json.null text e = absurd (cc)
text_told (json.boolean b) text e = absurd (cc)
text_told (json.number s) text e = absurd (cc)
text_told (json.string s) text e =
    record { value = string s; means = record { read = refl; nests = omega arith }; says = ap string (same_Some s text e) }
text_told (json.array js) text e = absurd (cc)
text_told (json.object ms) text e = absurd (cc)

pub text_answer : (o : Option (Bor (List ℕ))) (ts : List Token) →
    ((j : json.Json) → BeginsWith ts j → option_map (λ s. s.now) o ≡ find.as_str j)
    → IfSome o (λ text. TokensSay 0 IsText ts text.now)
text_answer None ts found = tt
text_answer (Some text) ts found = record { told = λ j begins. text_told j text.now (sym (found j begins)) }

coordinate_at : (j : json.Json) (s : List ℕ) (z : ℤ) → find.as_number j ≡ Some s → IsWhole (number_of s) z → InRange z →
    ValueIsTold 0 SaysCoordinate j z
coordinate_at json.null s z e whole fits = absurd (cc)
coordinate_at (json.boolean b) s z e whole fits = absurd (cc)
coordinate_at (json.number t) s z e whole fits =
    record {
      value = number whole.n;
      means = record { read = rw (same_Some t s e, whole.is_number) refl; nests = omega arith };
      says = record { n = whole.n; is_number = refl; whole = whole.whole; fits = fits };
    }
coordinate_at (json.string t) s z e whole fits = absurd (cc)
coordinate_at (json.array js) s z e whole fits = absurd (cc)
coordinate_at (json.object ms) s z e whole fits = absurd (cc)

pub coordinate_told : (o : Option (Bor (List ℕ))) (text : Bor (List ℕ)) (ts : List Token) (z : ℤ) →
    ((j : json.Json) → BeginsWith ts j → option_map (λ s. s.now) o ≡ find.as_number j) → o ≡ Some text → IsWhole (number_of text.now) z →
    InRange z →
    TokensSay 0 SaysCoordinate ts z
coordinate_told o text ts z found is whole fits =
    record { told = λ j begins. coordinate_at j text.now z (sym (found j begins) ∙ ap (option_map (λ s. s.now)) is) whole fits }

-- what one thing says, says another where it follows
pub says_so : {X Y : Type 0} (n : ℕ) (R : Data → X → Type 0) (S : Data → Y → Type 0) (ts : List Token) (x : X) (y : Y) →
    ((d : Data) → R d x → S d y) →
    TokensSay n R ts x → TokensSay n S ts y
says_so {X} {Y} n R S ts x y so says =
    record { told = λ j begins. let t = says.told j begins in record { value = t.value; means = t.means; says = so t.value t.says } }

-- the tokens of the member say it
has_member : {X : Type 0} (n : ℕ) (R : Data → X → Type 0) (name : List ℕ) (ts here : List Token) (x : X) →
    ((j : json.Json) → BeginsWith ts j → (k : json.Json) × (find.get name j ≡ Some k) × BeginsWith here k) → TokensSay n R here x →
    HasMember n R name ts x
has_member {X} n R name ts here x found says =
    record { told = λ j begins. let at = found j begins in record { value = at.0; here = at.1; told = says.told at.0 at.2 } }

pub member_answer : {X V : Type 0} (n : ℕ) (R : Data → X → Type 0) (name : List ℕ) (ts here : List Token) (o : Option V) (of : V → X) →
    ((j : json.Json) → BeginsWith ts j → (k : json.Json) × (find.get name j ≡ Some k) × BeginsWith here k) →
    IfSome o (λ v. TokensSay n R here (of v)) → IfSome o (λ v. HasMember n R name ts (of v))
member_answer {X} {V} n R name ts here None of found says = tt
member_answer {X} {V} n R name ts here (Some v) of found says = has_member n R name ts here (of v) found says

member_so : {X Y : Type 0} (n : ℕ) (R : Data → X → Type 0) (S : Data → Y → Type 0) (name : List ℕ) (ts : List Token) (x : X) (y : Y) →
    ((d : Data) → R d x → S d y) → HasMember n R name ts x → HasMember n S name ts y
member_so {X} {Y} n R S name ts x y so has =
    record {
      told = λ j begins.
          let m = has.told j begins in
          record {
            value = m.value;
            here = m.here;
            told =
                record { value = m.told.value; means = m.told.means; says = so m.told.value m.told.says };
          };
    }

pub id_answer : (o : Option (List ℕ)) (name bytes text : List ℕ) (ts : List Token) → bytes ≡ text → (IsSome o → IsId bytes) →
    IfSome o (λ id. id ≡ bytes) →
    HasMember 0 IsText name ts text → IfSome o (λ id. HasMember 0 SaysThisId name ts id)
id_answer None name bytes text ts same valid is has = tt
id_answer (Some id) name bytes text ts same valid is has =
    member_so 0 IsText SaysThisId name ts text id
    (λ d e. record { is_text = e ∙ ap string (sym (is ∙ same)); is_id = subst IsId (sym is) (valid refl) }) has

pub interp_answer : (o : Option Interp) (name text : List ℕ) (ts : List Token) → ((i : Interp) → (text ≡ interp_name i) ↔ (o ≡ Some i)) →
    HasMember 0 IsText name ts text → IfSome o (λ i. HasMember 0 IsText name ts (interp_name i))
interp_answer None name text ts reads has = tt
interp_answer (Some i) name text ts reads has = subst (HasMember 0 IsText name ts) ((reads i).1 refl) has

pub instant_answer : (o : Option ℕ) (bytes text : List ℕ) (ts : List Token) → bytes ≡ text → ((t : ℕ) → ReadsAs bytes t ↔ (o ≡ Some t)) →
    TokensSay 0 IsText ts text → IfSome o (λ t. TokensSay 0 SaysInstant ts t)
instant_answer None bytes text ts same reads says = tt
instant_answer (Some t) bytes text ts same reads says =
    says_so 0 IsText SaysInstant ts text t (λ d e. record
    { text = text; is_text = e; read = subst (λ s. ReadsAs s t) same ((reads t).1 refl) }) says

-- ---- an array

pub place_told : (j jx jy : json.Json) (js more last : json.Items) (x y : ℤ) → j ≡ json.array js → js ≡ json.item jx more →
    more ≡ json.item jy last →
    last ≡ json.no_items → ValueIsTold 0 SaysCoordinate jx x → ValueIsTold 0 SaysCoordinate jy y → ValueIsTold 1 SaysCoordinates j (x, y)
place_told j jx jy js more last x y is first second over tx ty =
    let whole : j ≡ json.array (json.item jx (json.item jy json.no_items)) =
    is ∙ ap json.array (first ∙ ap (json.item jx) (second ∙ ap (json.item jy) over)) in
    let deep_x = tx.means.nests in
    let deep_y = ty.means.nests in
    let told : ValueIsTold 1 SaysCoordinates (json.array (json.item jx (json.item jy json.no_items))) (x, y) =
    record {
      value = array (item tx.value (item ty.value no_items));
      means = record { read = rw (tx.means.read, ty.means.read) refl; nests = omega (arith, deep_x, deep_y) };
      says = record { first = tx.value; second = ty.value; pair = refl; says_x = tx.says; says_y = ty.says };
    } in
    subst (λ k. ValueIsTold 1 SaysCoordinates k (x, y)) (sym whole) told

-- one item more was read
pub one_more : {X : Type 0} (Reads : List Token → X → Type 0) (all : json.Items) (xs : List X) (j : json.Json) (rest : json.Items) (x : X)
    (ts : List Token) → ItemsAreRead Reads all xs (json.item j rest) → BeginsWith ts j → Reads ts x → ItemsAreRead Reads all (xs ++ x ∷ []) rest
one_more {X} Reads all [] j rest x ts on begins read = subst (λ js. ItemsAreRead Reads js (x ∷ []) rest) (sym on) ((ts, begins, read), refl)
one_more {X} Reads json.no_items (y ∷ xs) j rest x ts on begins read = absurd on
one_more {X} Reads (json.item i js) (y ∷ xs) j rest x ts on begins read = (on.0, one_more Reads js xs j rest x ts on.1 begins read)

pub record EachRead {X : Type 0} (n : ℕ) (R : Data → X → Type 0) (all : json.Items) (xs : List X) : Type 0 where
  pub elements : List Data
  pub read : of_items all ≡ Some (items_of elements)
  pub nests : tree.items_depth all ≤ n
  pub each : Pairwise R elements xs

each_read : {X : Type 0} (n : ℕ) (R : Data → X → Type 0) (Reads : List Token → X → Type 0) (all : json.Items) (xs : List X) →
    ((ts : List Token) (x : X) → Reads ts x → TokensSay n R ts x) → ItemsAreRead Reads all xs json.no_items → EachRead n R all xs
each_read {X} n R Reads json.no_items [] says on = record { elements = []; read = refl; nests = omega arith; each = tt }
each_read {X} n R Reads (json.item j js) [] says on = absurd (cc)
each_read {X} n R Reads json.no_items (x ∷ xs) says on = absurd on
each_read {X} n R Reads (json.item j js) (x ∷ xs) says on =
    let one = (says on.0.0 x on.0.2).told j on.0.1 in
    let more = each_read n R Reads js xs says on.1 in
    let here = one.means.nests in
    let there = more.nests in
    record {
      elements = one.value ∷ more.elements;
      read = rw (one.means.read, more.read) refl;
      nests = omega (arith, here, there);
      each = (one.says, more.each);
    }

array_told : {X : Type 0} (n : ℕ) (R : Data → X → Type 0) (all : json.Items) (xs : List X) → EachRead n R all xs →
    ValueIsTold (suc n) (SaysEach R) (json.array all) xs
array_told {X} n R all xs r =
    let deep = r.nests in
    record {
      value = array (items_of r.elements);
      means = record { read = rw r.read refl; nests = omega (arith, deep) };
      says = record { elements = r.elements; is_array = refl; each = r.each };
    }

-- an array whose elements say what is read of them
pub array_says : {X V : Type 0} (n : ℕ) (R : Data → X → Type 0) (Reads : List Token → X → Type 0) (ts : List Token) (o : Option V)
    (items : V → List X) → ((item : List Token) (x : X) → Reads item x → TokensSay n R item x) →
    IfSome o (λ v. IsReadEach Reads ts (items v)) → IfSome o (λ v. TokensSay (suc n) (SaysEach R) ts (items v))
array_says {X} {V} n R Reads ts None items says each = tt
array_says {X} {V} n R Reads ts (Some v) items says each =
    record {
      told = λ j begins.
          let all = each.read j begins in
          let read = each_read n R Reads all.0 (items v) says all.2 in
          subst (λ k. ValueIsTold (suc n) (SaysEach R) k (items v)) (sym all.1) (array_told n R all.0 (items v) read);
    }
