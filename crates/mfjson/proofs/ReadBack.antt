-- The canonical document, as bytes: its pieces, its encoding, and that it is read back.
use Rattle.std.proofs.Common.{◌≡◌, ℕ, ℤ, pos, negsuc, ◌≤◌, suc, Bool, true, false, List, [], ◌∷◌, ◌++◌, codes, Some, subst, refl, ap, sym}
use Rattle.std.proofs.Common.{◌∙◌, arith, append_assoc, append-nil}
use Rattle.std.specs.Prelude.{IsUtf8, option_and_then}
use Rattle.std.proofs.lemmas.Int.{ints}
use Rattle.std.proofs.lemmas.Str.{IsUtf8-append, IsUtf8-from_ascii}
use Rattle.std.proofs.lemmas.Fmt.{IsAscii-signed}
use Rattle.json.specs.Lex.{tokens}
use Rattle.json.specs.Json as json
use Rattle.json.specs.Tree as tree
use Rattle.json.specs.Print.{escape, escape_byte}
use Rattle.json.proofs.Printed.Decimals.{IsNumber-signed_decimal}
use Rattle.json.proofs.Printed.Trees.{ArePrintable-json_tokens, value-json_tokens}
use Rattle.json.proofs.Printed.Tokens.{tokens-print}
use Rattle.json.proofs.Printed.Utf8.{are_ascii, IsUtf8-are_ascii, IsUtf8-quoted}
use Rattle.serde_json.specs.Data.{Data, array}
use Rattle.serde_json.specs.View.{items_of}
use Rattle.serde_json.specs.Find.{of_integer}
use Rattle.serde_json.specs.Read.{read, of_json, of_items, number_of, max_depth}
use Rattle.serde_json.specs.Written.{compact_text, items_text, number_text, comma_if, outline, items_outline}
use Rattle.serde_json.proofs.Numbers.{number_of-decimal, number_of-negative}
use Rattle.serde_json.proofs.Texts.{print-outline}
use Rattle.tpoint.specs.declared.interp.Interp.{Interp}
use Rattle.tpoint.specs.declared.interp.Interp.TheVariants.{Discrete, Step, Linear}
use Rattle.tpoint.specs.declared.point.Point.{Point}
use Rattle.tpoint.specs.Interps.{interp_name}
use Rattle.tpoint.specs.Coordinates.{InRange}
use Rattle.tpoint.specs.Moving.{IsValid, InBounds}
use Rattle.tpoint.specs.Ids.{IsId}
use Rattle.mfjson.specs.declared.feature.Feature.{Feature}
use Rattle.tpoint.specs.Places.{EachAt}
use Rattle.mfjson.specs.Pairs.{Pairwise}
use Rattle.mfjson.specs.Document.{WritesWhen, WritesWhere, position, canonical}
use Rattle.mfjson.specs.Texts.{ListsPoints, IsWrittenAfter}
use Rattle.mfjson.proofs.AsciiTexts.{id_utf8, datetime_utf8, id_as_it_is}
use Rattle.mfjson.proofs.Standing.{canonical_stands}

-- ---- its pieces
name_as_it_is : (i : Interp) → escape (interp_name i) ≡ interp_name i
unfolding escape_byte
name_as_it_is Discrete = refl
name_as_it_is Step = refl
name_as_it_is Linear = refl

grouped : (l1 l2 l3 l4 n m id p t name : List ℕ) →
    l1 ++ ((id ++ 34 ∷ []) ++ (l2 ++ ((p ++ (l3 ++ (t ++ (l4 ++ ((name ++ 34 ∷ []) ++ n))))) ++ m))) ≡
    l1 ++ (id ++ ((34 ∷ l2) ++ (p ++ (l3 ++ (t ++ (l4 ++ (name ++ ((34 ∷ n) ++ m))))))))
grouped l1 l2 l3 l4 n m id p t name = simp append_assoc

pub canonical_pieces : (id : List ℕ) (interp : Interp) (times places : List Data) → escape id ≡ id →
    compact_text (canonical id (interp_name interp) times places) ≡
    codes "{\"id\":\"" ++ (id ++ (codes "\",\"temporalGeometry\":{\"coordinates\":" ++ (compact_text (array (items_of places))
    ++ (codes ",\"datetimes\":" ++ (compact_text (array (items_of times)) ++ (codes ",\"interpolation\":\"" ++ (interp_name interp
    ++ codes "\",\"type\":\"MovingPoint\"},\"type\":\"Feature\"}")))))))
unfolding escape_byte
canonical_pieces id interp times places e =
    rw (e, name_as_it_is interp) (grouped (codes "{\"id\":\"") (codes ",\"temporalGeometry\":{\"coordinates\":") (codes ",\"datetimes\":")
    (codes ",\"interpolation\":\"") (codes ",\"type\":\"MovingPoint\"}") (codes ",\"type\":\"Feature\"}") id
    (compact_text (array (items_of places))) (compact_text (array (items_of times))) (interp_name interp))

-- ---- it is read back
whole_read : (z : ℤ) → InRange z → number_of (number_text (of_integer z)) ≡ Some (of_integer z)
whole_read (pos n) h = let top = h.greatest in number_of-decimal n (omega (arith, ints))
whole_read (negsuc n) h = let low = h.least in number_of-negative n (omega (arith, ints))

position_read : (x y : ℤ) → InRange x → InRange y → of_json (outline (position x y)) ≡ Some (position x y)
position_read x y h k = rw (whole_read x h, whole_read y k)

one_item : (d : Data) (ds : List Data) → of_json (outline d) ≡ Some d → of_items (items_outline (items_of ds)) ≡ Some (items_of ds) →
    of_items (items_outline (items_of (d ∷ ds))) ≡ Some (items_of (d ∷ ds))
one_item d ds e f = rw (e, f)

times_read : (ds : List Data) (ps : List Point) → Pairwise WritesWhen ds ps → of_items (items_outline (items_of ds)) ≡ Some (items_of ds)
times_read [] ps w = refl
times_read (d ∷ ds) [] w = absurd w
times_read (d ∷ ds) (p ∷ ps) w =
    one_item d ds (rw w.0.is_text refl) (times_read ds ps w.1)

places_read : (ds : List Data) (ps : List Point) → Pairwise WritesWhere ds ps → ((k : ℕ) → EachAt ps InBounds k) →
    of_items (items_outline (items_of ds)) ≡ Some (items_of ds)
places_read [] ps w all = refl
places_read (d ∷ ds) [] w all = absurd w
places_read (d ∷ ds) (p ∷ ps) w all =
    let fits : InBounds p = all 0 p refl in
    one_item d ds (rw w.0 (position_read p.x p.y fits.x_fits fits.y_fits)) (places_read ds ps w.1 (λ k. all (suc k)))

canonical_read : (id name : List ℕ) (times places : List Data) → of_items (items_outline (items_of times)) ≡ Some (items_of times) →
    of_items (items_outline (items_of places)) ≡ Some (items_of places) →
    of_json (outline (canonical id name times places)) ≡ Some (canonical id name times places)
canonical_read id name times places t p = rw (t, p)

-- ---- its numbers are numbers, and it is not deep
whole_is_number : (z : ℤ) → InRange z → tree.HasNumbers (json.number (number_text (of_integer z)))
whole_is_number (pos n) h = let top = h.greatest in IsNumber-signed_decimal (pos n) (omega (arith, ints))
whole_is_number (negsuc n) h = let low = h.least in IsNumber-signed_decimal (negsuc n) (omega (arith, ints))

times_numbers : (ds : List Data) (ps : List Point) → Pairwise WritesWhen ds ps → tree.ItemsHaveNumbers (items_outline (items_of ds))
times_numbers [] ps w = tt
times_numbers (d ∷ ds) [] w = absurd w
times_numbers (d ∷ ds) (p ∷ ps) w = rw w.0.is_text (tt, times_numbers ds ps w.1)

places_numbers : (ds : List Data) (ps : List Point) → Pairwise WritesWhere ds ps → ((k : ℕ) → EachAt ps InBounds k) →
    tree.ItemsHaveNumbers (items_outline (items_of ds))
places_numbers [] ps w all = tt
places_numbers (d ∷ ds) [] w all = absurd w
places_numbers (d ∷ ds) (p ∷ ps) w all =
    let fits : InBounds p = all 0 p refl in
    rw w.0 ((whole_is_number p.x fits.x_fits, (whole_is_number p.y fits.y_fits, tt)), places_numbers ds ps w.1 (λ k. all (suc k)))

times_shallow : (ds : List Data) (ps : List Point) → Pairwise WritesWhen ds ps → tree.items_depth (items_outline (items_of ds)) ≤ 1
times_shallow [] ps w = omega arith
times_shallow (d ∷ ds) [] w = absurd w
times_shallow (d ∷ ds) (p ∷ ps) w = rw w.0.is_text (let more = times_shallow ds ps w.1 in omega arith)

places_shallow : (ds : List Data) (ps : List Point) → Pairwise WritesWhere ds ps → tree.items_depth (items_outline (items_of ds)) ≤ 1
places_shallow [] ps w = omega arith
places_shallow (d ∷ ds) [] w = absurd w
places_shallow (d ∷ ds) (p ∷ ps) w = rw w.0 (let more = places_shallow ds ps w.1 in omega arith)

canonical_shallow : (id name : List ℕ) (times places : List Data) (ps : List Point) → Pairwise WritesWhen times ps →
    Pairwise WritesWhere places ps → tree.depth (outline (canonical id name times places)) ≤ max_depth
canonical_shallow id name times places ps t p =
    let a = times_shallow times ps t in
    let b = places_shallow places ps p in
    omega arith

-- the tokens of a value's text are the value's
outline_back : (d : Data) → tree.HasNumbers (outline d) → tree.depth (outline d) ≤ max_depth →
    option_and_then (λ p. json.if_last p.0 p.1) (json.value max_depth (tokens (compact_text d))) ≡ Some (outline d)
outline_back d numbers shallow =
    let j = outline d in
    ap (option_and_then (λ p. json.if_last p.0 p.1)) (ap (json.value max_depth) (ap tokens (sym (print-outline d))
    ∙ tokens-print (tree.json_tokens j) (ArePrintable-json_tokens j numbers) ∙ sym (append-nil (tree.json_tokens j)))
    ∙ value-json_tokens j max_depth [] shallow)

pub canonical_back : (id name : List ℕ) (times places : List Data) (ps : List Point) → Pairwise WritesWhen times ps →
    Pairwise WritesWhere places ps → ((k : ℕ) → EachAt ps InBounds k) →
    read (compact_text (canonical id name times places)) ≡ Some (canonical id name times places)
canonical_back id name times places ps t p all =
    let d = canonical id name times places in
    let numbers : tree.HasNumbers (outline d) =
    (tt, ((places_numbers places ps p all, (times_numbers times ps t, (tt, (tt, tt)))), (tt, tt))) in
    ap (option_and_then of_json) (outline_back d numbers (canonical_shallow id name times places ps t p))
    ∙ canonical_read id name times places (times_read times ps t) (places_read places ps p all)

-- ---- it is UTF-8
comma_utf8 : (later : Bool) → IsUtf8 (comma_if later)
comma_utf8 true = IsUtf8-are_ascii (44 ∷ []) refl
comma_utf8 false = IsUtf8-are_ascii [] refl

whole_utf8 : (z : ℤ) → InRange z → IsUtf8 (number_text (of_integer z))
whole_utf8 (pos n) h = let top = h.greatest in IsUtf8-from_ascii _ (IsAscii-signed (pos n) (omega (arith, ints)))
whole_utf8 (negsuc n) h = let low = h.least in IsUtf8-from_ascii _ (IsAscii-signed (negsuc n) (omega (arith, ints)))

position_utf8 : (x y : ℤ) → InRange x → InRange y → IsUtf8 (compact_text (position x y))
position_utf8 x y h k =
    IsUtf8-append (91 ∷ []) _ (IsUtf8-are_ascii (91 ∷ []) refl) (IsUtf8-append (number_text (of_integer x)) _ (whole_utf8 x h)
    (IsUtf8-append (44 ∷ []) _ (IsUtf8-are_ascii (44 ∷ []) refl) (IsUtf8-append (number_text (of_integer y)) (93 ∷ []) (whole_utf8 y k)
    (IsUtf8-are_ascii (93 ∷ []) refl))))

one_more_item : (later : Bool) (d : Data) (ds : List Data) → IsUtf8 (compact_text d) → IsUtf8 (items_text true (items_of ds)) →
    IsUtf8 (items_text later (items_of (d ∷ ds)))
one_more_item later d ds h more =
    IsUtf8-append (comma_if later) (compact_text d ++ items_text true (items_of ds)) (comma_utf8 later)
    (IsUtf8-append (compact_text d) (items_text true (items_of ds)) h more)

times_utf8 : (later : Bool) (ds : List Data) (ps : List Point) → Pairwise WritesWhen ds ps → IsUtf8 (items_text later (items_of ds))
times_utf8 later [] ps w = IsUtf8-are_ascii (93 ∷ []) refl
times_utf8 later (d ∷ ds) [] w = absurd w
times_utf8 later (d ∷ ds) (p ∷ ps) w =
    one_more_item later d ds (rw w.0.is_text (IsUtf8-quoted w.0.text (datetime_utf8 w.0.text p.t w.0.is_datetime)))
    (times_utf8 true ds ps w.1)

places_utf8 : (later : Bool) (ds : List Data) (ps : List Point) → Pairwise WritesWhere ds ps → ((k : ℕ) → EachAt ps InBounds k) →
    IsUtf8 (items_text later (items_of ds))
places_utf8 later [] ps w all = IsUtf8-are_ascii (93 ∷ []) refl
places_utf8 later (d ∷ ds) [] w all = absurd w
places_utf8 later (d ∷ ds) (p ∷ ps) w all =
    let fits : InBounds p = all 0 p refl in
    one_more_item later d ds (rw w.0 (position_utf8 p.x p.y fits.x_fits fits.y_fits)) (places_utf8 true ds ps w.1 (λ k. all (suc k)))

name_utf8 : (i : Interp) → IsUtf8 (interp_name i)
name_utf8 Discrete = IsUtf8-are_ascii _ refl
name_utf8 Step = IsUtf8-are_ascii _ refl
name_utf8 Linear = IsUtf8-are_ascii _ refl

-- an array
bracketed : (ds : List Data) → IsUtf8 (items_text false (items_of ds)) → IsUtf8 (compact_text (array (items_of ds)))
bracketed ds h = IsUtf8-append (91 ∷ []) (items_text false (items_of ds)) (IsUtf8-are_ascii (91 ∷ []) refl) h

-- literal bytes, and more
led : (bs more : List ℕ) → are_ascii bs ≡ true → IsUtf8 more → IsUtf8 (bs ++ more)
led bs more e h = IsUtf8-append bs more (IsUtf8-are_ascii bs e) h

pub canonical_utf8 : (id : List ℕ) (interp : Interp) (times places : List Data) (ps : List Point) → IsId id → Pairwise WritesWhen times ps →
    Pairwise WritesWhere places ps → ((k : ℕ) → EachAt ps InBounds k)
    → IsUtf8 (compact_text (canonical id (interp_name interp) times places))
canonical_utf8 id interp times places ps is t p all =
    subst IsUtf8 (sym (canonical_pieces id interp times places (id_as_it_is id is)))
    (led (codes "{\"id\":\"") _ refl (IsUtf8-append id _ (id_utf8 id is) (led (codes "\",\"temporalGeometry\":{\"coordinates\":") _ refl
    (IsUtf8-append (compact_text (array (items_of places))) _ (bracketed places (places_utf8 false places ps p all))
    (led (codes ",\"datetimes\":") _ refl
    (IsUtf8-append (compact_text (array (items_of times))) _ (bracketed times (times_utf8 false times ps t))
    (led (codes ",\"interpolation\":\"") _ refl
    (IsUtf8-append (interp_name interp) _ (name_utf8 interp) (IsUtf8-are_ascii _ refl)))))))))

-- ---- a feature's document, written after other bytes
joined : (start l1 l2 l3 l4 l5 l6 l7 l8 l9 a b c d e g h i j : List ℕ) → a ≡ start ++ l1 → b ≡ a ++ l2 → c ≡ b ++ l3 → d ≡ c ++ l4 →
    e ≡ d ++ l5 → g ≡ e ++ l6 → h ≡ g ++ l7 → i ≡ h ++ l8 → j ≡ i ++ l9 →
    j ≡ start ++ (l1 ++ (l2 ++ (l3 ++ (l4 ++ (l5 ++ (l6 ++ (l7 ++ (l8 ++ l9))))))))
joined start l1 l2 l3 l4 l5 l6 l7 l8 l9 a b c d e g h i j p q r s t u v w x = rw (x, w, v, u, t, s, r, q, p) (simp append_assoc)

pub document_written : (f : Feature) (start a b c d e g h i j : List ℕ) → IsId f.id → IsValid f.seq → a ≡ start ++ codes "{\"id\":\"" →
    b ≡ a ++ f.id → c ≡ b ++ codes "\",\"temporalGeometry\":{\"coordinates\":" → ListsPoints WritesWhere f.seq.points c d →
    e ≡ d ++ codes ",\"datetimes\":" → ListsPoints WritesWhen f.seq.points e g → h ≡ g ++ codes ",\"interpolation\":\"" →
    i ≡ h ++ interp_name f.seq.interp → j ≡ i ++ codes "\",\"type\":\"MovingPoint\"},\"type\":\"Feature\"}" → IsWrittenAfter start j f
document_written f start a b c d e g h i j id valid a_is b_is c_is places e_is times h_is i_is j_is =
    let value = canonical f.id (interp_name f.seq.interp) times.elements places.elements in
    record {
      document = compact_text value;
      spelling =
          joined start _ f.id _ _ _ _ _ _ _ a b c d e g h i j a_is b_is c_is places.spelling e_is times.spelling h_is i_is j_is
          ∙ ap (λ s. start ++ s) (sym (canonical_pieces f.id f.seq.interp times.elements places.elements (id_as_it_is f.id id)));
      canonical = record {
        times = times.elements;
        places = places.elements;
        when = times.pairs;
        where_to = places.pairs;
        compact = refl;
      };
      of_this = record {
        value = value;
        shown = record {
          utf8 = canonical_utf8 f.id f.seq.interp times.elements places.elements f.seq.points id times.pairs places.pairs valid.in_range;
          read = canonical_back f.id (interp_name f.seq.interp) times.elements places.elements f.seq.points times.pairs places.pairs
              valid.in_range;
        };
        stands = canonical_stands f times.elements places.elements times.pairs places.pairs id valid;
      };
    }
