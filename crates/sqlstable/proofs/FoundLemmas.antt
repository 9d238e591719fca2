-- What the list of keys shows of a table that was found.
use Rattle.std.proofs.Common.{◌≡◌, ◌≢◌, inl, inr, ℕ, ℤ, ◌<ℤ◌, map, List, [], ◌∷◌, ◌++◌, codes, arith, Bool, true, false, not, Ok, Err, Result, IfOk, OnOk}
use Rattle.std.proofs.Common.{refl, sym, ap, subst, ◌∙◌, true≢false}
use Rattle.std.specs.List.{AllByRecursion}
use Rattle.std.specs.Ordering.{is_lt}
use Rattle.std.specs.declared.cmp.Ordering.{Ordering}
use Rattle.std.specs.declared.cmp.Ordering.TheVariants.{Less, Equal, Greater}
use Rattle.std.proofs.lemmas.Bool.{cases_Bool}
use Rattle.std.proofs.lemmas.Int.{ints}
use Rattle.std.proofs.lemmas.Cmp.{nat_list_cmp_total, tied_itself}
use Rattle.sqlite_value.specs.declared.value.Value.{Value}
use Rattle.sqlite_value.specs.declared.value.Value.TheVariants.{Null, Int, Real, Text, Blob}
use Rattle.sqlite_value.specs.Order.{Row, column}
use Rattle.sqlite_trees.specs.Tree.{IsAscending}
use Rattle.sqlite_trees.specs.View.{is_int}
use Rattle.sqlite_trees.proofs.ListLemmas.{all_weaker, ascending_weaker, ascending-map, ascending_from_map}
use Rattle.std.specs.List.Sorted.{IsPermutation}
use Rattle.std.proofs.lemmas.List.{map-append}
use Rattle.std.proofs.lemmas.List.Sorted.{IsPermutation-sym}
use Rattle.sqlstable.proofs.Selects.{pairwise_permuted}
use Rattle.sqlite_rules.proofs.ListLemmas.{all_has, all_from}
use Rattle.sqlstable.specs.Rows.{is_bytes, Differ, HasOwnKeys, HasOwnNumbers, AreNumbered}
use Rattle.sqlstable.specs.Lists.{rises, RisesTo, AreRising, AreSoundRows, HaveOwnNumbers, ListsKeys, key_row}
use Rattle.sqlstable.specs.States.{TableIsSound, IsUsable, table}
use Rattle.sqlite.specs.State.{State}
use Rattle.sqlite.specs.Effect.{Database}
use Rattle.std.proofs.lemmas.Fmt.{decimal_digit}
use Rattle.sqlite_schema.specs.declared.schema.Schema.{Schema}
use Rattle.sqlstable.specs.Table.{no_schema, listed_schema, record_schema, record_index, record_table}
use Rattle.std.proofs.Math.Logic.{∥∥₁_elim, ∥∥₁_map}
use Rattle.sqlite_wal.specs.Recovery.{Image}
use Rattle.sqlite_trees.specs.Tree.{Trees}
use Rattle.sqlite_trees.specs.Props.{rows_set}
use Rattle.sqlite_trees.specs.Objects.{catalog_tree}
use Rattle.sqlite.specs.State.{IsUnchanged, IsLive, Opens}
use Rattle.sqlite.specs.Effect.{IsDatabase}
use Rattle.sqlite.specs.Files.{HoldsDatabase}
use Rattle.sqlite.specs.Closing.{HoldsAlone}
use Rattle.sqlstable.specs.Files.{FindsTable, AreThoseHeld, HoldRowsAlone}
use Rattle.sqlstable.proofs.Listed.{lists_something, lists_nothing}
use Rattle.sqlstable.proofs.Rows.{blob_is}

less : (o : Ordering) → is_lt o ≡ true → o ≡ Less
less Less h = refl
less Equal h = absurd (true≢false (sym h))
less Greater h = absurd (true≢false (sym h))

rises_on : (u v w : Value) → rises u v ≡ true → rises v w ≡ true → rises u w ≡ true
rises_on Null v w p q = refl
rises_on (Int n) v w p q = refl
rises_on (Real x) v w p q = refl
rises_on (Text t) v w p q = refl
rises_on (Blob x) Null w p q = absurd (true≢false (sym p))
rises_on (Blob x) (Int n) w p q = absurd (true≢false (sym p))
rises_on (Blob x) (Real y) w p q = absurd (true≢false (sym p))
rises_on (Blob x) (Text t) w p q = absurd (true≢false (sym p))
rises_on (Blob x) (Blob y) Null p q = absurd (true≢false (sym q))
rises_on (Blob x) (Blob y) (Int n) p q = absurd (true≢false (sym q))
rises_on (Blob x) (Blob y) (Real z) p q = absurd (true≢false (sym q))
rises_on (Blob x) (Blob y) (Text t) p q = absurd (true≢false (sym q))
rises_on (Blob x) (Blob y) (Blob z) p q = ap is_lt (nat_list_cmp_total.trans x y z (less _ p) (less _ q))

abbrev Up : Row → Row → Type 0
Up a b = rises (column a 0) (column b 0) ≡ true

all_above : (row : Row) (rows : List Row) → RisesTo row rows → IsAscending Up rows → AllByRecursion (Up row) rows
all_above row [] next up = tt
all_above row (s ∷ rs) next up =
    (next, all_weaker (Up s) (Up row) (λ t h. rises_on (column row 0) (column s 0) (column t 0) next h) rs up.0)

up_of : (rows : List Row) → AreSoundRows rows → IsAscending Up rows
up_of [] h = tt
up_of (r ∷ rs) (number, next, more) = let up = up_of rs more in (all_above r rs next up, up)

differ_of : (v w : Value) → rises v w ≡ true → Differ v w
differ_of v w up k hit = elim (cases_Bool (is_bytes k w)) [
  | inl same ↦ absurd (true≢false
      (sym (subst (λ x. rises x (Blob k) ≡ true) (blob_is k v hit) (subst (λ x. rises v x ≡ true) (blob_is k w same) up))
      ∙ ap is_lt (tied_itself nat_list_cmp_total k)))
  | inr other ↦ other
]

numbers_of : (rows : List Row) → AreSoundRows rows → AllByRecursion (λ r. is_int (column r 1) ≡ true) rows
numbers_of [] h = tt
numbers_of (r ∷ rs) (number, next, more) = (number, numbers_of rs more)

pub own_keys_found : (table rows : List Row) → ListsKeys table rows → AreSoundRows rows → HasOwnKeys table
own_keys_found table rows l sound =
    l.owned (ascending_weaker Up (λ a b. Differ (column a 0) (column b 0)) (λ a b. differ_of (column a 0) (column b 0)) rows
    (up_of rows sound))

pub numbers_found : (table rows : List Row) → ListsKeys table rows → AreSoundRows rows → AreNumbered table
numbers_found table rows l sound =
    all_from _ table (λ r h. all_has (λ r. is_int (column r 1) ≡ true) rows (key_row r) (numbers_of rows sound) (l.to r h))

-- ---- no number comes twice

above_all : (n : ℤ) (more : List ℤ) → AreRising (n ∷ more) → AllByRecursion (λ m. n <ℤ m) more
above_all n [] h = tt
above_all n (m ∷ more) h =
    (h.0, all_weaker (λ k. m <ℤ k) (λ k. n <ℤ k) (λ k x. let first = h.0 in omega (arith, ints, first, x)) more (above_all m more h.1))

apart_of : (numbers : List ℤ) → AreRising numbers → IsAscending (λ m n. Int m ≢ Int n) numbers
apart_of [] h = tt
apart_of (n ∷ more) h = (
  all_weaker (λ m. n <ℤ m) (λ m. Int n ≢ Int m) (λ m lt e. let same : n ≡ m = cc in omega (arith, ints, lt, same)) more (above_all n more h),
  apart_of more (rest n more h),
)
  where
    rest : (n : ℤ) (more : List ℤ) → AreRising (n ∷ more) → AreRising more
    rest n [] h = tt
    rest n (m ∷ more) h = h.1

-- numbers that rise once they are sorted are told once each
pub own_told : (rows : List Row) (numbers sorted : List ℤ) → map (λ r. column r 1) rows ≡ map Int numbers → IsPermutation numbers sorted
    → AreRising sorted → HaveOwnNumbers rows
own_told rows numbers sorted tell same rise =
    let apart = pairwise_permuted (λ m n. Int m ≢ Int n) (λ m n h e. h (sym e)) sorted numbers (IsPermutation-sym _ _ same) (apart_of sorted rise) in
    ascending_from_map (λ v w. v ≢ w) (λ (r : Row). column r 1) rows
    (subst (IsAscending (λ v w. v ≢ w)) (sym tell) (ascending-map (λ v w. v ≢ w) Int numbers apart))

pub one_more_number : (rows : List Row) (numbers : List ℤ) (row : Row) (number : ℤ) → map (λ r. column r 1) rows ≡ map Int numbers
    → column row 1 ≡ Int number → map (λ r. column r 1) (rows ++ row ∷ []) ≡ map Int (numbers ++ number ∷ [])
one_more_number rows numbers row number tell is =
    map-append (λ (r : Row). column r 1) rows (row ∷ []) ∙ ap (λ vs. vs ++ column row 1 ∷ []) tell
    ∙ ap (λ v. map Int numbers ++ v ∷ []) is ∙ sym (map-append Int numbers (number ∷ []))

-- ---- a table that was found

schema_with : List ℕ → Schema
schema_with ds = record {
  tables = record_table ∷ [];
  indexes = record record_index { name = codes "sqlite_autoindex_" ++ (record_table.name ++ (codes "_" ++ ds)) } ∷ [];
  views = [];
}

pub listed_is : listed_schema ≡ record_schema
unfolding schema_with
listed_is = ap schema_with (sym (decimal_digit 1 (omega arith)))

-- the list of keys shows that the table is sound, and leaves its rows
pub found_sound : (before after : State) (rows slice : List Row) → before.now.schema ≡ record_schema → ListsKeys (table before) rows
    → IsUnchanged before after
    → IsLive before → after.in_transaction ≡ false → after.now ≡ after.committed → slice ≡ rows → AreSoundRows slice → HaveOwnNumbers slice → TableIsSound after
    × (table after ≡ table before)
found_sound before after rows slice has l same live auto settled is sound own =
    let now = same.0.now_is in
    let database : IsDatabase after.now = subst IsDatabase (sym now) (live same.0.was_open).0 in
    let kept : table after ≡ table before = ap (λ (d : Database). d.trees 0) now in
    let good = subst AreSoundRows is sound in
    let schema : after.now.schema ≡ record_schema = ap (λ (d : Database). d.schema) now ∙ has in (
      record {
        schema = schema;
        autocommit = auto;
        committed_schema = ap (λ (d : Database). d.schema) (sym settled) ∙ schema;
        committed = ap (λ (d : Database). d.trees 0) (sym settled);
        listed = λ none. lists_something after.now schema database (ap (λ (d : Database). d.trees catalog_tree) settled ∙ none);
        own_keys = subst HasOwnKeys (sym kept) (own_keys_found (table before) rows l good);
        numbered = subst AreNumbered (sym kept) (numbers_found (table before) rows l good);
        own_numbers = subst HasOwnNumbers (sym kept) (l.own_numbers (subst HaveOwnNumbers is own));
      },
      kept,
    )

pub not_in : (answer inside : Bool) → answer ≡ not inside → answer ≡ true → inside ≡ false
not_in answer true e h = absurd (true≢false (sym h ∙ e))
not_in answer false e h = refl

-- ---- what files held is found

pub those_held : (image : Image) (before : State) (found : List Row) → Opens before
    → ((db : Trees) → HoldsDatabase image db → before.committed.trees ≡ db)
    → FindsTable before found → AreThoseHeld image found
those_held image before found opens holds finds rows held = ∥∥₁_elim held (rows_set found rows)
    (λ (db, there, listed, is). elim finds.found [
      | inl none ↦ absurd (listed (ap (λ (t : Trees). t catalog_tree) (sym (holds db there))
          ∙ ap (λ (d : Database). d.trees catalog_tree) (sym opens.clean) ∙ none.0))
      | inr same ↦ same ∙ ap (λ (d : Database). d.trees 0) opens.clean ∙ ap (λ (t : Trees). t 0) (holds db there) ∙ is
    ])

-- a storage that is closed leaves its rows
pub closed_holds : (image : Image) (last : State) → TableIsSound last → HoldsAlone image last.committed.trees → HoldRowsAlone image (table last)
closed_holds image last sound holds = record {
  both = ∥∥₁_map holds.both (λ there. (last.committed.trees, there, sound.listed, sound.committed));
  alone = ∥∥₁_map holds.alone (λ there. (last.committed.trees, there, sound.listed, sound.committed));
}

-- the table was made where nothing was there
pub blank_found : {X E : Type 0} (before after : State) (r : Result X E) → before.now.schema ≡ no_schema → IsLive before
    → OnOk r (IsUsable before)
    → OnOk r (table after ≡ []) → OnOk r (FindsTable before (table after))
blank_found before after (Ok x) blank live usable empty = record {
  was_clean = usable.0;
  found = inl (lists_nothing before.now blank (live usable.1).0, empty);
}
blank_found before after (Err e) blank live usable empty = tt

-- ---- answers that are Ok

-- what is known of an answer is so of its value
pub at_ok : {X E : Type 0} (P : X → Type 0) (r : Result X E) (x : X) → r ≡ Ok x → IfOk r P → P x
at_ok P r x is h = subst (λ o. IfOk o P) is h

-- the same of an answer whose value is handed on
pub handed_on : {X E F : Type 0} {P Q : X → Type 0} (outcome : Result X F) (r : Result X E) → IfOk r (λ x. outcome ≡ Ok x)
    → IfOk outcome P → ((x : X) → P x → Q x) → IfOk r Q
handed_on {X} {E} {F} {P} {Q} outcome (Ok x) given p then = then x (at_ok P outcome x given p)
handed_on {X} {E} {F} {P} {Q} outcome (Err e) given p then = tt

pub if_ok : {X E : Type 0} {P Q : X → Type 0} (r : Result X E) → IfOk r P → ((x : X) → P x → Q x) → IfOk r Q
if_ok (Ok x) p then = then x p
if_ok (Err e) p then = tt

pub if_both : {X E : Type 0} {P R Q : X → Type 0} (r : Result X E) → IfOk r P → IfOk r R → ((x : X) → P x → R x → Q x) → IfOk r Q
if_both (Ok x) p q then = then x p q
if_both (Err e) p q then = tt
