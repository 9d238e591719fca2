-- An object that has a member of each of some names, and no more members than names: it is read as an object of the same members.
use Rattle.std.proofs.Common.{◌≡◌, ℕ, suc, ◌+◌, ◌≤◌, List, [], ◌∷◌, length, Option, Some, None, option_and_then, Bool, true, false, cond}
use Rattle.std.proofs.Common.{bytes_eq}
use Rattle.std.proofs.Common.{Ordering, Less, Equal, Greater, nat_cmp, is_eq, true≢false, refl, sym, ap, ◌∙◌, subst, arith}
use Rattle.std.specs.Cmp.Lexicographic.{slice_cmp}
use Rattle.std.specs.Ordering.{match_ordering}
use Rattle.std.proofs.lemmas.Map.Text.{is_eq-slice_cmp}
use Rattle.std.proofs.lemmas.Option.{same_Some}
use Rattle.std.proofs.lemmas.Slice.Eq.{bytes_eq-Decides}
use Rattle.json.specs.Json as json
use Rattle.json.specs.Tree as tree
use Rattle.json.specs.Find as found
use Rattle.json.specs.Strict.{keys}
use Rattle.serde_json.specs.Data.{Data, object, Members, no_members, member, put}
use Rattle.serde_json.specs.Find.{get_member}
use Rattle.serde_json.specs.Events.{members_len}
use Rattle.serde_json.specs.Read.{of_json, of_members}
use Rattle.serde_json.proofs.Views.{get_member-put, get_member-put_other}
use Rattle.mfjson.specs.Tokens.{Means}

-- ---- names

abbrev Differs : List ℕ → List (List ℕ) → Type 0
Differs k [] = Unit {0}
Differs k (l ∷ ls) = (l ≡ k → ⊥) × Differs k ls

abbrev pub AreApart : List (List ℕ) → Type 0
AreApart [] = Unit {0}
AreApart (k ∷ ks) = Differs k ks × AreApart ks

-- the last member of that name is read as d
pub record Named (n : ℕ) (ms : json.Members) (k : List ℕ) (d : Data) : Type 0 where
  pub value : json.Json
  pub here : found.get_member k ms ≡ Some value
  pub means : Means n value d

abbrev pub AreNamed : ℕ → json.Members → List (List ℕ) → Type 0
AreNamed n ms [] = Unit {0}
AreNamed n ms (k ∷ ks) = ((d : Data) × Named n ms k d) × AreNamed n ms ks

abbrev AreRead : ℕ → json.Members → Type 0
AreRead n json.no_members = Unit {0}
AreRead n (json.member k j ms) = ((d : Data) × Means n j d) × AreRead n ms

-- ---- the members without the last one of a name

abbrev gone : Option json.Json → Bool → List ℕ → json.Json → json.Members → json.Members → json.Members
gone (Some x) b l j ms rest = json.member l j rest
gone None true l j ms rest = ms
gone None false l j ms rest = json.member l j rest

abbrev without : List ℕ → json.Members → json.Members
without k json.no_members = json.no_members
without k (json.member l j ms) = gone (found.get_member k ms) (bytes_eq l k) l j ms (without k ms)

shorter_at : (o : Option json.Json) (b : Bool) (l : List ℕ) (i j : json.Json) (ms rest : json.Members) →
    ((x : json.Json) → o ≡ Some x → length (keys ms) ≡ suc (length (keys rest))) → found.later_or o (cond b (Some j) None) ≡ Some i →
    suc (length (keys ms)) ≡ suc (length (keys (gone o b l j ms rest)))
shorter_at (Some x) b l i j ms rest more is = ap suc (more x refl)
shorter_at None true l i j ms rest more is = refl
shorter_at None false l i j ms rest more is = absurd (cc)

shorter : (k : List ℕ) (ms : json.Members) (i : json.Json) → found.get_member k ms ≡ Some i →
    length (keys ms) ≡ suc (length (keys (without k ms)))
shorter k json.no_members i is = absurd (cc)
shorter k (json.member l j ms) i is = shorter_at (found.get_member k ms) (bytes_eq l k) l i j ms (without k ms) (shorter k ms) is

differ : (xs ys : List ℕ) (b : Bool) → bytes_eq xs ys ≡ b → (xs ≡ ys → ⊥) → b ≡ false
differ xs ys true e other = absurd (other ((bytes_eq-Decides xs ys).0 e))
differ xs ys false e other = refl

no_later : (o : Option json.Json) → o ≡ found.later_or o None
no_later None = refl
no_later (Some x) = refl

other_at : (o : Option json.Json) (b : Bool) (q k l : List ℕ) (j : json.Json) (ms rest : json.Members) → bytes_eq l k ≡ b → (q ≡ k → ⊥) →
    found.get_member q rest ≡ found.get_member q ms → found.get_member q (gone o b l j ms rest) ≡ found.get_member q (json.member l j ms)
other_at (Some x) b q k l j ms rest is apart same = ap (λ r. found.later_or r (cond (bytes_eq l q) (Some j) None)) same
other_at None true q k l j ms rest is apart same =
    let at : l ≡ k = (bytes_eq-Decides l k).0 is in
    let no : bytes_eq l q ≡ false = differ l q _ refl (λ e. apart (sym e ∙ at)) in
    no_later (found.get_member q ms) ∙ ap (λ b. found.later_or (found.get_member q ms) (cond b (Some j) None)) (sym no)
other_at None false q k l j ms rest is apart same = ap (λ r. found.later_or r (cond (bytes_eq l q) (Some j) None)) same

other : (q k : List ℕ) (ms : json.Members) → (q ≡ k → ⊥) → found.get_member q (without k ms) ≡ found.get_member q ms
other q k json.no_members apart = refl
other q k (json.member l j ms) apart =
    other_at (found.get_member k ms) (bytes_eq l k) q k l j ms (without k ms) refl apart (other q k ms apart)

named_after : (n : ℕ) (k : List ℕ) (ms : json.Members) (ks : List (List ℕ)) → Differs k ks → AreNamed n ms ks → AreNamed n (without k ms) ks
named_after n k ms [] apart named = tt
named_after n k ms (l ∷ ks) apart named =
    let one = named.0.1 in (
      (named.0.0, record { value = one.value; here = other l k ms apart.0 ∙ one.here; means = one.means }),
      named_after n k ms ks apart.1 named.1,
    )

read_at : (n : ℕ) (o : Option json.Json) (b : Bool) (l : List ℕ) (i j : json.Json) (d : Data) (ms rest : json.Members) →
    ((x : json.Json) → o ≡ Some x → x ≡ i → AreRead n rest → AreRead n ms) → found.later_or o (cond b (Some j) None) ≡ Some i →
    Means n i d →
    AreRead n (gone o b l j ms rest) → ((e : Data) × Means n j e) × AreRead n ms
read_at n (Some x) b l i j d ms rest more is means read = (read.0, more x refl (same_Some x i is) read.1)
read_at n None true l i j d ms rest more is means read = ((d, subst (λ x. Means n x d) (sym (same_Some j i is)) means), read)
read_at n None false l i j d ms rest more is means read = absurd (cc)

-- where the others are read, and that one
read_with : (n : ℕ) (k : List ℕ) (ms : json.Members) (i : json.Json) (d : Data) → found.get_member k ms ≡ Some i → Means n i d →
    AreRead n (without k ms) → AreRead n ms
read_with n k json.no_members i d is means read = tt
read_with n k (json.member l j ms) i d is means read =
    read_at n (found.get_member k ms) (bytes_eq l k) l i j d ms (without k ms)
    (λ x at same. read_with n k ms i d (at ∙ ap Some same) means) is means read

-- each member is one of those that are named, since there are no more
each_read : (n : ℕ) (ks : List (List ℕ)) (ms : json.Members) → AreApart ks → AreNamed n ms ks → length (keys ms) ≤ length ks → AreRead n ms
each_read n [] json.no_members apart named few = tt
each_read n [] (json.member l j ms) apart named few = absurd (omega (arith, few))
each_read n (k ∷ ks) ms apart named few =
    let one = named.0.1 in
    let less = shorter k ms one.value one.here in
    read_with n k ms one.value named.0.0 one.here one.means
    (each_read n ks (without k ms) apart.1 (named_after n k ms ks apart.0 named.1) (omega (arith, less, few)))

-- ---- what the members are read as

nest : (n : ℕ) (ms : json.Members) → AreRead n ms → tree.members_depth ms ≤ n
nest n json.no_members read = omega arith
nest n (json.member k j ms) read =
    let here = read.0.1.nests in
    let more = nest n ms read.1 in
    omega (arith, here, more)

taken : (n : ℕ) (ms : json.Members) (old : Members) → AreRead n ms → (new : Members) × (of_members ms old ≡ Some new)
taken n json.no_members old read = (old, refl)
taken n (json.member k j ms) old read =
    let more = taken n ms (put k read.0.0 old) read.1 in
    (more.0, rw read.0.1.read more.1)

-- the value that was read, and the members after it
pub record Taken (k : List ℕ) (j : json.Json) (ms : json.Members) (old new : Members) : Type 0 where
  pub value : Data
  pub read : of_json j ≡ Some value
  pub more : of_members ms (put k value old) ≡ Some new

apart_at : (o : Option Data) (k : List ℕ) (j : json.Json) (ms : json.Members) (old new : Members) → of_json j ≡ o →
    option_and_then (λ d. of_members ms (put k d old)) o ≡ Some new → Taken k j ms old new
apart_at None k j ms old new is e = absurd (cc)
apart_at (Some d) k j ms old new is e = record { value = d; read = is; more = e }

taken_apart : (k : List ℕ) (j : json.Json) (ms : json.Members) (old new : Members) → of_members (json.member k j ms) old ≡ Some new →
    Taken k j ms old new
taken_apart k j ms old new e = apart_at (of_json j) k j ms old new refl e

-- ---- how many they are

one_more : (o : Ordering) (k l : List ℕ) (d e : Data) (ms : Members) → members_len (put k d ms) ≤ suc (members_len ms) →
    members_len (match_ordering o (member k d (member l e ms)) (member l d ms) (member l e (put k d ms))) ≤ suc (suc (members_len ms))
one_more Less k l d e ms h = omega arith
one_more Equal k l d e ms h = omega arith
one_more Greater k l d e ms h = omega (arith, h)

put_one : (k : List ℕ) (d : Data) (ms : Members) → members_len (put k d ms) ≤ suc (members_len ms)
put_one k d no_members = omega arith
put_one k d (member l e ms) = one_more (slice_cmp nat_cmp k l) k l d e ms (put_one k d ms)

at_most : (ms : json.Members) (old new : Members) → of_members ms old ≡ Some new → members_len new ≤ length (keys ms) + members_len old
at_most json.no_members old new e = let same = same_Some old new e in let count = ap members_len same in omega (arith, count)
at_most (json.member k j ms) old new e =
    let t = taken_apart k j ms old new e in
    let more = at_most ms (put k t.value old) new t.more in
    let one = put_one k t.value old in
    omega (arith, more, one)

-- ---- what is found under a name

abbrev Keeps : List ℕ → Option json.Json → Members → Members → Type 0
Keeps k None old new = get_member k new ≡ get_member k old
Keeps k (Some j) old new = (d : Data) × (of_json j ≡ Some d) × (get_member k new ≡ Some d)

keeps_at : (o : Option json.Json) (b : Bool) (k l : List ℕ) (j : json.Json) (d : Data) (old new : Members) → bytes_eq l k ≡ b →
    of_json j ≡ Some d →
    Keeps k o (put l d old) new → Keeps k (found.later_or o (cond b (Some j) None)) old new
keeps_at (Some x) b k l j d old new is read more = more
keeps_at None true k l j d old new is read more =
    let at : l ≡ k = (bytes_eq-Decides l k).0 is in
    (d, read, more ∙ subst (λ q. get_member q (put l d old) ≡ Some d) at (get_member-put l d old))
keeps_at None false k l j d old new is read more =
    more ∙ get_member-put_other k l d old (λ e. true≢false (sym ((bytes_eq-Decides l k).1 (sym e)) ∙ is))

keeps : (k : List ℕ) (ms : json.Members) (old new : Members) → of_members ms old ≡ Some new → Keeps k (found.get_member k ms) old new
keeps k json.no_members old new e = ap (get_member k) (sym (same_Some old new e))
keeps k (json.member l j ms) old new e =
    let t = taken_apart l j ms old new e in
    keeps_at (found.get_member k ms) (bytes_eq l k) k l j t.value old new refl t.read (keeps k ms (put l t.value old) new t.more)

named_there : (n : ℕ) (k : List ℕ) (d : Data) (ms : json.Members) (new : Members) → of_members ms no_members ≡ Some new → Named n ms k d
    → get_member k new ≡ Some d
named_there n k d ms new e named =
    let kept : Keeps k (Some named.value) no_members new =
    subst (λ o. Keeps k o no_members new) named.here (keeps k ms no_members new e) in
    kept.2 ∙ ap Some (same_Some kept.0 d (sym kept.1 ∙ named.means.read))

-- ---- no fewer than the names

abbrev less : List ℕ → Members → Members
less k no_members = no_members
less k (member l e ms) = match_ordering (slice_cmp nat_cmp k l) (member l e (less k ms)) ms (member l e (less k ms))

fewer_at : (o : Ordering) (k l : List ℕ) (d e : Data) (ms : Members) →
    (get_member k ms ≡ Some d → members_len ms ≡ suc (members_len (less k ms))) →
    match_ordering o (get_member k ms) (Some e) (get_member k ms) ≡ Some d →
    suc (members_len ms) ≡ suc (members_len (match_ordering o (member l e (less k ms)) ms (member l e (less k ms))))
fewer_at Less k l d e ms more is = ap suc (more is)
fewer_at Equal k l d e ms more is = refl
fewer_at Greater k l d e ms more is = ap suc (more is)

fewer : (k : List ℕ) (d : Data) (ms : Members) → get_member k ms ≡ Some d → members_len ms ≡ suc (members_len (less k ms))
fewer k d no_members is = absurd (cc)
fewer k d (member l e ms) is = fewer_at (slice_cmp nat_cmp k l) k l d e ms (fewer k d ms) is

not_there : (o : Ordering) (q l : List ℕ) (e : Data) (r : Option Data) → slice_cmp nat_cmp q l ≡ o → (q ≡ l → ⊥) →
    r ≡ match_ordering o r (Some e) r
not_there Less q l e r is apart = refl
not_there Equal q l e r is apart = absurd (apart ((bytes_eq-Decides q l).0 (sym (is_eq-slice_cmp q l) ∙ ap is_eq is)))
not_there Greater q l e r is apart = refl

left_at : (o : Ordering) (q k l : List ℕ) (e : Data) (ms : Members) → slice_cmp nat_cmp k l ≡ o → (q ≡ k → ⊥) →
    get_member q (less k ms) ≡ get_member q ms →
    get_member q (match_ordering o (member l e (less k ms)) ms (member l e (less k ms))) ≡ get_member q (member l e ms)
left_at Less q k l e ms is apart same = ap (λ r. match_ordering (slice_cmp nat_cmp q l) r (Some e) r) same
left_at Equal q k l e ms is apart same =
    let at : k ≡ l = (bytes_eq-Decides k l).0 (sym (is_eq-slice_cmp k l) ∙ ap is_eq is) in
    not_there _ q l e (get_member q ms) refl (λ h. apart (h ∙ sym at))
left_at Greater q k l e ms is apart same = ap (λ r. match_ordering (slice_cmp nat_cmp q l) r (Some e) r) same

left : (q k : List ℕ) (ms : Members) → (q ≡ k → ⊥) → get_member q (less k ms) ≡ get_member q ms
left q k no_members apart = refl
left q k (member l e ms) apart = left_at (slice_cmp nat_cmp k l) q k l e ms refl apart (left q k ms apart)

abbrev AreThere : Members → List (List ℕ) → Type 0
AreThere ms [] = Unit {0}
AreThere ms (k ∷ ks) = ((d : Data) × (get_member k ms ≡ Some d)) × AreThere ms ks

there_after : (k : List ℕ) (ms : Members) (ks : List (List ℕ)) → Differs k ks → AreThere ms ks → AreThere (less k ms) ks
there_after k ms [] apart there = tt
there_after k ms (l ∷ ks) apart there = ((there.0.0, left l k ms apart.0 ∙ there.0.1), there_after k ms ks apart.1 there.1)

at_least : (ks : List (List ℕ)) (ms : Members) → AreApart ks → AreThere ms ks → length ks ≤ members_len ms
at_least [] ms apart there = omega arith
at_least (k ∷ ks) ms apart there =
    let count = fewer k there.0.0 ms there.0.1 in
    let more = at_least ks (less k ms) apart.1 (there_after k ms ks apart.0 there.1) in
    omega (arith, count, more)

all_there : (n : ℕ) (ms : json.Members) (new : Members) (ks : List (List ℕ)) → of_members ms no_members ≡ Some new → AreNamed n ms ks →
    AreThere new ks
all_there n ms new [] e named = tt
all_there n ms new (k ∷ ks) e named =
    ((named.0.0, named_there n k named.0.0 ms new e named.0.1), all_there n ms new ks e named.1)

-- ---- the object

pub record Whole (n : ℕ) (ms : json.Members) (count : ℕ) : Type 0 where
  pub members : Members
  pub means : Means (suc n) (json.object ms) (object members)
  pub count_is : members_len members ≡ count
  pub there : (k : List ℕ) (d : Data) → Named n ms k d → get_member k members ≡ Some d

pub whole : (n : ℕ) (ms : json.Members) (ks : List (List ℕ)) → AreApart ks → AreNamed n ms ks → length (keys ms) ≡ length ks →
    Whole n ms (length ks)
whole n ms ks apart named count =
    let read = each_read n ks ms apart named (omega (arith, count)) in
    let new = taken n ms no_members read in
    let deep = nest n ms read in
    let most = at_most ms no_members new.0 new.1 in
    let least = at_least ks new.0 apart (all_there n ms new.0 ks new.1 named) in
    record {
      members = new.0;
      means = record { read = rw new.1 refl; nests = omega (arith, deep) };
      count_is = omega (arith, most, least, count);
      there = λ k d one. named_there n k d ms new.0 new.1 one;
    }
