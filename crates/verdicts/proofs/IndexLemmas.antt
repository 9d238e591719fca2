-- What is known of a client and number, with one request more.
use Rattle.std.proofs.Common.{◌≡◌, ◌≢◌, ℕ, ◌⊎◌, inl, inr, List, [], ◌∷◌, ◌++◌, length, Bool, true, false, not, Option, Some, None, Contains, slice_get, refl, sym, ◌∙◌, subst}
use Rattle.std.proofs.lemmas.List.Elements.{Contains-push, Contains-push_cases, Contains-append_left}
use Rattle.std.proofs.lemmas.Option.{slice_get_within, get_or_from_slice_get}
use Rattle.std.specs.BTreeMap.{BTreeMap, Updates, get, is_at}
use Rattle.sessions.specs.declared.submission.Submission.{Submission}
use Rattle.sessions.specs.Same.{same_submission, same_submission_Decides}
use Rattle.sessions.proofs.Longer.{get-push_before, get-push_last}
use Rattle.verdicts.specs.RequestIndex.{IsOf, IsAmbiguous, IsOccurrence, IsFound, key_cmp}
use Rattle.verdicts.proofs.Keys.{key_self, key_same}
use Rattle.verdicts.specs.declared.request_index.Occurrence.{Occurrence}

pub contains_from_get : {X : Type 0} (xs : List X) (k : ℕ) (x : X) → slice_get xs k ≡ Some x → Contains xs x
contains_from_get xs k x e = (k, slice_get_within xs k x e, get_or_from_slice_get xs k x x e)

pub is_itself : (r : Submission) → IsOf r.client r.number r
is_itself r = record { of_client = refl; of_number = refl }

pub found_first : (before : List Submission) (r : Submission) → IsFound before r.client r.number None
    → IsOccurrence (before ++ r ∷ []) r.client r.number (record { first = length before; is_ambiguous = false })
found_first before r none = record {
  first = r;
  there = get-push_last before r;
  is_of = is_itself r;
  only = λ _ q there is. elim (Contains-push_cases before r q there) [
    | inl old ↦ absurd (none q old is)
    | inr same ↦ sym same
  ];
  ambiguous = λ e. absurd (cc);
}

same_parts : (a b : Submission) → a.client ≡ b.client → a.number ≡ b.number → a.op ≡ b.op → a ≡ b
same_parts a b c n o = λ i. record { client = c i; number = n i; op = o i }

ambiguous_still : (before : List Submission) (r : Submission) (client number : ℕ) → IsAmbiguous before client number
    → IsAmbiguous (before ++ r ∷ []) client number
ambiguous_still before r client number h = record {
  one = h.one;
  other = h.other;
  one_there = Contains-append_left before (r ∷ []) h.one h.one_there;
  other_there = Contains-append_left before (r ∷ []) h.other h.other_there;
  one_is = h.one_is;
  other_is = h.other_is;
  differ = h.differ;
}

module _ (before : List Submission) (r : Submission) (o : Occurrence) (occ : IsOccurrence before r.client r.number o) where
  ambiguous_now : occ.first ≢ r → IsAmbiguous (before ++ r ∷ []) r.client r.number
  ambiguous_now differ = record {
    one = occ.first;
    other = r;
    one_there = Contains-append_left before (r ∷ []) occ.first (contains_from_get before o.first occ.first occ.there);
    other_there = Contains-push before r;
    one_is = occ.is_of;
    other_is = is_itself r;
    differ = λ same. differ (same_parts occ.first r occ.is_of.of_client occ.is_of.of_number same);
  }

  pub found_again : (b : Bool) → (b ≡ false → (o.is_ambiguous ≡ false) × (occ.first ≡ r))
      → (b ≡ true → (o.is_ambiguous ≡ true) ⊎ (occ.first ≢ r))
      → IsOccurrence (before ++ r ∷ []) r.client r.number (record { first = o.first; is_ambiguous = b })
  found_again b same other = record {
    first = occ.first;
    there = get-push_before before r o.first (slice_get_within before o.first occ.first occ.there) ∙ occ.there;
    is_of = occ.is_of;
    only = λ e q there is. elim (Contains-push_cases before r q there) [
      | inl old ↦ occ.only (same e).0 q old is
      | inr here ↦ sym here ∙ sym (same e).1
    ];
    ambiguous = λ e. elim (other e) [
      | inl already ↦ ambiguous_still before r r.client r.number (occ.ambiguous already)
      | inr differ ↦ ambiguous_now differ
    ];
  }

-- a request of another client or number changes nothing
pub found_other : (before : List Submission) (r : Submission) (client number : ℕ) (o : Option Occurrence) → ¬ (IsOf client number r)
    → IsFound before client number o → IsFound (before ++ r ∷ []) client number o
found_other before r client number None other none = λ q there is. elim (Contains-push_cases before r q there) [
  | inl old ↦ none q old is
  | inr same ↦ other (subst (IsOf client number) (sym same) is)
]
found_other before r client number (Some o) other occ = record {
  first = occ.first;
  there = get-push_before before r o.first (slice_get_within before o.first occ.first occ.there) ∙ occ.there;
  is_of = occ.is_of;
  only = λ e q there is. elim (Contains-push_cases before r q there) [
    | inl old ↦ occ.only e q old is
    | inr same ↦ absurd (other (subst (IsOf client number) (sym same) is))
  ];
  ambiguous = λ e. ambiguous_still before r client number (occ.ambiguous e);
}

not_false : (t b : Bool) → b ≡ not t → b ≡ false → t ≡ true
not_false true b e f = refl
not_false false b e f = absurd (cc)

not_true : (t b : Bool) → b ≡ not t → b ≡ true → t ≡ true → ⊥
not_true true b e f g = cc
not_true false b e f g = cc

pub same_or_not : (x y : Submission) (b : Bool) → b ≡ not (same_submission x y) → (b ≡ false → x ≡ y) × (b ≡ true → x ≢ y)
same_or_not x y b e = (
  λ f. (same_submission_Decides x y).0 (not_false (same_submission x y) b e f),
  λ t same. not_true (same_submission x y) b e t ((same_submission_Decides x y).1 same),
)

-- ---- the index, with one request more
true_or_not : (b : Bool) → (b ≡ true) ⊎ (b ≡ false)
true_or_not true = inl refl
true_or_not false = inr refl

abbrev key_of : Submission → ℕ × ℕ
key_of r = (r.client, r.number)

module _ (before : List Submission) (r : Submission) (old new : BTreeMap (ℕ × ℕ) Occurrence) (o : Occurrence)
    (was : (client number : ℕ) → IsFound before client number (get key_cmp old (client, number)))
    (updates : Updates key_cmp old new (key_of r) (Some o))
    (now : IsOccurrence (before ++ r ∷ []) r.client r.number o) where
  at_key : (q : ℕ × ℕ) → key_of r ≡ q → IsFound (before ++ r ∷ []) q.0 q.1 (get key_cmp new q)
  at_key q same =
      let P : ℕ × ℕ → Type 0 = λ k. IsFound (before ++ r ∷ []) k.0 k.1 (get key_cmp new k) in
      let here : get key_cmp new (key_of r) ≡ Some o = updates.1 in
      subst P same (subst (IsFound (before ++ r ∷ []) r.client r.number) (sym here) now)

  elsewhere : (q : ℕ × ℕ) → is_at (key_cmp (key_of r)) q ≡ false → IsFound (before ++ r ∷ []) q.0 q.1 (get key_cmp new q)
  elsewhere q other =
      let kept : get key_cmp new q ≡ get key_cmp old q = updates.2 q other in
      let differs : ¬ (IsOf q.0 q.1 r) = λ is.
      (let same : key_of r ≡ q = λ i. (is.of_client i, is.of_number i) in
      let found : is_at (key_cmp (key_of r)) q ≡ true =
      subst (λ k. is_at (key_cmp (key_of r)) k ≡ true) same (key_self (key_of r)) in cc) in
      subst (IsFound (before ++ r ∷ []) q.0 q.1) (sym kept) (found_other before r q.0 q.1 _ differs (was q.0 q.1))

  pub indexed_more : (q : ℕ × ℕ) → IsFound (before ++ r ∷ []) q.0 q.1 (get key_cmp new q)
  indexed_more q = elim (true_or_not (is_at (key_cmp (key_of r)) q)) [
    | inl here ↦ at_key q (key_same (key_of r) q here)
    | inr other ↦ elsewhere q other
  ]

-- the same, where the key is made of numbers that are the request's
pub indexed_by : (before : List Submission) (r : Submission) (old new : BTreeMap (ℕ × ℕ) Occurrence) (o : Occurrence) (m n : ℕ)
    → m ≡ r.client → n ≡ r.number
    → ((client number : ℕ) → IsFound before client number (get key_cmp old (client, number)))
    → Updates key_cmp old new (m, n) (Some o) → IsOccurrence (before ++ r ∷ []) r.client r.number o
    → (client number : ℕ) → IsFound (before ++ r ∷ []) client number (get key_cmp new (client, number))
indexed_by before r old new o m n em en was updates now client number =
    let there : Updates key_cmp old new (r.client, r.number) (Some o) =
    subst (λ y. Updates key_cmp old new (r.client, y) (Some o)) en (subst (λ x. Updates key_cmp old new (x, n) (Some o)) em updates) in
    indexed_more before r old new o was there now (client, number)

pub found_by : (before : List Submission) (client number : ℕ) (index : BTreeMap (ℕ × ℕ) Occurrence) (m n : ℕ) (found : Option Occurrence)
    → m ≡ client → n ≡ number → found ≡ get key_cmp index (m, n)
    → ((client number : ℕ) → IsFound before client number (get key_cmp index (client, number))) → IsFound before client number found
found_by before client number index m n found em en e each =
    subst (λ y. IsFound before client y found) en (subst (λ x. IsFound before x n found) em
    (subst (IsFound before m n) (sym e) (each m n)))
