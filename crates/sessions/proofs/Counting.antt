-- Which places of a list count: there is one way to label them.
use Rattle.std.proofs.Common.{◌≡◌, ◌≢◌, ℕ, zero, suc, ◌-◌, ◌<◌, ◌==◌, ◌⊎◌, inl, inr, List, Bool, true, false, Option, Some, None, slice_get}
use Rattle.std.proofs.Common.{if◌then◌else◌, refl, sym, ◌∙◌, subst, arith}
use Rattle.std.proofs.lemmas.Grind.{common_steps}
use Rattle.std.proofs.lemmas.Bool.Decides.{nat_tests}
use Rattle.sessions.specs.declared.submission.Submission.{Submission}
use Rattle.sessions.specs.declared.command.Command.{Command}
use Rattle.sessions.specs.declared.command.Command.TheVariants.{NoOp, Request}
use Rattle.sessions.specs.Meaning.{IsRequestAt, HasCounted, IsNext, LabellingIsLawful}

-- a labelling with one place labelled anew
abbrev pub put : (ℕ → Bool) → ℕ → Bool → ℕ → Bool
put p n b i = if i == n then b else p i

pub put_same : (p : ℕ → Bool) (n : ℕ) (b : Bool) → put p n b n ≡ b
put_same p n b = grind (arith, nat_tests)

pub put_other : (p : ℕ → Bool) (n : ℕ) (b : Bool) (i : ℕ) → i ≢ n → put p n b i ≡ p i
put_other p n b i other = grind (arith, nat_tests)

-- ---- what can be told of two numbers
pub same_number : (a b : ℕ) → (a ≡ b) ⊎ (a ≢ b)
same_number a b = grind (arith, common_steps)

-- ---- labellings that agree below a place
abbrev pub has_counted_by : (l : List Command) (p q : ℕ → Bool) (below client number : ℕ)
    → ((i : ℕ) → i < below → p i ≡ q i) → HasCounted l p below client number → HasCounted l q below client number
has_counted_by l p q below client number same c = record {
  place = c.place;
  earlier = c.earlier;
  counted = sym (same c.place c.earlier) ∙ c.counted;
  request = c.request;
  there = c.there;
  of_client = c.of_client;
  of_number = c.of_number;
}

is_next_by : (l : List Command) (p q : ℕ → Bool) (i : ℕ) → ((j : ℕ) → j < i → p j ≡ q j) → IsNext l p i → IsNext l q i
is_next_by l p q i same n = record {
  request = n.request;
  there = n.there;
  once = λ c. n.once (has_counted_by l q p i n.request.client n.request.number (λ j h. sym (same j h)) c);
  in_turn = elim n.in_turn [
    | inl first ↦ inl first
    | inr follows ↦ inr (has_counted_by l p q i n.request.client (n.request.number - 1) same follows)
  ];
}

same_tests : (x y : Bool) → (x ≡ true → y ≡ true) → (y ≡ true → x ≡ true) → x ≡ y
same_tests true y f g = sym (f refl)
same_tests false true f g = g refl
same_tests false false f g = refl

-- ---- two lawful labellings are one
lawful_below : (l : List Command) (p q : ℕ → Bool) → LabellingIsLawful l p → LabellingIsLawful l q → (n i : ℕ) → i < n → p i ≡ q i
lawful_below l p q f g zero i h = absurd (omega (arith, h))
lawful_below l p q f g (suc n) i h =
    let same : (j : ℕ) → j < i → p j ≡ q j = λ j k. lawful_below l p q f g n j (omega (arith, h, k)) in
    same_tests (p i) (q i) (λ e. (g i).1 (is_next_by l p q i same ((f i).0 e)))
    (λ e. (f i).1 (is_next_by l q p i (λ j k. sym (same j k)) ((g i).0 e)))

pub one_labelling : (l : List Command) (p q : ℕ → Bool) → LabellingIsLawful l p → LabellingIsLawful l q → (i : ℕ) → p i ≡ q i
one_labelling l p q f g i = lawful_below l p q f g (suc i) i (omega arith)

-- ---- it can be told whether a place is to count
abbrev OrNot : Type 0 → Type 0
OrNot A = A ⊎ (A → ⊥)

pub counted_or_not : (b : Bool) → (b ≡ true) ⊎ (b ≡ false)
counted_or_not true = inl refl
counted_or_not false = inr refl

request_or_not : (o : Option Command) → ((r : Submission) × (o ≡ Some (Request r))) ⊎ ((r : Submission) → o ≡ Some (Request r) → ⊥)
request_or_not None = inr (λ r e. cc)
request_or_not (Some NoOp) = inr (λ r e. cc)
request_or_not (Some (Request r)) = inl (r, refl)

same_request : (o : Option Command) (q r : Submission) → o ≡ Some (Request q) → o ≡ Some (Request r) → q ≡ r
same_request o q r e f = cc

-- a place below a greater bound
sooner : (l : List Command) (p : ℕ → Bool) (n client number : ℕ) → HasCounted l p n client number
    → HasCounted l p (suc n) client number
sooner l p n client number c = record {
  place = c.place;
  earlier = let e : c.place < n = c.earlier in omega (arith, e);
  counted = c.counted;
  request = c.request;
  there = c.there;
  of_client = c.of_client;
  of_number = c.of_number;
}

-- one that counts is the last below a bound, or is below a lesser one
last_or_sooner : (l : List Command) (p : ℕ → Bool) (n client number : ℕ) → HasCounted l p (suc n) client number
    → (HasCounted l p n client number → ⊥)
    → (p n ≡ true) × ((r : Submission) × (IsRequestAt l n r × (r.client ≡ client) × (r.number ≡ number)))
last_or_sooner l p n client number c none =
    elim (same_number c.place n) [
      | inl e ↦ (
        subst (λ i. p i ≡ true) e c.counted,
        (c.request, (subst (λ i. IsRequestAt l i c.request) e c.there, c.of_client, c.of_number)),
      )
      | inr other ↦ absurd (none (record {
        place = c.place;
        earlier = let e : c.place < suc n = c.earlier in omega (arith, e, other);
        counted = c.counted;
        request = c.request;
        there = c.there;
        of_client = c.of_client;
        of_number = c.of_number;
      }))
    ]

here_or_not : (l : List Command) (p : ℕ → Bool) (n client number : ℕ) → (HasCounted l p n client number → ⊥)
    → OrNot (HasCounted l p (suc n) client number)
here_or_not l p n client number none = elim (counted_or_not (p n)) [
  | inl counted ↦ elim (request_or_not (slice_get l n)) [
    | inl (r, there) ↦ elim (same_number r.client client) [
      | inl e ↦ elim (same_number r.number number) [
        | inl f ↦ inl (record {
          place = n;
          earlier = omega arith;
          counted = counted;
          request = r;
          there = there;
          of_client = e;
          of_number = f;
        })
        | inr other ↦ inr (λ (c : HasCounted l p (suc n) client number).
            let last = last_or_sooner l p n client number c none in
            other (subst (λ (q : Submission). q.number ≡ number) (same_request (slice_get l n) last.1.0 r last.1.1.0 there)
            last.1.1.2))
      ]
      | inr other ↦ inr (λ (c : HasCounted l p (suc n) client number).
          let last = last_or_sooner l p n client number c none in
          other (subst (λ (q : Submission). q.client ≡ client) (same_request (slice_get l n) last.1.0 r last.1.1.0 there)
          last.1.1.1))
    ]
    | inr nothing ↦ inr (λ (c : HasCounted l p (suc n) client number).
        let last = last_or_sooner l p n client number c none in nothing last.1.0 last.1.1.0)
  ]
  | inr passed ↦ inr (λ (c : HasCounted l p (suc n) client number).
      let last = last_or_sooner l p n client number c none in
      let e : true ≡ false = sym last.0 ∙ passed in cc)
]

pub has_counted_or_not : (l : List Command) (p : ℕ → Bool) (n client number : ℕ) → OrNot (HasCounted l p n client number)
has_counted_or_not l p zero client number =
    inr (λ (c : HasCounted l p zero client number). let e : c.place < zero = c.earlier in omega (arith, e))
has_counted_or_not l p (suc n) client number = elim (has_counted_or_not l p n client number) [
  | inl c ↦ inl (sooner l p n client number c)
  | inr none ↦ here_or_not l p n client number none
]

in_turn_or_not : (l : List Command) (p : ℕ → Bool) (i : ℕ) (r : Submission)
    → OrNot ((r.number ≡ 1) ⊎ HasCounted l p i r.client (r.number - 1))
in_turn_or_not l p i r = elim (same_number r.number 1) [
  | inl first ↦ inl (inl first)
  | inr later ↦ elim (has_counted_or_not l p i r.client (r.number - 1)) [
    | inl follows ↦ inl (inr follows)
    | inr none ↦ inr (λ (e : (r.number ≡ 1) ⊎ HasCounted l p i r.client (r.number - 1)).
        elim e [ inl first ↦ later first | inr follows ↦ none follows ])
  ]
]

is_next_or_not : (l : List Command) (p : ℕ → Bool) (i : ℕ) → OrNot (IsNext l p i)
is_next_or_not l p i = elim (request_or_not (slice_get l i)) [
  | inl (r, there) ↦ elim (has_counted_or_not l p i r.client r.number) [
    | inl again ↦ inr (λ (n : IsNext l p i).
        n.once (subst (λ (q : Submission). HasCounted l p i q.client q.number)
        (same_request (slice_get l i) r n.request there n.there) again))
    | inr once ↦ elim (in_turn_or_not l p i r) [
      | inl turn ↦ inl (record { request = r; there = there; once = once; in_turn = turn })
      | inr early ↦ inr (λ (n : IsNext l p i).
          early (subst (λ (q : Submission). (q.number ≡ 1) ⊎ HasCounted l p i q.client (q.number - 1))
          (sym (same_request (slice_get l i) r n.request there n.there)) n.in_turn))
    ]
  ]
  | inr nothing ↦ inr (λ (n : IsNext l p i). nothing n.request n.there)
]

-- ---- so the places are labelled one after the other
abbrev test_of : {A : Type 0} → OrNot A → Bool
test_of (inl a) = true
test_of (inr n) = false

tests : {A : Type 0} (d : OrNot A) → A → test_of d ≡ true
tests (inl a) h = refl
tests (inr n) h = absurd (n h)

tested : {A : Type 0} (d : OrNot A) → test_of d ≡ true → A
tested (inl a) e = a
tested (inr n) e = absurd (let h : false ≡ true = e in cc)

-- the labels of the places below n
labels : List Command → ℕ → ℕ → Bool
labels l zero = λ i. false
labels l (suc n) = put (labels l n) n (test_of (is_next_or_not l (labels l n) n))

pub labelling : List Command → ℕ → Bool
labelling l i = labels l (suc i) i

label_here : (l : List Command) (n : ℕ) → labelling l n ≡ test_of (is_next_or_not l (labels l n) n)
unfolding labels labelling
label_here l n = put_same (labels l n) n (test_of (is_next_or_not l (labels l n) n))

label_before : (l : List Command) (n i : ℕ) → i < n → labels l n i ≡ labelling l i
unfolding labels labelling
label_before l zero i h = absurd (omega (arith, h))
label_before l (suc n) i h = elim (same_number i n) [
  | inl e ↦ subst (λ j. labels l (suc j) i ≡ labels l (suc i) i) e refl
  | inr other ↦
      put_other (labels l n) n (test_of (is_next_or_not l (labels l n) n)) i other
      ∙ label_before l n i (omega (arith, h, other))
]

pub labelling_is_lawful : (l : List Command) → LabellingIsLawful l (labelling l)
labelling_is_lawful l i = (
  λ e. is_next_by l (labels l i) (labelling l) i (label_before l i)
      (tested (is_next_or_not l (labels l i) i) (sym (label_here l i) ∙ e)),
  λ n. label_here l i ∙ tests (is_next_or_not l (labels l i) i)
      (is_next_by l (labelling l) (labels l i) i (λ j h. sym (label_before l i j h)) n),
)
