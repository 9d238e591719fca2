-- One text answers a query.
use Rattle.std.proofs.Common.{◌≡◌, ℕ, suc, ◌++◌, codes, decimal, List, [], ◌∷◌, length, Bool, true, false, cond, Option, Some, None}
use Rattle.std.proofs.Common.{MatchOption, nat_eq, inl, inr, refl, sym, ◌∙◌, ap, arith}
use Rattle.std.specs.List.{All, find, flat_map}
use Rattle.std.specs.Cmp.Lexicographic.{pointwise}
use Rattle.tpoint.specs.Fraction.{Fraction}
use Rattle.tpoint.specs.Moving.{Position, Sequence, IsValid}
use Rattle.tpoint.specs.Extents.{Span, Area, Shares}
use Rattle.tpoint.specs.declared.point.Point.{Point}
use Rattle.predicates.specs.Predicates.{SomeInside, EverOf, AlwaysOf}
use Rattle.predicates.specs.declared.questions.Tri.{Tri}
use Rattle.predicates.specs.declared.questions.Tri.TheVariants.{Yes, No, None as NoValue}
use Rattle.mfjson.specs.Pairs.{Pairwise}
use Rattle.mfjson.specs.Document.{WritesWhen, WritesWhere, IsCanonical}
use Rattle.mfjson.specs.declared.feature.Feature.{Feature}
use Rattle.mfjson.proofs.OneText.{datetime_one}
use Rattle.store.specs.Answers.{SaysValue, SaysCut, SaysEver, SaysAlways, SaysDocument, SaysWithin, AreIdsOf, OfKnown, IsAnswer, tri_text}
use Rattle.store.specs.Answers.{id_text}
use Rattle.store.specs.Features.{AreValid, feature_of}
use Rattle.store.specs.declared.query.Query.{Query}
use Rattle.store.specs.declared.query.Query.TheVariants.{At, Cut, Ever, Always, Within, Get, Count}
use Rattle.store.proofs.OneValue.{value_one}
use Rattle.store.proofs.OneCut.{cut_one}

-- ---- ever and always have one answer
shared : (R : Fraction → Position → Type 0) (p : Span) (r : Area) → SomeInside R p r → Shares R p
shared R p r h = record { t = h.t; v = h.v; in_period = h.in_period; value = h.value }

ever_tri : (R : Fraction → Position → Type 0) (p : Span) (r : Area) (a b : Tri) → EverOf R p r a → EverOf R p r b → a ≡ b
ever_tri R p r Yes Yes h k = refl
ever_tri R p r Yes No h k = absurd (k.1 h)
ever_tri R p r Yes NoValue h k = absurd (k (shared R p r h))
ever_tri R p r No Yes h k = absurd (h.1 k)
ever_tri R p r No No h k = refl
ever_tri R p r No NoValue h k = absurd (k h.0)
ever_tri R p r NoValue Yes h k = absurd (h (shared R p r k))
ever_tri R p r NoValue No h k = absurd (h k.0)
ever_tri R p r NoValue NoValue h k = refl

always_tri : (R : Fraction → Position → Type 0) (p : Span) (r : Area) (a b : Tri) → AlwaysOf R p r a → AlwaysOf R p r b → a ≡ b
always_tri R p r Yes Yes h k = refl
always_tri R p r Yes No h k = absurd (k.1 h.1)
always_tri R p r Yes NoValue h k = absurd (k h.0)
always_tri R p r No Yes h k = absurd (h.1 k.1)
always_tri R p r No No h k = refl
always_tri R p r No NoValue h k = absurd (k h.0)
always_tri R p r NoValue Yes h k = absurd (h k.0)
always_tri R p r NoValue No h k = absurd (h k.0)
always_tri R p r NoValue NoValue h k = refl

ever_one : (s : Sequence) (p : Span) (r : Area) (a b : List ℕ) → SaysEver s p r a → SaysEver s p r b → a ≡ b
ever_one s p r a b h k =
    h.spelling
    ∙ ap (λ (t : Tri). codes "ever " ++ tri_text t) (ever_tri _ p r h.answer k.answer h.is_ever k.is_ever)
    ∙ sym k.spelling

always_one : (s : Sequence) (p : Span) (r : Area) (a b : List ℕ) → SaysAlways s p r a → SaysAlways s p r b → a ≡ b
always_one s p r a b h k =
    h.spelling
    ∙ ap (λ (t : Tri). codes "always " ++ tri_text t) (always_tri _ p r h.answer k.answer h.is_always k.is_always)
    ∙ sym k.spelling

-- ---- a document is one
when_one : (d e : _) (p : Point) → WritesWhen d p → WritesWhen e p → d ≡ e
when_one d e p a b = let texts = datetime_one a.text b.text p.t a.is_datetime b.is_datetime in cc

where_one : (d e : _) (p : Point) → WritesWhere d p → WritesWhere e p → d ≡ e
where_one d e p a b = a ∙ sym b

each_one : {D : Type 0} (R : D → Point → Type 0) → ((d e : D) (p : Point) → R d p → R e p → d ≡ e) →
    (ds es : List D) (ps : List Point) → Pairwise R ds ps → Pairwise R es ps → ds ≡ es
each_one {D} R one [] [] [] h k = refl
each_one {D} R one [] [] (p ∷ ps) h k = absurd h
each_one {D} R one [] (e ∷ es) [] h k = absurd k
each_one {D} R one [] (e ∷ es) (p ∷ ps) h k = absurd h
each_one {D} R one (d ∷ ds) es [] h k = absurd h
each_one {D} R one (d ∷ ds) [] (p ∷ ps) h k = absurd k
each_one {D} R one (d ∷ ds) (e ∷ es) (p ∷ ps) h k =
    ap (λ (x : D). x ∷ ds) (one d e p h.0 k.0) ∙ ap (λ (xs : List D). e ∷ xs) (each_one R one ds es ps h.1 k.1)

canonical_one : (f : Feature) (a b : List ℕ) → IsCanonical a f → IsCanonical b f → a ≡ b
canonical_one f a b h k =
    let times = each_one WritesWhen when_one h.times k.times f.seq.points h.when k.when in
    let places = each_one WritesWhere where_one h.places k.places f.seq.points h.where_to k.where_to in
    h.compact ∙ rw (times, places) (sym k.compact)

document_one : (f : Feature) (a b : List ℕ) → SaysDocument f a → SaysDocument f b → a ≡ b
document_one f a b h k =
    h.spelling
    ∙ ap (λ (t : List ℕ). codes "get " ++ t) (canonical_one f h.document k.document h.canonical k.canonical)
    ∙ sym k.spelling

-- ---- the ids of some of the features are one list
ids_one : (P : Feature → Type 0) (fs : List Feature) (a b : List (List ℕ)) → AreIdsOf P fs a → AreIdsOf P fs b → a ≡ b
ids_one P [] a b h k = h ∙ sym k
ids_one P (f ∷ fs) a b (inl h) (inl k) =
    h.2 ∙ ap (λ (l : List (List ℕ)). f.id ∷ l) (ids_one P fs h.0 k.0 h.3 k.3) ∙ sym k.2
ids_one P (f ∷ fs) a b (inl h) (inr k) = absurd (k.0 h.1)
ids_one P (f ∷ fs) a b (inr h) (inl k) = absurd (h.0 k.1)
ids_one P (f ∷ fs) a b (inr h) (inr k) = ids_one P fs a b h.1 k.1

within_one : (fs : List Feature) (p : Span) (r : Area) (a b : List ℕ) → SaysWithin fs p r a → SaysWithin fs p r b → a ≡ b
within_one fs p r a b h k =
    h.spelling
    ∙ ap (λ (ids : List (List ℕ)). codes "within " ++ decimal (length ids) ++ flat_map id_text ids)
    (ids_one _ fs h.ids k.ids h.are k.are)
    ∙ sym k.spelling

-- ---- the feature that is looked for is one of the features
abbrev pub IsValidFound : Option Feature → Type 0
IsValidFound found = MatchOption found (Unit {0}) (λ f. IsValid f.seq)

pub valid_found : (test : Feature → Bool) (fs : List Feature) → All (λ (f : Feature). IsValid f.seq) fs → IsValidFound (find test fs)
valid_found test [] each = tt
valid_found test (f ∷ fs) each =
    elim (test f) as (λ b. IsValidFound (cond b (Some f) (find test fs))) [
      | true ↦ each 0 f (omega arith)
      | false ↦ valid_found test fs (λ k d h. each (suc k) d (omega arith))
    ]

known_one : (found : Option Feature) → IsValidFound found → (Says : Feature → List ℕ → Type 0) →
    ((f : Feature) → IsValid f.seq → (a b : List ℕ) → Says f a → Says f b → a ≡ b) → (a b : List ℕ) →
    OfKnown found (λ f. Says f a) a → OfKnown found (λ f. Says f b) b → a ≡ b
known_one None valid Says one a b h k = h ∙ sym k
known_one (Some f) valid Says one a b h k = one f valid a b h k

-- ---- the answers
module _ (fs : List Feature) (valid : AreValid fs) where
  of_known : (id : List ℕ) (Says : Feature → List ℕ → Type 0) →
      ((f : Feature) → IsValid f.seq → (a b : List ℕ) → Says f a → Says f b → a ≡ b) → (a b : List ℕ) →
      OfKnown (feature_of fs id) (λ f. Says f a) a → OfKnown (feature_of fs id) (λ f. Says f b) b → a ≡ b
  of_known id Says one =
      known_one (feature_of fs id) (valid_found (λ f. pointwise nat_eq f.id id) fs valid.each) Says one

  pub answer_one : (q : Query) (a b : List ℕ) → IsAnswer fs q a → IsAnswer fs q b → a ≡ b
  answer_one (At id t) a b h k = of_known id (λ f text. SaysValue f.seq t text) (λ f v. value_one f.seq v t) a b h k
  answer_one (Cut id p) a b h k = of_known id (λ f text. SaysCut f.seq p text) (λ f v. cut_one f.seq v p) a b h k
  answer_one (Ever id p r) a b h k = of_known id (λ f text. SaysEver f.seq p r text) (λ f v. ever_one f.seq p r) a b h k
  answer_one (Always id p r) a b h k =
      of_known id (λ f text. SaysAlways f.seq p r text) (λ f v. always_one f.seq p r) a b h k
  answer_one (Within p r) a b h k = within_one fs p r a b h k
  answer_one (Get id) a b h k = of_known id SaysDocument (λ f v. document_one f) a b h k
  answer_one Count a b h k = h ∙ sym k
