-- The requests that wait, once some are handed on or replied to.
use Rattle.std.proofs.Common.{◌≡◌, ◌∙◌, ℕ, zero, suc, ◌+◌, ◌-◌, ◌<◌, ◌≤◌, Bool, true, false, ◌&&◌, ◌||◌, not, cond, List, [], ◌∷◌, ◌++◌, length, take, get_or, All, Some, refl, sym, ap, subst, arith}
use Rattle.std.specs.List.{filter}
use Rattle.std.proofs.lemmas.List.{map-append}
use Rattle.std.proofs.lemmas.List.Elements.{All-cons, All-head, All-nil, All-tail}
use Rattle.std.proofs.lemmas.List.Folds.{list_any_more}
use Rattle.world_model.specs.declared.lists.Replied.{Replied}
use Rattle.serving.specs.declared.hand_on.TheConstants.{HAND_ON_PERIOD}
use Rattle.serving.specs.Requesting.{HandsOnFirst, IsDue, NoneIsDue, RequestState, as_new, is_replied, is_request, as_new_all, unreplied}

-- ---- those to which there is a reply
twice : {X : Type 0} (p s t : X → Bool) → ((x : X) → t x ≡ (p x && s x)) → (xs : List X) → filter t xs ≡ filter s (filter p xs)
twice {X} p s t both [] = refl
twice {X} p s t both (x ∷ xs) =
    let rest = twice p s t both xs in
    let by : (a : Bool) → p x ≡ a → filter t (x ∷ xs) ≡ filter s (cond a (x ∷ filter p xs) (filter p xs)) = λ a.
    elim a as (λ (b : Bool). p x ≡ b → filter t (x ∷ xs) ≡ filter s (cond b (x ∷ filter p xs) (filter p xs))) [
      | true ↦ λ e. let same : t x ≡ s x = both x ∙ ap (λ (b : Bool). b && s x) e in
          ap (λ (b : Bool). cond b (x ∷ filter t xs) (filter t xs)) same
          ∙ ap (λ (ys : List X). cond (s x) (x ∷ ys) ys) rest
      | false ↦ λ e. let gone : t x ≡ false = both x ∙ ap (λ (b : Bool). b && s x) e in
          ap (λ (b : Bool). cond b (x ∷ filter t xs) (filter t xs)) gone ∙ rest
    ] in
    by (p x) refl

neither : (a b : Bool) → not (a || b) ≡ (not a && not b)
neither true b = refl
neither false b = refl

pub unreplied_none : (requests : List RequestState) → requests ≡ unreplied [] requests
unreplied_none [] = refl
unreplied_none (x ∷ xs) = ap (λ (ys : List RequestState). x ∷ ys) (unreplied_none xs)

pub unreplied_more : (replies : List Replied) (i : ℕ) (replied : Replied) (number : ℕ) (olds now news : List RequestState)
    → i < length replies → replied ≡ get_or replies i replied → number ≡ replied.number → now ≡ unreplied (take i replies) olds
    → news ≡ filter (λ request. not (is_request replied.client number request)) now → news ≡ unreplied (take (i + 1) replies) olds
unreplied_more replies i replied number olds now news lt at numbered was is =
    let test : RequestState → Bool = λ request. not (is_request replied.client replied.number request) in
    let one : (request : RequestState) → not (is_replied (take (i + 1) replies) request)
    ≡ (not (is_replied (take i replies) request) && test request) = λ request.
    ap not (list_any_more (λ (r : Replied). is_request r.client r.number request) replies i replied lt
    ∙ ap (λ (r : Replied). is_replied (take i replies) request || is_request r.client r.number request) (sym at))
    ∙ neither (is_replied (take i replies) request) (is_request replied.client replied.number request) in
    is ∙ ap (λ (n : ℕ). filter (λ request. not (is_request replied.client n request)) now) numbered ∙ ap (filter test) was
    ∙ sym (twice (λ request. not (is_replied (take i replies) request)) test
    (λ request. not (is_replied (take (i + 1) replies) request)) one olds)

-- ---- those that are due
not_beyond : {X : Type 0} (P : X → Type 0) (before after : List X) (x : X) (k : ℕ) → All (λ y. ¬ P y) (take k (before ++ x ∷ after))
    → P x → k ≤ length before
not_beyond P before after x zero h is = omega arith
not_beyond P [] after x (suc k) h is = absurd (All-head (λ y. ¬ P y) x (take k after) h is)
not_beyond P (y ∷ before) after x (suc k) h is =
    omega (arith, not_beyond P before after x k (All-tail (λ z. ¬ P z) y (take k (before ++ x ∷ after)) h) is)

holds_to : {X : Type 0} (P : X → Type 0) (before after : List X) (x : X) (k : ℕ) → k ≤ length before → All P before → P x
    → All P (take (suc k) (before ++ x ∷ after))
holds_to P [] after x zero le h is = All-cons P x [] is (All-nil P)
holds_to P [] after x (suc k) le h is = absurd (omega (arith, le))
holds_to P (y ∷ before) after x zero le h is = All-cons P y [] (All-head P y before h) (All-nil P)
holds_to P (y ∷ before) after x (suc k) le h is =
    All-cons P y (take (suc k) (before ++ x ∷ after)) (All-head P y before h)
    (holds_to P before after x k (omega (arith, le)) (All-tail P y before h) is)

-- one that is handed on now is not due
not_due_now : (now : ℕ) (request : RequestState) → ¬ IsDue now (record request { handed_on = Some now })
not_due_now now request = λ due. let long : HAND_ON_PERIOD ≤ now - now = due in absurd (omega (arith, long))

module _ (now place : ℕ) (olds news : List RequestState) (h : HandsOnFirst now place olds news) where
  pub none_due_more : (k : ℕ) → NoneIsDue now (take k olds) → NoneIsDue now (take (k + 1) news)
  none_due_more k none =
      let le : k ≤ length h.before = not_beyond (IsDue now) h.before h.after h.request k
      (subst (λ (rs : List RequestState). NoneIsDue now (take k rs)) h.was none) h.due in
      let all : NoneIsDue now (take (suc k) (h.before ++ (record h.request { handed_on = Some now }) ∷ h.after)) =
      holds_to (λ request. ¬ IsDue now request) h.before h.after (record h.request { handed_on = Some now }) k le h.waits
      (not_due_now now h.request) in
      let more : suc k ≡ k + 1 = omega arith in
      subst (λ (n : ℕ). NoneIsDue now (take n news)) more
      (subst (λ (rs : List RequestState). NoneIsDue now (take (suc k) rs)) (sym h.is) all)

  pub unmarked_same : as_new_all news ≡ as_new_all olds
  unmarked_same =
      let f : RequestState → RequestState = as_new in
      let marked : RequestState = record h.request { handed_on = Some now } in
      ap as_new_all h.is ∙ map-append f h.before (marked ∷ h.after) ∙ sym (map-append f h.before (h.request ∷ h.after))
      ∙ sym (ap as_new_all h.was)

pub none_due_first : (now : ℕ) (requests : List RequestState) → NoneIsDue now (take 0 requests)
none_due_first now requests = All-nil (λ request. ¬ IsDue now request)
