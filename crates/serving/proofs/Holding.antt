-- What a process keeps of what waits, and what it adds.
use Rattle.std.proofs.Common.{◌≡◌, ℕ, List, [], ◌∷◌, ◌++◌, ◌⊎◌, Bool, not, All, Contains, inl, inr, refl, ap}
use Rattle.std.specs.List.{filter}
use Rattle.std.proofs.lemmas.List.Elements.{All-contains, All-contains_itself, All-filter, All-push, All-same, All-weaker}
use Rattle.node_model.specs.Nodes.{NodeState}
use Rattle.serving.specs.declared.claims.Claim.{Claim}
use Rattle.serving.specs.declared.waiting.Due.{Due}
use Rattle.serving.specs.declared.waiting.Question.{Question}
use Rattle.serving.specs.Claiming.{is_for}
use Rattle.serving.specs.Outgoing.{KeepsLess}
use Rattle.serving.specs.Requesting.{RequestState}
use Rattle.serving.specs.Waitings.{is_asked_by, is_told_to}
use Rattle.serving.specs.Serving.{ServerState}
use Rattle.serving.specs.Tapes.{Talk}
use Rattle.serving.specs.Turns.{HasAsked, HasQueried, MayBeDue, MayBeHandedOn}

-- each element was there, or is so
abbrev pub EachOld : {A : Type 0} → List A → (A → Type 0) → List A → Type 0
EachOld olds IsSo news = All (λ x. Contains olds x ⊎ IsSo x) news

pub each_kept : {A : Type 0} (IsSo : A → Type 0) (olds news : List A) → All (Contains olds) news → EachOld olds IsSo news
each_kept IsSo olds news h = All-weaker (Contains olds) (λ x. Contains olds x ⊎ IsSo x) (λ x k. inl k) news h

pub each_same : {A : Type 0} (IsSo : A → Type 0) (olds news : List A) → news ≡ olds → EachOld olds IsSo news
each_same IsSo olds news e =
    each_kept IsSo olds news (All-same (Contains olds) news olds e (All-contains_itself olds))

pub each_pushed : {A : Type 0} (IsSo : A → Type 0) (olds news : List A) (x : A) → IsSo x → news ≡ olds ++ x ∷ []
    → EachOld olds IsSo news
each_pushed {A} IsSo olds news x so e =
    let P : A → Type 0 = λ y. Contains olds y ⊎ IsSo y in
    All-same P news (olds ++ x ∷ []) e (All-push P olds x (each_same IsSo olds olds refl) (inr so))

-- so what holds of the old ones, and of each that is so, holds of all
pub each_holds : {A : Type 0} (P IsSo Q : A → Type 0) (olds news : List A) → ((x : A) → P x → Q x) → ((x : A) → IsSo x → Q x)
    → All P olds → EachOld olds IsSo news → All Q news
each_holds {A} P IsSo Q olds news f g all h =
    let one : (x : A) → Contains olds x ⊎ IsSo x → Q x =
    λ x k. elim k [ inl c ↦ f x (All-contains P olds x all c) | inr so ↦ g x so ] in
    All-weaker (λ x. Contains olds x ⊎ IsSo x) Q one news h

pub filter_kept : {A : Type 0} (test : A → Bool) (xs : List A) → All (Contains xs) (filter test xs)
filter_kept test xs = All-filter test (Contains xs) xs (All-contains_itself xs)

-- ---- of a process
-- its node is so
abbrev pub IsNow : {S : Type 0} → ServerState S → NodeState S → Type 0
IsNow s n = n ≡ s.life.node

-- what waits at the new one waited at the old, or was asked in what was said
pub record Holds {S : Type 0} (talk : List Talk) (old new : ServerState S) : Type 0 where
  pub claims : EachOld old.waiting.claims (HasAsked talk) new.waiting.claims
  pub questions : EachOld old.waiting.questions (HasQueried talk) new.waiting.questions
  pub due : EachOld old.waiting.due (MayBeDue (IsNow old) talk) new.waiting.due
  pub requests : EachOld old.requests (MayBeHandedOn talk) new.requests

pub holds_less : {S : Type 0} (talk : List Talk) (old new : ServerState S) → KeepsLess old new → Holds talk old new
holds_less talk old new h = record {
  claims = each_kept (HasAsked talk) old.waiting.claims new.waiting.claims h.claims;
  questions = each_kept (HasQueried talk) old.waiting.questions new.waiting.questions h.questions;
  due = each_kept (MayBeDue (IsNow old) talk) old.waiting.due new.waiting.due h.due;
  requests = each_kept (MayBeHandedOn talk) old.requests new.requests h.requests;
}

pub holds_same : {S : Type 0} (talk : List Talk) (old new : ServerState S) → new.waiting ≡ old.waiting → new.requests ≡ old.requests
    → Holds talk old new
holds_same talk old new waiting requests = record {
  claims = each_same (HasAsked talk) old.waiting.claims new.waiting.claims (ap (λ w. w.claims) waiting);
  questions = each_same (HasQueried talk) old.waiting.questions new.waiting.questions (ap (λ w. w.questions) waiting);
  due = each_same (MayBeDue (IsNow old) talk) old.waiting.due new.waiting.due (ap (λ w. w.due) waiting);
  requests = each_same (MayBeHandedOn talk) old.requests new.requests requests;
}

-- ---- less and less
pub less_itself : {S : Type 0} (s : ServerState S) → KeepsLess s s
less_itself s = record {
  claims = All-contains_itself s.waiting.claims;
  questions = All-contains_itself s.waiting.questions;
  due = All-contains_itself s.waiting.due;
  requests = All-contains_itself s.requests;
}

all_kept : {A : Type 0} (xs ys zs : List A) → All (Contains xs) ys → All (Contains ys) zs → All (Contains xs) zs
all_kept xs ys zs h k = All-weaker (Contains ys) (Contains xs) (λ y c. All-contains (Contains xs) ys y h c) zs k

pub less_then : {S : Type 0} (a b c : ServerState S) → KeepsLess a b → KeepsLess b c → KeepsLess a c
less_then a b c h k = record {
  claims = all_kept a.waiting.claims b.waiting.claims c.waiting.claims h.claims k.claims;
  questions = all_kept a.waiting.questions b.waiting.questions c.waiting.questions h.questions k.questions;
  due = all_kept a.waiting.due b.waiting.due c.waiting.due h.due k.due;
  requests = all_kept a.requests b.requests c.requests h.requests k.requests;
}

-- ---- what is added
pub holds_due : {S : Type 0} (talk : List Talk) (old new : ServerState S) (what : Due) → MayBeDue (IsNow old) talk what
    → new.waiting ≡ record old.waiting { due = old.waiting.due ++ what ∷ [] } → new.requests ≡ old.requests → Holds talk old new
holds_due talk old new what may waiting requests = record {
  claims = each_same (HasAsked talk) old.waiting.claims new.waiting.claims (ap (λ w. w.claims) waiting);
  questions = each_same (HasQueried talk) old.waiting.questions new.waiting.questions (ap (λ w. w.questions) waiting);
  due = each_pushed (MayBeDue (IsNow old) talk) old.waiting.due new.waiting.due what may (ap (λ w. w.due) waiting);
  requests = each_same (MayBeHandedOn talk) old.requests new.requests requests;
}

pub holds_claim : {S : Type 0} (talk : List Talk) (old new : ServerState S) (claim : Claim) → HasAsked talk claim
    → new.waiting ≡ record old.waiting { claims = old.waiting.claims ++ claim ∷ [] }
    → EachOld old.requests (MayBeHandedOn talk) new.requests → Holds talk old new
holds_claim talk old new claim asked waiting requests = record {
  claims = each_pushed (HasAsked talk) old.waiting.claims new.waiting.claims claim asked (ap (λ w. w.claims) waiting);
  questions = each_same (HasQueried talk) old.waiting.questions new.waiting.questions (ap (λ w. w.questions) waiting);
  due = each_same (MayBeDue (IsNow old) talk) old.waiting.due new.waiting.due (ap (λ w. w.due) waiting);
  requests = requests;
}

-- ---- what is taken out
filtered_kept : {A : Type 0} (test : A → Bool) (olds news : List A) → news ≡ filter test olds → All (Contains olds) news
filtered_kept test olds news e = All-same (Contains olds) news (filter test olds) e (filter_kept test olds)

same_kept : {A : Type 0} (olds news : List A) → news ≡ olds → All (Contains olds) news
same_kept olds news e = All-same (Contains olds) news olds e (All-contains_itself olds)

-- a connection is gone
pub less_forgetting : {S : Type 0} (old new : ServerState S) (claim : Claim → Bool) (question : Question → Bool) (due : Due → Bool)
    → new.waiting ≡ record {
      claims = filter claim old.waiting.claims;
      questions = filter question old.waiting.questions;
      due = filter due old.waiting.due;
    } → new.requests ≡ old.requests → KeepsLess old new
less_forgetting old new claim question due waiting requests = record {
  claims = filtered_kept claim old.waiting.claims new.waiting.claims (ap (λ w. w.claims) waiting);
  questions = filtered_kept question old.waiting.questions new.waiting.questions (ap (λ w. w.questions) waiting);
  due = filtered_kept due old.waiting.due new.waiting.due (ap (λ w. w.due) waiting);
  requests = same_kept old.requests new.requests requests;
}

pub holds_forgetting : {S : Type 0} (talk : List Talk) (old new : ServerState S) (connection : ℕ)
    → new.waiting ≡ record old.waiting {
      claims = filter (λ claim. not (is_for connection claim)) old.waiting.claims;
      questions = filter (λ question. not (is_asked_by connection question)) old.waiting.questions;
      due = filter (λ due. not (is_told_to connection due)) old.waiting.due;
    } → new.requests ≡ old.requests → Holds talk old new
holds_forgetting talk old new connection waiting requests =
    holds_less talk old new
    (less_forgetting old new (λ claim. not (is_for connection claim)) (λ question. not (is_asked_by connection question))
    (λ due. not (is_told_to connection due)) waiting requests)

-- a reply was told
pub less_settled : {S : Type 0} (old new : ServerState S) (claim : Claim → Bool) (request : RequestState → Bool)
    → new.waiting ≡ record old.waiting { claims = filter claim old.waiting.claims } → new.requests ≡ filter request old.requests
    → KeepsLess old new
less_settled old new claim request waiting requests = record {
  claims = filtered_kept claim old.waiting.claims new.waiting.claims (ap (λ w. w.claims) waiting);
  questions = same_kept old.waiting.questions new.waiting.questions (ap (λ w. w.questions) waiting);
  due = same_kept old.waiting.due new.waiting.due (ap (λ w. w.due) waiting);
  requests = filtered_kept request old.requests new.requests requests;
}
