-- Requests in a map, by name.
use Rattle.std.proofs.Common.{◌≡◌, ℕ, ◌+◌, ◌<◌, ◌≤◌, arith, ◌==◌, ◌&&◌, ◌||◌, List, [], ◌∷◌, ◌++◌, Bool, true, false, cond, Option, Some}
use Rattle.std.proofs.Common.{None, is_some, refl, ap, ◌∙◌}
use Rattle.std.specs.List.{list_any}
use Rattle.std.specs.Map.{lookup, remove_entry, values_of}
use Rattle.sessions.specs.declared.submission.Submission.{Submission}
use Rattle.proposer.specs.declared.name.Name.{Name}
use Rattle.proposer.specs.Requests.{is_of, without, AreNamed}

-- what an option holds after a test
found_first : {A : Type 0} (b t : Bool) (x : A) (o : Option A) → is_some o ≡ t → is_some (cond b (Some x) o) ≡ (b || t)
found_first true t x o e = refl
found_first false t x o e = e

-- the values after a test on the first of them
removed_first : (b : Bool) (r : Submission) (k : Name) (es : List (Name × Submission)) (next rest : List Submission) → values_of es ≡ next
    → (es' : List (Name × Submission)) → values_of es' ≡ rest → values_of (cond b es ((k, r) ∷ es')) ≡ cond b next (r ∷ rest)
removed_first true r k es next rest e es' e' = e
removed_first false r k es next rest e es' e' = ap (λ l. r ∷ l) e'

named_rest : (b : Bool) (e : Name × Submission) (es rest : List (Name × Submission)) → AreNamed (e ∷ es) → AreNamed rest
    → AreNamed (cond b es (e ∷ rest))
named_rest true e es rest h r = h.1
named_rest false e es rest h r = (h.0, r)

module _ (client number : ℕ) where
  abbrev pub is_named : Name → Bool
  is_named k = client == k.client && number == k.number

  -- a request is known by its name
  by_name : (k : Name) (r : Submission) → (k.client ≡ r.client) × (k.number ≡ r.number) → is_named k ≡ is_of client number r
  by_name k r e = (λ i. client == e.0 i && number == e.1 i)

  pub found_by_name : (es : List (Name × Submission)) → AreNamed es
      → is_some (lookup is_named es) ≡ list_any (is_of client number) (values_of es)
  found_by_name [] h = refl
  found_by_name (e ∷ es) h =
      found_first (is_named e.0) (list_any (is_of client number) (values_of es)) e.1 (lookup is_named es) (found_by_name es h.1)
      ∙ ap (λ b. b || list_any (is_of client number) (values_of es)) (by_name e.0 e.1 h.0)

  pub removed_by_name : (es : List (Name × Submission)) → AreNamed es
      → values_of (remove_entry is_named es) ≡ without client number (values_of es)
  removed_by_name [] h = refl
  removed_by_name (e ∷ es) h =
      removed_first (is_named e.0) e.1 e.0 es (values_of es) (without client number (values_of es)) refl
      (remove_entry is_named es) (removed_by_name es h.1)
      ∙ ap (λ b. cond b (values_of es) (e.1 ∷ without client number (values_of es))) (by_name e.0 e.1 h.0)

  pub named_without : (es : List (Name × Submission)) → AreNamed es → AreNamed (remove_entry is_named es)
  named_without [] h = tt
  named_without (e ∷ es) h = named_rest (is_named e.0) e es (remove_entry is_named es) h (named_without es h.1)

-- a request more
pub named_push : (es : List (Name × Submission)) (k : Name) (r : Submission) → AreNamed es → k.client ≡ r.client → k.number ≡ r.number
    → AreNamed (es ++ (k, r) ∷ [])
named_push [] k r h c n = ((c, n), tt)
named_push (e ∷ es) k r h c n = (h.0, named_push es k r h.1 c n)

pub values_push : (es : List (Name × Submission)) (k : Name) (r : Submission) → values_of (es ++ (k, r) ∷ []) ≡ values_of es ++ r ∷ []
values_push [] k r = refl
values_push (e ∷ es) k r = ap (λ l. e.1 ∷ l) (values_push es k r)

-- where there was a place for it
pub one_more : {A : Type 0} (o : Option A) (before after : ℕ) → after ≡ before + cond (is_some o) 0 1 → before < 64 → after ≤ 64
one_more None before after e place = omega (arith, e, place)
one_more (Some x) before after e place = omega (arith, e, place)

-- none there
pub none_found : {A : Type 0} (o : Option A) → is_some o ≡ false → o ≡ None
none_found None e = refl
none_found (Some x) e = absurd (cc)
