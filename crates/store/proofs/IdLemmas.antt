-- The ids of some of the features, one feature after another.
use Rattle.std.proofs.Common.{◌≡◌, ℕ, ◌+◌, ◌<◌, List, [], ◌∷◌, ◌++◌, length, take, get_or, inl, inr, refl, sym, ap, subst, ◌∙◌}
use Rattle.std.proofs.lemmas.List.{take_more}
use Rattle.mfjson.specs.declared.feature.Feature.{Feature}
use Rattle.store.specs.Answers.{AreIdsOf}

-- one feature more, of which P holds
are_ids_taken : (P : Feature → Type 0) (fs : List Feature) (ids : List (List ℕ)) (f : Feature) →
    AreIdsOf P fs ids → P f → AreIdsOf P (fs ++ f ∷ []) (ids ++ f.id ∷ [])
are_ids_taken P [] ids f none holds = inl ([], holds, ap (λ (l : List (List ℕ)). l ++ f.id ∷ []) none, refl)
are_ids_taken P (g ∷ fs) ids f (inl h) holds =
    inl (h.0 ++ f.id ∷ [], h.1, ap (λ (l : List (List ℕ)). l ++ f.id ∷ []) h.2, are_ids_taken P fs h.0 f h.3 holds)
are_ids_taken P (g ∷ fs) ids f (inr h) holds = inr (h.0, are_ids_taken P fs ids f h.1 holds)

-- one feature more, of which P doesn't hold
are_ids_left_out : (P : Feature → Type 0) (fs : List Feature) (ids : List (List ℕ)) (f : Feature) →
    AreIdsOf P fs ids → ¬ P f → AreIdsOf P (fs ++ f ∷ []) ids
are_ids_left_out P [] ids f none fails = inr (fails, none)
are_ids_left_out P (g ∷ fs) ids f (inl h) fails = inl (h.0, h.1, h.2, are_ids_left_out P fs h.0 f h.3 fails)
are_ids_left_out P (g ∷ fs) ids f (inr h) fails = inr (h.0, are_ids_left_out P fs ids f h.1 fails)

-- the same of the front of a list
pub are_ids_more : (P : Feature → Type 0) (fs : List Feature) (i : ℕ) (f : Feature) (ids : List (List ℕ)) →
    i < length fs → f ≡ get_or fs i f → AreIdsOf P (take i fs) ids → P f →
    AreIdsOf P (take (i + 1) fs) (ids ++ f.id ∷ [])
are_ids_more P fs i f ids within there are holds =
    let longer : take (i + 1) fs ≡ take i fs ++ f ∷ [] =
    take_more fs i f within ∙ ap (λ g. take i fs ++ g ∷ []) (sym there) in
    subst (λ l. AreIdsOf P l (ids ++ f.id ∷ [])) (sym longer) (are_ids_taken P (take i fs) ids f are holds)

pub are_ids_skip : (P : Feature → Type 0) (fs : List Feature) (i : ℕ) (f : Feature) (ids : List (List ℕ)) →
    i < length fs → f ≡ get_or fs i f → AreIdsOf P (take i fs) ids → ¬ P f →
    AreIdsOf P (take (i + 1) fs) ids
are_ids_skip P fs i f ids within there are fails =
    let longer : take (i + 1) fs ≡ take i fs ++ f ∷ [] =
    take_more fs i f within ∙ ap (λ g. take i fs ++ g ∷ []) (sym there) in
    subst (λ l. AreIdsOf P l ids) (sym longer) (are_ids_left_out P (take i fs) ids f are fails)
