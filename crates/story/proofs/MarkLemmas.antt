-- Marks, entry by entry.
use Rattle.std.proofs.Common.{◌≡◌, ℕ, ◌+◌, ◌<◌, List, [], ◌∷◌, ◌++◌, length, map, take, get_or, sym, subst}
use Rattle.std.proofs.lemmas.List.{take_more}
use Rattle.story.specs.Happenings.{step_at}
use Rattle.story.specs.Marking.{AreMarked, Marking, entry_marks, marking, next}
use Rattle.story.specs.declared.entries.Entry.{Entry}
use Rattle.story.specs.declared.ledger.Ledger.{Ledger}
use Rattle.story.specs.declared.marks.Marker.{Marker}

-- the next entry has its marks behind those before it
pub next_marked : (l : Ledger) (es : List Entry) (i : ℕ) (e : Entry) (old new : Marker)
    → i < length es → e ≡ get_or es i e → AreMarked l (take i es) old.step (map marking old.marks.items)
    → new.step ≡ step_at old.step e → map marking new.marks.items ≡ map marking old.marks.items ++ entry_marks l old.step e
    → AreMarked l (take (i + 1) es) new.step (map marking new.marks.items)
next_marked l es i e old new below read marked steps marks =
    let here : AreMarked l (take i es ++ e ∷ []) (step_at old.step e) (map marking old.marks.items ++ entry_marks l old.step e) =
    next (take i es) e old.step (map marking old.marks.items) marked in
    let more : take (i + 1) es ≡ take i es ++ e ∷ [] =
    subst (λ (x : Entry). take (i + 1) es ≡ take i es ++ x ∷ []) (sym read) (take_more es i e below) in
    subst (λ (ms : List Marking). AreMarked l (take (i + 1) es) new.step ms) (sym marks)
    (subst (λ (n : ℕ). AreMarked l (take (i + 1) es) n (map marking old.marks.items ++ entry_marks l old.step e)) (sym steps)
    (subst (λ (xs : List Entry). AreMarked l xs (step_at old.step e) (map marking old.marks.items ++ entry_marks l old.step e)) (sym more) here))
