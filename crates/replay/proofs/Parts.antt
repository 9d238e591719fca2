-- Texts that are handed on in parts.
use Rattle.std.proofs.Common.{◌≡◌, ℕ, List, [], ◌∷◌, ◌++◌, append_assoc, append-nil, refl, sym, ◌∙◌, ap, subst}
use Rattle.std.specs.List.{FoldsTo, concat}
use Rattle.std.proofs.lemmas.List.Folds.{concat-append}
use Rattle.replay.specs.Parts.{Adds, TakesInParts}

module _ {K : Type 0} (takes : K → List ℕ → K → Type 0) where
  -- nothing is handed on
  pub takes_none : (k : K) → TakesInParts takes k [] k
  takes_none k = record { parts = []; taken = refl; joined = refl }

  -- one part is
  pub takes_one : (old new : K) (text : List ℕ) → takes old text new → TakesInParts takes old text new
  takes_one old new text took = record { parts = text ∷ []; taken = (new, took, refl); joined = append-nil text }

  folds_on : (old between new : K) (xs ys : List (List ℕ)) → FoldsTo takes old xs between → FoldsTo takes between ys new
      → FoldsTo takes old (xs ++ ys) new
  folds_on old between new [] ys first more = subst (λ (k : K). FoldsTo takes k ys new) (sym first) more
  folds_on old between new (x ∷ xs) ys (next, took, first) more = (next, took, folds_on next between new xs ys first more)

  -- one text is, and another behind it
  pub takes_more : (old between new : K) (first second : List ℕ) → TakesInParts takes old first between
      → TakesInParts takes between second new → TakesInParts takes old (first ++ second) new
  takes_more old between new first second a b = record {
    parts = a.parts ++ b.parts;
    taken = folds_on old between new a.parts b.parts a.taken b.taken;
    joined = concat-append a.parts b.parts ∙ ap (λ (l : List ℕ). l ++ concat b.parts) a.joined ∙ ap (λ (l : List ℕ). first ++ l) b.joined;
  }

  -- ---- behind what waits
  -- nothing is added
  pub adds_none : (k : K) (waits : List ℕ) → Adds takes k waits [] k waits
  adds_none k waits = record { handed = []; parts = takes_none k; joined = sym (append-nil waits) }

  -- there is room for the text
  pub adds_kept : (k : K) (waited text waits : List ℕ) → waits ≡ waited ++ text → Adds takes k waited text k waits
  adds_kept k waited text waits kept = record { handed = []; parts = takes_none k; joined = kept }

  -- there is, once what waited is handed on
  pub adds_behind : (old new : K) (waited text empty waits : List ℕ) → TakesInParts takes old waited new → empty ≡ []
      → waits ≡ empty ++ text → Adds takes old waited text new waits
  adds_behind old new waited text empty waits handed none kept = record {
    handed = waited;
    parts = handed;
    joined = ap (λ (l : List ℕ). waited ++ l) (kept ∙ ap (λ (l : List ℕ). l ++ text) none);
  }

  -- there isn't
  pub adds_through : (old between new : K) (waited text waits : List ℕ) → TakesInParts takes old waited between → waits ≡ []
      → takes between text new → Adds takes old waited text new waits
  adds_through old between new waited text waits handed none took = record {
    handed = waited ++ text;
    parts = takes_more old between new waited text handed (takes_one between new text took);
    joined = ap (λ (l : List ℕ). (waited ++ text) ++ l) none ∙ append-nil (waited ++ text);
  }

  -- one text more
  pub adds_more : (old between new : K) (waited first wait second waits : List ℕ) → Adds takes old waited first between wait
      → Adds takes between wait second new waits → Adds takes old waited (first ++ second) new waits
  adds_more old between new waited first wait second waits a b = record {
    handed = a.handed ++ b.handed;
    parts = takes_more old between new a.handed b.handed a.parts b.parts;
    joined = append_assoc a.handed b.handed waits ∙ ap (λ (l : List ℕ). a.handed ++ l) b.joined
        ∙ sym (append_assoc a.handed wait second) ∙ ap (λ (l : List ℕ). l ++ second) a.joined ∙ append_assoc waited first second;
  }

  -- the same text
  pub adds_same : (old new : K) (waited text other waits : List ℕ) → Adds takes old waited text new waits → text ≡ other
      → Adds takes old waited other new waits
  adds_same old new waited text other waits adds same = subst (λ (t : List ℕ). Adds takes old waited t new waits) same adds

  -- what waits in the end is handed on
  pub takes_all : (old between new : K) (waited text waits : List ℕ) → Adds takes old waited text between waits
      → TakesInParts takes between waits new → TakesInParts takes old (waited ++ text) new
  takes_all old between new waited text waits adds rest =
      subst (λ (t : List ℕ). TakesInParts takes old t new) adds.joined (takes_more old between new adds.handed waits adds.parts rest)

  -- ---- in a loop
  -- how far a text has come: some of it is added, and the rest isn't
  pub record AddsSoFar (old : K) (waited whole rest : List ℕ) (new : K) (waits : List ℕ) : Type 0 where
    pub text : List ℕ
    pub adds : Adds takes old waited text new waits
    pub joined : text ++ rest ≡ whole

  pub so_far_none : (k : K) (waits whole : List ℕ) → AddsSoFar k waits whole whole k waits
  so_far_none k waits whole = record { text = []; adds = adds_none k waits; joined = refl }

  -- one line more
  pub so_far_more : (old between new : K) (waited wait waits whole rest line more : List ℕ)
      → AddsSoFar old waited whole rest between wait → Adds takes between wait line new waits → rest ≡ line ++ more
      → AddsSoFar old waited whole more new waits
  so_far_more old between new waited wait waits whole rest line more so_far adds next = record {
    text = so_far.text ++ line;
    adds = adds_more old between new waited so_far.text wait line waits so_far.adds adds;
    joined = append_assoc so_far.text line more ∙ ap (λ (l : List ℕ). so_far.text ++ l) (sym next) ∙ so_far.joined;
  }

  -- none is left
  pub so_far_all : (old new : K) (waited waits whole rest : List ℕ) → AddsSoFar old waited whole rest new waits → rest ≡ []
      → Adds takes old waited whole new waits
  so_far_all old new waited waits whole rest so_far none =
      adds_same old new waited so_far.text whole waits so_far.adds
      (sym (append-nil so_far.text) ∙ ap (λ (l : List ℕ). so_far.text ++ l) (sym none) ∙ so_far.joined)

-- ---- handed to what holds them all
module _ {K : Type 0} (items : K → List ℕ) where
  abbrev Grows : K → List ℕ → K → Type 0
  Grows old bytes new = items new ≡ items old ++ bytes

  grown : (old new : K) (parts : List (List ℕ)) → FoldsTo Grows old parts new → items new ≡ items old ++ concat parts
  grown old new [] same = ap items (sym same) ∙ sym (append-nil (items old))
  grown old new (x ∷ xs) (next, took, rest) =
      grown next new xs rest ∙ ap (λ (l : List ℕ). l ++ concat xs) took ∙ append_assoc (items old) x (concat xs)

  -- it has grown by the text
  pub grows_by : (old new : K) (text : List ℕ) → TakesInParts Grows old text new → items new ≡ items old ++ text
  grows_by old new text takes = grown old new takes.parts takes.taken ∙ ap (λ (l : List ℕ). items old ++ l) takes.joined
