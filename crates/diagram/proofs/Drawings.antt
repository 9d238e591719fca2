-- Parts of a picture, one behind another.
use Rattle.std.proofs.Common.{◌≡◌, ◌∙◌, ℕ, List, [], ◌++◌, Result, OnOk, sym, subst, ap, append_assoc, append-nil}
use Rattle.std.proofs.lemmas.Result.{on_ok_weaker}
use Rattle.picture.specs.Elements.{closed, opened, words_text}
use Rattle.diagram.specs.Drawn.{Adds, group}

pub one_part : (IsSuch : List ℕ → Type 0) (part old new : List ℕ) → IsSuch part → new ≡ old ++ part → Adds IsSuch old new
one_part IsSuch part old new such is = record { part = part; such = such; is = is }

pub adds : {T E : Type 0} (r : Result T E) (IsSuch : List ℕ → Type 0) (part old new : List ℕ) → IsSuch part → OnOk r (new ≡ old ++ part)
    → OnOk r (Adds IsSuch old new)
adds r IsSuch part old new such h = on_ok_weaker r (one_part IsSuch part old new such) h

pub adds_nothing : (IsSuch : List ℕ → Type 0) (old : List ℕ) → IsSuch [] → Adds IsSuch old old
adds_nothing IsSuch old such = one_part IsSuch [] old old such (sym (append-nil old))

-- two parts are one
pub behind : (old a b now new : List ℕ) → now ≡ old ++ a → new ≡ now ++ b → new ≡ old ++ (a ++ b)
behind old a b now new one two = two ∙ ap (λ (t : List ℕ). t ++ b) one ∙ append_assoc old a b

pub adds_two : {T E : Type 0} (r : Result T E) (IsSuch : List ℕ → Type 0) (a b old now new : List ℕ) → IsSuch (a ++ b) → now ≡ old ++ a
    → OnOk r (new ≡ now ++ b) → OnOk r (Adds IsSuch old new)
adds_two r IsSuch a b old now new such one two =
    adds r IsSuch (a ++ b) old new such (on_ok_weaker r (behind old a b now new one) two)

-- a group, from where it is opened to where it is closed
pub grouped : (class title inside old a b new : List ℕ) → a ≡ old ++ opened class title → b ≡ a ++ inside → new ≡ b ++ closed
    → new ≡ old ++ group class title inside
grouped class title inside old a b new begin within close =
    behind old (opened class title) (inside ++ closed) a new begin (behind a inside closed b new within close)

pub puts_group : {T E : Type 0} (r : Result T E) (class title first second old a b c new : List ℕ) → a ≡ old ++ opened class title
    → b ≡ a ++ first → c ≡ b ++ second → OnOk r (new ≡ c ++ closed) → OnOk r (new ≡ old ++ group class title (first ++ second))
puts_group r class title first second old a b c new begin one two close =
    on_ok_weaker r (grouped class title (first ++ second) old a c new begin (behind a first second b c one two)) close

-- words, by the place and the text that the code has
pub words_so : (class : List ℕ) (x y u v : ℕ) (text word old new : List ℕ) → x ≡ u → y ≡ v → text ≡ word
    → new ≡ old ++ words_text class (record { x = x; y = y }) text → new ≡ old ++ words_text class (record { x = u; y = v }) word
words_so class x y u v text word old new right down said is =
    subst (λ (t : List ℕ). new ≡ old ++ words_text class (record { x = u; y = v }) t) said
    (subst (λ (n : ℕ). new ≡ old ++ words_text class (record { x = u; y = n }) text) down
    (subst (λ (n : ℕ). new ≡ old ++ words_text class (record { x = n; y = y }) text) right is))
