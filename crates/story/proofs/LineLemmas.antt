-- Lines, one behind another, and what they say.
use Rattle.std.proofs.Common.{◌≡◌, ◌≢◌, ◌==◌, ◌+◌, ◌-◌, ◌^◌, ℕ, Bool, true, false, Result, OnOk, Bor, List, [], ◌∷◌, ◌++◌, All, decimal, map, if◌then◌else◌, lit<, refl, sym, ap, ◌∙◌, subst, append_assoc, append-nil}
use Rattle.std.proofs.Padding.{padded_integral_right}
use Rattle.std.proofs.lemmas.Bool.{eqb-false}
use Rattle.std.proofs.lemmas.List.Elements.{All-nil, All-cons}
use Rattle.std.proofs.lemmas.Result.{on_ok_weaker}
use Rattle.std.specs.Fmt.{format_spec, styled_decimal}
use Rattle.schedule.specs.Lines.{NumberedText, numbered}
use Rattle.story.specs.Lines.{AddsLines, IsLine, Saying, Says, in_one_line, none, next, shown, texts_in}
use Rattle.story.specs.Saying.{right_aligned}

-- ---- texts that grow
-- what was added is what is said
said_by : (said added old new : List ℕ) → added ≡ said → new ≡ old ++ added → new ≡ old ++ said
said_by said added old new e is = is ∙ ap (λ (t : List ℕ). old ++ t) e

pub said_so : {T E : Type 0} (r : Result T E) (said added old new : List ℕ) → OnOk r (new ≡ old ++ added) → added ≡ said
    → OnOk r (new ≡ old ++ said)
said_so r said added old new is e = on_ok_weaker r (said_by said added old new e) is

-- it was added in two parts
pub two_parts : (first second old now new : List ℕ) → now ≡ old ++ first → new ≡ now ++ second → new ≡ old ++ (first ++ second)
two_parts first second old now new one two =
    two ∙ ap (λ (t : List ℕ). t ++ second) one ∙ append_assoc old first second

pub in_parts : {T E : Type 0} (r : Result T E) (said first second old now new : List ℕ) → now ≡ old ++ first
    → OnOk r (new ≡ now ++ second) → first ++ second ≡ said → OnOk r (new ≡ old ++ said)
in_parts r said first second old now new one two e =
    said_so r said (first ++ second) old new (on_ok_weaker r (two_parts first second old now new one) two) e

-- a number in six columns
aligned_text : (n : ℕ) → styled_decimal (format_spec 32 3 0 6 (2 ^ 64 - 1)) n ≡ right_aligned n
aligned_text n = padded_integral_right (format_spec 32 3 0 6 (2 ^ 64 - 1)) (decimal n) refl refl (λ e. cc) (λ e. cc) (lit< tt)

pub aligned_written : (n : ℕ) (old new : List ℕ) → new ≡ old ++ styled_decimal (format_spec 32 3 0 6 (2 ^ 64 - 1)) n
    → new ≡ old ++ right_aligned n
aligned_written n old new is = is ∙ ap (λ (t : List ℕ). old ++ t) (aligned_text n)

-- ---- the lines of a file
-- the texts of texts that are numbered
texts_numbered : (n : ℕ) (texts : List (List ℕ)) → map (λ (t : NumberedText). t.text) (numbered n texts) ≡ texts
texts_numbered n [] = refl
texts_numbered n (text ∷ texts) = ap (λ (ts : List (List ℕ)). text ∷ ts) (texts_numbered (n + 1) texts)

-- no text is split off yet
pub none_split : (bytes : List ℕ) (texts : List (Bor (List ℕ))) (lines : List NumberedText) → texts ≡ [] → lines ≡ numbered 1 (texts_in bytes)
    → map (λ t. t.now) texts ++ map (λ (n : NumberedText). n.text) lines ≡ texts_in bytes
none_split bytes texts lines empty all =
    ap (λ (ts : List (Bor (List ℕ))). map (λ t. t.now) ts ++ map (λ (n : NumberedText). n.text) lines) empty
    ∙ ap (λ (ls : List NumberedText). map (λ (n : NumberedText). n.text) ls) all ∙ texts_numbered 1 (texts_in bytes)

-- ---- lines
shown_by : (c : Bool) (b : ℕ) → (b == 10) ≡ c → (if c then 32 else b) ≢ 10
shown_by true b e h = absurd (cc)
shown_by false b e h = eqb-false b 10 e h

no_feed : (b : ℕ) → shown b ≢ 10
no_feed b = shown_by (b == 10) b refl

all_shown : (text : List ℕ) → All (λ b. b ≢ 10) (in_one_line text)
all_shown [] = All-nil (λ b. b ≢ 10)
all_shown (b ∷ text) = All-cons (λ x. x ≢ 10) (shown b) (in_one_line text) (no_feed b) (all_shown text)

pub adds_line : (said : Saying) (body added old new : List ℕ) → Says said body → added ≡ body
    → new ≡ old ++ (in_one_line added ++ 10 ∷ []) → AddsLines old (said ∷ []) new
adds_line said body added old new says same is =
    let line : IsLine said (in_one_line added ++ 10 ∷ []) = record {
      text = body;
      says = says;
      is = ap (λ (t : List ℕ). in_one_line t ++ 10 ∷ []) same;
      no_other = all_shown body;
    } in
    subst (λ (t : List ℕ). AddsLines old (said ∷ []) t) (sym is) (next [] old said (in_one_line added ++ 10 ∷ []) none line)

pub lines_on : (old now : List ℕ) (sayings more : List Saying) (new : List ℕ) → AddsLines old sayings now → AddsLines now more new
    → AddsLines old (sayings ++ more) new
lines_on old now sayings _ _ one none = subst (λ (ss : List Saying). AddsLines old ss now) (sym (append-nil sayings)) one
lines_on old now sayings _ _ one (next more mid said line two is) =
    subst (λ (ss : List Saying). AddsLines old ss (mid ++ line)) (append_assoc sayings more (said ∷ []))
    (next (sayings ++ more) mid said line (lines_on old now sayings more mid one two) is)
