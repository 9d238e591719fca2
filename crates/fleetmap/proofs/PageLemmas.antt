-- Marks of features on a page.
use Rattle.std.proofs.Common.{◌≡◌, ◌∙◌, ℕ, ◌+◌, ◌<◌, ◌≤◌, List, ◌++◌, length, slice_get, Option, Some, None, Result, Ok, Err, OnOk, IfOk, ◌⊎◌, refl, sym, ap, subst, below_more, append_assoc, arith}
use Rattle.std.proofs.lemmas.Option.{none-some, same_Some, slice_get_within}
use Rattle.std.proofs.lemmas.Result.{on_ok_weaker}
use Rattle.mfjson.specs.declared.feature.Feature.{Feature}
use Rattle.picture.proofs.Growth.{grows_by, grows_on, has_last, has_still}
use Rattle.picture.specs.Growing.{Grows, Has}
use Rattle.fleetmap.specs.Charts.{Square}
use Rattle.fleetmap.specs.Fleets.{AreShown}
use Rattle.fleetmap.specs.Pages.{AreMarked, IsMarked, IsMarkedAt, IsMarkOf, IsNotShown, ShowsFleet, mark_text, title_text}
use Rattle.fleetmap.specs.declared.shown.Shown.{Shown}
use Rattle.fleetmap.specs.declared.shown.Shown.TheVariants.{At}
use Rattle.fleetmap.specs.declared.spot.Spot.{Spot}

-- a feature that is shown at no spot needs no mark
pub unmarked : (fs : List Feature) (shown : List Shown) (k : ℕ) (text : List ℕ) → IsNotShown fs shown k → IsMarkedAt fs shown k text
unmarked fs shown k text none = record { marked = λ f spot at here. absurd (none f spot at here) }

-- what was marked still is when more is drawn
marked_still : (fs : List Feature) (shown : List Shown) (k : ℕ) (a b : List ℕ) → Grows a b → IsMarkedAt fs shown k a → IsMarkedAt fs shown k b
marked_still fs shown k a b grown is = record {
  marked = λ f spot at here.
      let mark = is.marked f spot at here in record { class = mark.class; mark = has_still _ a b mark.mark grown };
}

pub all_still : (fs : List Feature) (shown : List Shown) (a b : List ℕ) → Grows a b → AreMarked fs shown a → AreMarked fs shown b
all_still fs shown a b grown all = record { each = λ k. marked_still fs shown k a b grown (all.each k) }

pub all_still_ok : {T E : Type 0} (r : Result T E) (fs : List Feature) (shown : List Shown) (a b : List ℕ) → AreMarked fs shown a
    → OnOk r (Grows a b) → OnOk r (AreMarked fs shown b)
all_still_ok r fs shown a b all grown = on_ok_weaker r (λ g. all_still fs shown a b g all) grown

-- the next feature is marked, and those before it still are
pub one_more_marked : (fs : List Feature) (shown : List Shown) (n : ℕ) (a b : List ℕ) → ((k : ℕ) → k < n → IsMarkedAt fs shown k a)
    → Grows a b → IsMarkedAt fs shown n b → (k : ℕ) → k < n + 1 → IsMarkedAt fs shown k b
one_more_marked fs shown n a b before grown here =
    below_more (λ (k : ℕ). IsMarkedAt fs shown k b) n (λ k small. marked_still fs shown k a b grown (before k small)) here

-- once each place has been looked at, all are
pub all_marked : (fs : List Feature) (shown : List Shown) (n : ℕ) (text : List ℕ) → length fs ≤ n
    → ((k : ℕ) → k < n → IsMarkedAt fs shown k text) → AreMarked fs shown text
all_marked fs shown n text enough all = record {
  each = λ k. record {
    marked = λ f spot at here.
        let within = slice_get_within fs k f at in (all k (omega arith)).marked f spot at here;
  };
}

same_spot : (a b : Spot) → At a ≡ At b → a ≡ b
same_spot a b e = cc

-- the feature whose id and spot these are is marked by them
marked_by : (fs : List Feature) (shown : List Shown) (k : ℕ) (class id : List ℕ) (spot : Spot) (text : List ℕ)
    → IsMarkOf fs shown k id spot → Has (mark_text class id spot) text → IsMarkedAt fs shown k text
marked_by fs shown k class id spot text of has = record {
  marked = λ f there at here.
      let same_feature : of.0.0 ≡ f = same_Some _ _ (sym of.0.1 ∙ at) in
      let same : spot ≡ there = same_spot spot there (same_Some _ _ (sym of.1 ∙ here)) in
      let named : id ≡ f.id = of.0.2 ∙ ap (λ (g : Feature). g.id) same_feature in record {
        class = class;
        mark = subst (λ (s : Spot). Has (mark_text class f.id s) text) same
            (subst (λ (i : List ℕ). Has (mark_text class i spot) text) named has);
      };
}

pub marked_ok : {T E : Type 0} (r : Result T E) (fs : List Feature) (shown : List Shown) (k : ℕ) (class id : List ℕ) (spot : Spot)
    (old new : List ℕ) → IsMarkOf fs shown k id spot → OnOk r (new ≡ old ++ mark_text class id spot) → OnOk r (IsMarkedAt fs shown k new)
marked_ok r fs shown k class id spot old new of added =
    on_ok_weaker r (λ is. marked_by fs shown k class id spot new of (has_last old (mark_text class id spot) new is)) added

-- three parts are one
pub three_parts : (old a b c one two new : List ℕ) → one ≡ old ++ a → two ≡ one ++ b → new ≡ two ++ c → new ≡ old ++ ((a ++ b) ++ c)
three_parts old a b c one two new p q r =
    r ∙ ap (λ (t : List ℕ). t ++ c) (q ∙ ap (λ (t : List ℕ). t ++ b) p ∙ append_assoc old a b) ∙ append_assoc old (a ++ b) c

-- what the page has before its end, it has
pub shows : {T E : Type 0} (r : Result T E) (text_of : T → List ℕ) (fs : List Feature) (t : ℕ) (title : List ℕ) (chart : Square)
    (shown : List Shown) (headed a b end : List ℕ) → Has (title_text title) headed → Grows headed b → AreShown chart t fs shown
    → AreMarked fs shown a → Grows a b → IfOk r (λ x. text_of x ≡ b ++ end) → IfOk r (λ x. ShowsFleet fs t title (text_of x))
shows (Ok x) text_of fs t title chart shown headed a b end titled more are marked grown is = record {
  titled = has_still _ headed (text_of x) titled (grows_on headed b (text_of x) more (grows_by b end (text_of x) is));
  chart = chart;
  shown = shown;
  as_they_are = are;
  marked = all_still fs shown a (text_of x) (grows_on a b (text_of x) grown (grows_by b end (text_of x) is)) marked;
}
shows (Err e) text_of fs t title chart shown headed a b end titled more are marked grown is = tt
