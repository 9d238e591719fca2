-- Texts that grow.
use Rattle.std.proofs.Common.{◌≡◌, ℕ, List, [], ◌++◌, refl, sym, ap, ◌∙◌, append_assoc, append-nil}
use Rattle.picture.specs.Growing.{Grows, Has}

pub grows_by : (old more new : List ℕ) → new ≡ old ++ more → Grows old new
grows_by old more new is = record { more = more; is = is }

pub grows_on : (a b c : List ℕ) → Grows a b → Grows b c → Grows a c
grows_on a b c one two = record {
  more = one.more ++ two.more;
  is = two.is ∙ ap (λ (t : List ℕ). t ++ two.more) one.is ∙ append_assoc a one.more two.more;
}

pub grows_not : (a : List ℕ) → Grows a a
grows_not a = record { more = []; is = sym (append-nil a) }

-- what was added last stands there
pub has_last : (old part new : List ℕ) → new ≡ old ++ part → Has part new
has_last old part new is = record { before = old; behind = []; is = is ∙ sym (append-nil (old ++ part)) }

-- and still does when more comes
pub has_still : (part a b : List ℕ) → Has part a → Grows a b → Has part b
has_still part a b has grown = record {
  before = has.before;
  behind = has.behind ++ grown.more;
  is = grown.is ∙ ap (λ (t : List ℕ). t ++ grown.more) has.is ∙ append_assoc (has.before ++ part) has.behind grown.more;
}
