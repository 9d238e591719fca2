-- What more lines ask for.
use Rattle.std.proofs.Common.{◌≡◌, ℕ, ◌+◌, true, false, arith, List, [], ◌∷◌, ◌++◌, take, refl, sym, ap, ◌∙◌}
use Rattle.std.specs.List.{flat_map}
use Rattle.std.proofs.lemmas.List.{flat_map_more}
use Rattle.std.proofs.lemmas.Bool.{le-leb, lt-leb}
use Rattle.sessions.specs.Requests.{IsShort}
use Rattle.store.specs.declared.op.Op.{Op}
use Rattle.store.specs.declared.op.Op.TheVariants.{Put, Append, Remove}
use Rattle.audit.specs.Audits.{is_short}
use Rattle.schedule.specs.declared.schedule.ScheduleLine.{ScheduleLine}

pub demands_more : {X : Type 0} (f : ScheduleLine → List X) (lines : List ScheduleLine) (i : ℕ) (line : ScheduleLine) (was now : List X)
    → take (i + 1) lines ≡ take i lines ++ line ∷ [] → was ≡ flat_map f (take i lines) → now ≡ was ++ f line
    → now ≡ flat_map f (take (i + 1) lines)
demands_more {X = X} f lines i line was now more was_is now_is =
    now_is ∙ (ap (λ (ys : List X). ys ++ f line) was_is
    ∙ (flat_map_more f [] (take i lines) line ∙ ap (λ (ls : List ScheduleLine). flat_map f ls) (sym more)))

pub short_is_taken : (op : Op) → IsShort op → is_short op ≡ true
short_is_taken (Put id seq) short = le-leb _ _ short
short_is_taken (Append addition) short = refl
short_is_taken (Remove id) short = refl

pub long_is_not : (op : Op) → ¬ (IsShort op) → is_short op ≡ false
long_is_not (Put id seq) long = lt-leb _ _ (omega (arith, long))
long_is_not (Append addition) long = absurd (long tt)
long_is_not (Remove id) long = absurd (long tt)
