use Rattle.std.proofs.Common.{subst, sym}
use Rattle.std.specs.Prelude.{Result, Ok, Err, MatchResult, IsOk, refl}
use Rattle.std.specs.Str.{IsUtf8}
use Rattle.tpoint.proofs.IdTexts.{id_is_utf8}
use Rattle.tpoint.proofs.id.Id.as_str.Goals as goal

-- what is text is taken
taken : {A E : Type 0} (P : A → Type 0) (Q : E → Type 0) (text : Type 0) (r : Result A E) →
    text → MatchResult r P (λ e. ¬ text × Q e) → IsOk r
taken P Q text (Ok x) t m = refl
taken P Q text (Err e) t m = absurd (m.0 t)

pub unwrap-requires : goal.unwrap-requires
unwrap-requires c =
    let text : IsUtf8 c.bytes.result.now = subst IsUtf8 (sym c.bytes.ensures.value) (id_is_utf8 c.args.self.now c.bytes.ensures.valid) in
    taken _ _ (IsUtf8 c.bytes.result.now) c.from_utf8.result text c.from_utf8.ensures.cases
