use Rattle.std.proofs.Common.{◌≡◌, ℕ, List, [], ◌∷◌, ◌++◌, codes, decimal, Some, arith, append-nil, append_assoc}
use Rattle.std.proofs.lemmas.Fmt.{length-decimal-le}
use Rattle.std.proofs.lemmas.List.{drop_all}
use Rattle.tpoint.specs.declared.frac.Frac.{Frac}
use Rattle.tpoint.specs.FracText.{frac_text}
use Rattle.store.specs.Answers.{fix_text, value_text}
use Rattle.store.proofs.line.write_fix.Goals as goal

grouped : (n x y : List ℕ) →
    32 ∷ 124 ∷ 32 ∷ (n ++ 32 ∷ (((x ++ 32 ∷ []) ++ y) ++ [])) ≡ 32 ∷ 124 ∷ 32 ∷ ((((n ++ 32 ∷ []) ++ x) ++ 32 ∷ []) ++ y)
grouped n x y = simp (append_assoc, append-nil)

-- the bar, the instant, a blank and the position are the text of a listed instant
fix_spelled : (fix : ℕ × Frac × Frac) (n : ℕ) (all timed blank place end : List ℕ) → all ≡ codes " | " ++ timed →
    timed ≡ decimal n ++ blank → blank ≡ 32 ∷ place → place ≡ value_text (Some (fix.1, fix.2)) ++ end → end ≡ [] →
    n ≡ fix.0 → all ≡ fix_text fix
fix_spelled fix n all timed blank place end a b c d e f =
    rw (a, b, c, d, e, f) (grouped (decimal fix.0) (frac_text fix.1) (frac_text fix.2))

pub write_digits-start-requires : goal.write_digits-start-requires
write_digits-start-requires c =
    (omega (arith, length-decimal-le 20 c.milliseconds.result (omega arith) (omega arith) (omega arith)), omega arith)

pub write_text-requires-clause-room : goal.write_text-requires-clause-room
write_text-requires-clause-room c =
    omega (arith, length-decimal-le 20 c.milliseconds.result (omega arith) (omega arith) (omega arith))

pub returns-clause-written : goal.returns-clause-written
returns-clause-written c =
    fix_spelled c.args.fix.now _ _ _ _ _ _ c.write_text.ensures.written c.write_digits-start.ensures.written
    c.write_byte-start.ensures.written c.write_place-start.ensures.written
    (drop_all 147 c.args.line.now (omega arith)) c.milliseconds.ensures
