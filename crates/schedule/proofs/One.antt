-- No bytes spell two schedules.
use Rattle.std.proofs.Common.{◌≡◌, ℕ, ◌≤◌, ◌^◌, List, [], ◌∷◌, refl, sym, ◌∙◌, ap, subst, arith}
use Rattle.schedule.specs.Lines.{NumberedText}
use Rattle.schedule.specs.Schedules.{Plan, SpellEach, IsScheduleOf}
use Rattle.schedule.specs.Words.{words_of}
use Rattle.schedule.specs.declared.schedule.ScheduleLine.{ScheduleLine}
use Rattle.schedule.proofs.FirstLines.{one_size, small_size}
use Rattle.schedule.proofs.NoSchedule.{heads, tails}
use Rattle.schedule.proofs.OneAction.{one_action}

-- lines spell one list
one_line : (a b : ScheduleLine) → a.number ≡ b.number → a.action ≡ b.action → a ≡ b
one_line a b number action = λ i. record { number = number i; action = action i }

one_list : (n : ℕ) (texts : List NumberedText) (a b : List ScheduleLine) → n ≤ 2 ^ 64 → SpellEach n texts a → SpellEach n texts b
    → a ≡ b
one_list n [] [] [] small ea eb = refl
one_list n [] [] (y ∷ ys) small ea eb = absurd eb
one_list n [] (x ∷ xs) ys small ea eb = absurd ea
one_list n (t ∷ ts) [] ys small ea eb = absurd ea
one_list n (t ∷ ts) (x ∷ xs) [] small ea eb = absurd eb
one_list n (t ∷ ts) (x ∷ xs) (y ∷ ys) small ea eb =
    let first : x ≡ y = one_line x y (sym ea.0 ∙ eb.0) (one_action n (words_of t.text) x.action y.action small ea.1.words eb.1.words) in
    let rest : xs ≡ ys = one_list n ts xs ys small ea.2 eb.2 in
    cc

one_plan : (a b : Plan) → a.first ≡ b.first → a.nodes ≡ b.nodes → a.lines ≡ b.lines → a ≡ b
one_plan a b first nodes lines = λ i. record { first = first i; nodes = nodes i; lines = lines i }

pub one_schedule : (bytes : List ℕ) (a b : Plan) → IsScheduleOf bytes a → IsScheduleOf bytes b → a ≡ b
one_schedule bytes a b sa sb =
    let others : sb.others ≡ sa.others = tails _ _ _ _ (sym sb.lines ∙ sa.lines) in
    let first : sb.first ≡ sa.first = heads _ _ _ _ (sym sb.lines ∙ sa.lines) in
    let size : b.nodes ≡ a.nodes = one_size sb.first sa.first b.nodes a.nodes first sb.nodes_line sa.nodes_line in
    let each : SpellEach a.nodes sa.others b.lines =
    subst (λ (m : ℕ). SpellEach m sa.others b.lines) size
    (subst (λ (ts : List NumberedText). SpellEach b.nodes ts b.lines) others sb.spelled) in
    let small : a.nodes ≤ 2 ^ 64 = omega (arith, small_size a.nodes sa.nodes_line.size) in
    let number : a.first ≡ b.first = sa.first_number ∙ sym (ap (λ (l : NumberedText). l.number) first) ∙ sym sb.first_number in
    one_plan a b number (sym size) (one_list a.nodes sa.others a.lines b.lines small sa.spelled each)
