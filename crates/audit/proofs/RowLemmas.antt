-- Rows that say nothing, and lines by their rows.
use Rattle.std.proofs.Common.{◌≡◌, ℕ, ◌+◌, ◌<◌, Bool, List, ◌∷◌, sym, ◌∙◌, subst, arith, decimal}
use Rattle.schedule.specs.Numbers.{WritesNumber}
use Rattle.schedule.specs.Words.{words_of}
use Rattle.verdicts.specs.declared.lines.Name.{Name}
use Rattle.verdicts.specs.declared.lines.Told.TheVariants.{Reply, Answer, Restore, Other, Foreign}
use Rattle.synod.specs.declared.slot.TheConstants.{SLOTS}
use Rattle.audit.specs.Kinds.{kind_text}
use Rattle.audit.specs.Rows.{Says, IsRow, IsReadAs, IsLearn, IsReply, IsAnswer, IsNodeNumber}
use Rattle.audit.specs.declared.kind.Kind.{Kind}
use Rattle.audit.specs.declared.kind.Kind.TheVariants as kind
use Rattle.audit.specs.declared.line.Line.{Line}
use Rattle.audit.specs.declared.line.Line.TheVariants as line
use Rattle.audit.proofs.KindLemmas.{one_kind}

pub writes : (limit : ℕ) (word : List ℕ) (value : ℕ) → word ≡ decimal value → value < limit → WritesNumber 0 limit word value
writes limit word value text below = record { from = omega arith; below = below; text = text }

-- ---- rows that say nothing
pub no_learn : (nodes : ℕ) (is_last : Bool) (words : List (List ℕ)) → ((slot : ℕ) (name : Name) → ¬ (IsLearn nodes words slot name))
    → (other : Line) → ¬ (Says nodes is_last kind.Learn words other)
no_learn nodes is_last words none (line.Learn slot name) says = none slot name says
no_learn nodes is_last words none (line.Told said) says = says

pub no_reply : (nodes : ℕ) (is_last : Bool) (words : List (List ℕ)) → ((client number code : ℕ) → ¬ (IsReply nodes words client number code))
    → (other : Line) → ¬ (Says nodes is_last kind.Reply words other)
no_reply nodes is_last words none (line.Told (Reply client number code)) says = none client number code says
no_reply nodes is_last words none (line.Told (Answer node position text)) says = says
no_reply nodes is_last words none (line.Told (Restore position)) says = says
no_reply nodes is_last words none (line.Told Other) says = says
no_reply nodes is_last words none (line.Told Foreign) says = says
no_reply nodes is_last words none (line.Learn slot name) says = says

pub no_answer : (nodes : ℕ) (is_last : Bool) (words : List (List ℕ)) → ((node position : ℕ) (text : List ℕ) → ¬ (IsAnswer nodes words node position text))
    → (other : Line) → ¬ (Says nodes is_last kind.Answer words other)
no_answer nodes is_last words none (line.Told (Answer node position text)) says = none node position text.items says
no_answer nodes is_last words none (line.Told (Reply client number code)) says = says
no_answer nodes is_last words none (line.Told (Restore position)) says = says
no_answer nodes is_last words none (line.Told Other) says = says
no_answer nodes is_last words none (line.Told Foreign) says = says
no_answer nodes is_last words none (line.Learn slot name) says = says

pub no_restore : (nodes : ℕ) (is_last : Bool) (words : List (List ℕ)) → ((position : ℕ) → ¬ (IsNodeNumber nodes (SLOTS + 1) words position))
    → (other : Line) → ¬ (Says nodes is_last kind.Restore words other)
no_restore nodes is_last words none (line.Told (Restore position)) says = none position says
no_restore nodes is_last words none (line.Told (Reply client number code)) says = says
no_restore nodes is_last words none (line.Told (Answer node position text)) says = says
no_restore nodes is_last words none (line.Told Other) says = says
no_restore nodes is_last words none (line.Told Foreign) says = says
no_restore nodes is_last words none (line.Learn slot name) says = says

-- a line that passes says nothing else
pub no_refusal : (nodes : ℕ) (is_last : Bool) (words : List (List ℕ)) → ¬ (Says nodes is_last kind.Refuse words (line.Told Other))
    → (other : Line) → ¬ (Says nodes is_last kind.Refuse words other)
no_refusal nodes is_last words none (line.Told Other) says = none says
no_refusal nodes is_last words none (line.Told (Reply client number code)) says = says
no_refusal nodes is_last words none (line.Told (Answer node position text)) says = says
no_refusal nodes is_last words none (line.Told (Restore position)) says = says
no_refusal nodes is_last words none (line.Told Foreign) says = says
no_refusal nodes is_last words none (line.Learn slot name) says = says

pub no_stop : (nodes : ℕ) (is_last : Bool) (words : List (List ℕ)) → ¬ (Says nodes is_last kind.Stop words (line.Told Other))
    → (other : Line) → ¬ (Says nodes is_last kind.Stop words other)
no_stop nodes is_last words none (line.Told Other) says = none says
no_stop nodes is_last words none (line.Told (Reply client number code)) says = says
no_stop nodes is_last words none (line.Told (Answer node position text)) says = says
no_stop nodes is_last words none (line.Told (Restore position)) says = says
no_stop nodes is_last words none (line.Told Foreign) says = says
no_stop nodes is_last words none (line.Learn slot name) says = says

pub no_round : (nodes : ℕ) (is_last : Bool) (words : List (List ℕ)) → ¬ (Says nodes is_last kind.Round words (line.Told Other))
    → (other : Line) → ¬ (Says nodes is_last kind.Round words other)
no_round nodes is_last words none (line.Told Other) says = none says
no_round nodes is_last words none (line.Told (Reply client number code)) says = says
no_round nodes is_last words none (line.Told (Answer node position text)) says = says
no_round nodes is_last words none (line.Told (Restore position)) says = says
no_round nodes is_last words none (line.Told Foreign) says = says
no_round nodes is_last words none (line.Learn slot name) says = says

pub no_count : (nodes : ℕ) (is_last : Bool) (words : List (List ℕ)) → ¬ (Says nodes is_last kind.Strangers words (line.Told Other))
    → (other : Line) → ¬ (Says nodes is_last kind.Strangers words other)
no_count nodes is_last words none (line.Told Other) says = none says
no_count nodes is_last words none (line.Told (Reply client number code)) says = says
no_count nodes is_last words none (line.Told (Answer node position text)) says = says
no_count nodes is_last words none (line.Told (Restore position)) says = says
no_count nodes is_last words none (line.Told Foreign) says = says
no_count nodes is_last words none (line.Learn slot name) says = says

-- ---- lines
-- the words of a line say nothing else
same_kind : (nodes : ℕ) (is_last : Bool) (of other_kind : Kind) (words other_words : List (List ℕ)) (other : Line)
    → kind_text of ∷ words ≡ kind_text other_kind ∷ other_words → Says nodes is_last other_kind other_words other
    → Says nodes is_last of words other
same_kind nodes is_last of other_kind words other_words other e says =
    let texts : kind_text of ≡ kind_text other_kind = cc in
    let rows : other_words ≡ words = cc in
    let kinds = sym (one_kind of other_kind texts) in
    subst (λ (w : List (List ℕ)). Says nodes is_last of w other) rows (subst (λ (k : Kind). Says nodes is_last k other_words other) kinds says)

pub read_row : (nodes : ℕ) (is_last : Bool) (text : List ℕ) (of : Kind) (others : List (List ℕ)) (said : Line)
    → words_of text ≡ kind_text of ∷ others → IsRow nodes is_last of others said → IsReadAs nodes is_last text said
read_row nodes is_last text of others (line.Learn slot name) words says = record { kind = of; others = others; words = words; says = says }
read_row nodes is_last text of others (line.Told (Reply client number code)) words says =
    record { kind = of; others = others; words = words; says = says }
read_row nodes is_last text of others (line.Told (Answer node position answer)) words says =
    record { kind = of; others = others; words = words; says = says }
read_row nodes is_last text of others (line.Told (Restore position)) words says =
    record { kind = of; others = others; words = words; says = says }
read_row nodes is_last text of others (line.Told Other) words says = record { kind = of; others = others; words = words; says = says }
read_row nodes is_last text of others (line.Told Foreign) words none =
    λ other spells. none other (same_kind nodes is_last of spells.kind others spells.others other (sym words ∙ spells.words) spells.says)
