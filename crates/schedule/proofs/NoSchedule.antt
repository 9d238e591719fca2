-- Bytes with a faulty line spell no schedule.
use Rattle.std.proofs.Common.{◌≡◌, ℕ, true, nat_le, ◌&&◌, List, [], ◌∷◌, ◌++◌, codes, refl, sym, ◌∙◌, ap, subst, inl, inr, arith}
use Rattle.std.specs.List.{All, list_all}
use Rattle.std.proofs.lemmas.List.Sums.{AllPass-from_list_all}
use Rattle.std.proofs.lemmas.Bool.Decides.{nat_tests}
use Rattle.schedule.specs.Lines.{NumberedText}
use Rattle.schedule.specs.Schedules.{Plan, SpellEach, IsScheduleOf, IsFirstFault, no_line, first_line, later_line, IsNumberReached, IsParseRefusal, IsNoSchedule}
use Rattle.schedule.specs.Spelling.{Spells}
use Rattle.schedule.specs.Table.{HasFirstFault, HasItsWords, IsNodesLine, IsPrintable, line_of, places}
use Rattle.schedule.specs.Words.{words_of}
use Rattle.schedule.specs.declared.action.Action.{Action}
use Rattle.schedule.specs.declared.keyword.Keyword.TheVariants.{Nodes}
use Rattle.schedule.specs.Causes.{WhyUnread}
use Rattle.schedule.specs.declared.replay_fault.ReplayCause.{ReplayCause}
use Rattle.schedule.specs.declared.replay_fault.ReplayCause.TheVariants.{Schedule, World}
use Rattle.schedule.specs.declared.replay_fault.ReplayFault.{ReplayFault}
use Rattle.schedule.specs.declared.fault.ScheduleFault.{ScheduleFault}
use Rattle.schedule.specs.declared.fault.ScheduleFault.TheVariants.{NotPrintable, UnknownWord, NodesLine, WordCount, WordForm, Document}
use Rattle.schedule.specs.declared.schedule.ScheduleLine.{ScheduleLine}
use Rattle.schedule.proofs.Faults.{prints_throughout}
use Rattle.schedule.proofs.FirstLines.{IsRightText, one_size, right_text}
use Rattle.schedule.proofs.Spelled.{spelled_faultless}

-- two lists have one first and one rest
pub heads : {X : Type 0} (x y : X) (xs ys : List X) → x ∷ xs ≡ y ∷ ys → x ≡ y
heads x y xs ys e = cc

pub tails : {X : Type 0} (x y : X) (xs ys : List X) → x ∷ xs ≡ y ∷ ys → xs ≡ ys
tails x y xs ys e = cc

-- a right first line prints, and its word is known
test_prints : (byte : ℕ) → (nat_le 0x20 byte && nat_le byte 0x7E) ≡ true → IsPrintable byte
test_prints byte h = grind (arith, nat_tests)

all_print : (text : List ℕ) → list_all (λ byte. nat_le 0x20 byte && nat_le byte 0x7E) text ≡ true → All IsPrintable text
all_print text passes k d h =
    test_prints _ (AllPass-from_list_all (λ byte. nat_le 0x20 byte && nat_le byte 0x7E) text passes k d h)

right_prints : (text : List ℕ) → IsRightText text → All IsPrintable text
right_prints text (inl three) = rw three (all_print (codes "nodes 3") refl)
right_prints text (inr (inl five)) = rw five (all_print (codes "nodes 5") refl)
right_prints text (inr (inr seven)) = rw seven (all_print (codes "nodes 7") refl)

right_known : (text : List ℕ) → IsRightText text → HasItsWords (places (line_of Nodes)) (words_of text)
right_known text (inl three) = rw three (refl, tt)
right_known text (inr (inl five)) = rw five (refl, tt)
right_known text (inr (inr seven)) = rw seven (refl, tt)

pub right_faultless : (text : List ℕ) (n : ℕ) → IsNodesLine text n → (fault : ScheduleFault) → ¬ (HasFirstFault text fault)
right_faultless text n line NotPrintable h = prints_throughout text (right_prints text (right_text text n line)) h
right_faultless text n line UnknownWord h = h (line_of Nodes) (right_known text (right_text text n line))
right_faultless text n line NodesLine h = h n line
right_faultless text n line WordCount h = h
right_faultless text n line WordForm h = h
right_faultless text n line Document h = h

-- a line among spelled ones spells an action
spelled_at : (n : ℕ) (before after : List NumberedText) (line : NumberedText) (read : List ScheduleLine)
    → SpellEach n (before ++ line ∷ after) read → (action : Action) × Spells n line.text action
spelled_at n [] after line [] each = absurd each
spelled_at n [] after line (r ∷ rs) each = (r.action, each.1)
spelled_at n (t ∷ ts) after line [] each = absurd each
spelled_at n (t ∷ ts) after line (r ∷ rs) each = spelled_at n ts after line rs each.2

pub faulty_is_none : (bytes : List ℕ) (number : ℕ) (fault : ScheduleFault) (plan : Plan) → IsFirstFault bytes number fault
    → ¬ (IsScheduleOf bytes plan)
faulty_is_none bytes number fault plan (no_line none is_one is_nodes) s = let e = sym none ∙ s.lines in cc
faulty_is_none bytes number fault plan (first_line first others lines at lowest) s =
    let same : first ≡ s.first = heads _ _ _ _ (sym lines ∙ s.lines) in
    let text : first.text ≡ s.first.text = ap (λ (l : NumberedText). l.text) same in
    right_faultless s.first.text plan.nodes s.nodes_line fault
    (subst (λ (t : List ℕ). HasFirstFault t fault) text lowest.is_there)
faulty_is_none bytes number fault plan (later_line n line reached at lowest) s =
    let others : s.others ≡ reached.others = tails _ _ _ _ (sym s.lines ∙ reached.lines) in
    let first : s.first ≡ reached.first = heads _ _ _ _ (sym s.lines ∙ reached.lines) in
    let size : plan.nodes ≡ n = one_size s.first reached.first plan.nodes n first s.nodes_line reached.nodes_line in
    let each : SpellEach n reached.others plan.lines =
    subst (λ (m : ℕ). SpellEach m reached.others plan.lines) size
    (subst (λ (ts : List NumberedText). SpellEach plan.nodes ts plan.lines) others s.spelled) in
    let each_part = subst (λ (ts : List NumberedText). SpellEach n ts plan.lines) reached.next.parts each in
    let spelled = spelled_at n reached.next.before reached.next.after line plan.lines each_part in
    spelled_faultless n line.text spelled.0 spelled.1 fault lowest.is_there

-- a refusal that tells a faulty line tells that there is no schedule
none_for : (bytes : List ℕ) (line : ℕ) (cause : ReplayCause) → WhyUnread (IsFirstFault bytes line) (IsNumberReached bytes line) cause
    → IsNoSchedule bytes cause
none_for bytes line (Schedule fault) r = λ plan s. faulty_is_none bytes line fault plan r s
none_for bytes line (World fault) r = tt

pub refused_is_none : (bytes : List ℕ) (fault : ReplayFault) → IsParseRefusal bytes fault → IsNoSchedule bytes fault.cause
refused_is_none bytes fault r = none_for bytes fault.line fault.cause r
