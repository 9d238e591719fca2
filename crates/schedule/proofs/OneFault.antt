-- The first fault of a file is one.
use Rattle.std.proofs.Common.{◌≡◌, ℕ, cond, nat_eq, suc, List, [], ◌∷◌, ◌++◌, refl, sym, ◌∙◌, ap, subst, arith}
use Rattle.std.specs.List.{All}
use Rattle.schedule.specs.Codes.{code_of, IsLowestFault}
use Rattle.schedule.specs.Lines.{NumberedText, lines_of}
use Rattle.schedule.specs.Schedules.{IsFaultless, LineIsReached, IsFirstFault, no_line, first_line, later_line}
use Rattle.schedule.specs.Table.{HasFault, HasFirstFault}
use Rattle.schedule.specs.declared.fault.ScheduleFault.{ScheduleFault}
use Rattle.schedule.specs.declared.fault.ScheduleFault.TheVariants.{NotPrintable, UnknownWord, NodesLine, WordCount, WordForm, Document}
use Rattle.schedule.proofs.FirstLines.{one_size}
use Rattle.schedule.proofs.NoSchedule.{heads, tails, right_faultless}

-- no two faults have one number
fault_of : ℕ → ScheduleFault
fault_of n =
    cond (nat_eq n 1) NotPrintable (cond (nat_eq n 2) UnknownWord
    (cond (nat_eq n 3) NodesLine (cond (nat_eq n 4) WordCount (cond (nat_eq n 5) WordForm Document))))

read_back : (fault : ScheduleFault) → fault_of (code_of fault) ≡ fault
unfolding fault_of
read_back NotPrintable = refl
read_back UnknownWord = refl
read_back NodesLine = refl
read_back WordCount = refl
read_back WordForm = refl
read_back Document = refl

lowest_once : (Has : ScheduleFault → Type 0) (a b : ScheduleFault) → IsLowestFault Has a → IsLowestFault Has b → a ≡ b
lowest_once Has a b la lb =
    let same : code_of a ≡ code_of b = omega (arith, la.lowest b lb.is_there, lb.lowest a la.is_there) in
    sym (read_back a) ∙ ap fault_of same ∙ read_back b

-- the first line of a list that has a fault is one
head_of : (P : NumberedText → Type 0) (x : NumberedText) (xs : List NumberedText) → All P (x ∷ xs) → P x
head_of P x xs all = all 0 x (omega arith)

tail_of : (P : NumberedText → Type 0) (x : NumberedText) (xs : List NumberedText) → All P (x ∷ xs) → All P xs
tail_of P x xs all k d h = all (suc k) d (omega arith)

one_place : (n : ℕ) (xs ys more others : List NumberedText) (x y : NumberedText) (f g : ScheduleFault)
    → xs ++ x ∷ more ≡ ys ++ y ∷ others
    → All (IsFaultless n) xs → All (IsFaultless n) ys → HasFault n x.text f → HasFault n y.text g → x ≡ y
one_place n [] [] more others x y f g e px py hx hy = heads x y more others e
one_place n [] (b ∷ ys) more others x y f g e px py hx hy =
    let same : x ≡ b = heads x b more (ys ++ y ∷ others) e in
    let none : IsFaultless n b = head_of (IsFaultless n) b ys py in
    absurd (none f (subst (λ (l : NumberedText). HasFault n l.text f) same hx))
one_place n (a ∷ xs) [] more others x y f g e px py hx hy =
    let same : y ≡ a = sym (heads a y (xs ++ x ∷ more) others e) in
    let none : IsFaultless n a = head_of (IsFaultless n) a xs px in
    absurd (none g (subst (λ (l : NumberedText). HasFault n l.text g) same hy))
one_place n (a ∷ xs) (b ∷ ys) more others x y f g e px py hx hy =
    one_place n xs ys more others x y f g (tails a b (xs ++ x ∷ more) (ys ++ y ∷ others) e)
    (tail_of (IsFaultless n) a xs px) (tail_of (IsFaultless n) b ys py) hx hy

-- a right first line has no fault
not_in_first : (bytes : List ℕ) (n : ℕ) (line first : NumberedText) (others : List NumberedText) (fault : ScheduleFault)
    → LineIsReached bytes n line → lines_of bytes ≡ first ∷ others → ¬ (HasFirstFault first.text fault)
not_in_first bytes n line first others fault reached lines has =
    let same : first ≡ reached.first = heads _ _ _ _ (sym lines ∙ reached.lines) in
    let text : first.text ≡ reached.first.text = ap (λ (l : NumberedText). l.text) same in
    right_faultless reached.first.text n reached.nodes_line fault (subst (λ (t : List ℕ). HasFirstFault t fault) text has)

none_in_lines : (bytes : List ℕ) (first : NumberedText) (others : List NumberedText) → lines_of bytes ≡ []
    → lines_of bytes ≡ first ∷ others → ⊥
none_in_lines bytes first others none some = let e = sym none ∙ some in cc

in_later : (bytes : List ℕ) (m n j k : ℕ) (x y : NumberedText) (f g : ScheduleFault) → LineIsReached bytes m x → LineIsReached bytes n y
    → j ≡ x.number → k ≡ y.number
    → IsLowestFault (HasFault m x.text) f → IsLowestFault (HasFault n y.text) g → (j ≡ k) × (f ≡ g)
in_later bytes m n j k x y f g rx ry ex ey lx ly =
    let first : ry.first ≡ rx.first = heads _ _ _ _ (sym ry.lines ∙ rx.lines) in
    let size : n ≡ m = one_size ry.first rx.first n m first ry.nodes_line rx.nodes_line in
    let others : rx.others ≡ ry.others = tails _ _ _ _ (sym rx.lines ∙ ry.lines) in
    let parts = sym rx.next.parts ∙ others ∙ ry.next.parts in
    let ly' : IsLowestFault (HasFault m y.text) g = subst (λ (q : ℕ). IsLowestFault (HasFault q y.text) g) size ly in
    let none : All (IsFaultless m) ry.next.before = subst (λ (q : ℕ). All (IsFaultless q) ry.next.before) size ry.next.faultless in
    let same : x ≡ y = one_place m rx.next.before ry.next.before rx.next.after ry.next.after x y f g parts rx.next.faultless none
    lx.is_there ly'.is_there in
    let lx' : IsLowestFault (HasFault m y.text) f = subst (λ (l : NumberedText). IsLowestFault (HasFault m l.text) f) same lx in
    (ex ∙ ap (λ (l : NumberedText). l.number) same ∙ sym ey, lowest_once (HasFault m y.text) f g lx' ly')

pub one_first_fault : (bytes : List ℕ) (j k : ℕ) (f g : ScheduleFault) → IsFirstFault bytes j f → IsFirstFault bytes k g
    → (j ≡ k) × (f ≡ g)
one_first_fault bytes j k f g (no_line a b c) (no_line a' b' c') = (b ∙ sym b', c ∙ sym c')
one_first_fault bytes j k f g (no_line a b c) (first_line first others lines at lowest) =
    absurd (none_in_lines bytes first others a lines)
one_first_fault bytes j k f g (no_line a b c) (later_line n line reached at lowest) = absurd (none_in_lines bytes _ _ a reached.lines)
one_first_fault bytes j k f g (first_line first others lines at lowest) (no_line a b c) =
    absurd (none_in_lines bytes first others a lines)
one_first_fault bytes j k f g (first_line first others lines at lowest) (first_line first' others' lines' at' lowest') =
    let same : first ≡ first' = heads _ _ _ _ (sym lines ∙ lines') in
    let moved : IsLowestFault (HasFirstFault first'.text) f = subst (λ (l : NumberedText). IsLowestFault (HasFirstFault l.text) f) same lowest in
    (at ∙ ap (λ (l : NumberedText). l.number) same ∙ sym at', lowest_once (HasFirstFault first'.text) f g moved lowest')
one_first_fault bytes j k f g (first_line first others lines at lowest) (later_line n line reached at' lowest') =
    absurd (not_in_first bytes n line first others f reached lines lowest.is_there)
one_first_fault bytes j k f g (later_line n line reached at lowest) (no_line a b c) = absurd (none_in_lines bytes _ _ a reached.lines)
one_first_fault bytes j k f g (later_line n line reached at lowest) (first_line first others lines at' lowest') =
    absurd (not_in_first bytes n line first others g reached lines lowest'.is_there)
one_first_fault bytes j k f g (later_line m x rx ex lx) (later_line n y ry ey ly) = in_later bytes m n j k x y f g rx ry ex ey lx ly
