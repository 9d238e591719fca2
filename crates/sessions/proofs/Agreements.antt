-- A reply over a list is the reply over each list that agrees with it so far.
use Rattle.std.proofs.Common.{◌≡◌, ℕ, zero, suc, ◌+◌, ◌-◌, ◌<◌, ◌≤◌, inl, inr, List, Bool, true, false, slice_get, refl, sym, ap, ◌∙◌}
use Rattle.std.proofs.Common.{subst, arith}
use Rattle.store.specs.Operations.{reply, effect}
use Rattle.store.specs.Replies.{reply_code}
use Rattle.sessions.specs.declared.submission.Submission.{Submission}
use Rattle.sessions.specs.Meaning.{Database, HasCounted, IsNext, LabellingIsLawful, Execution, IsReply, RepliesAt}
use Rattle.sessions.specs.declared.command.Command.{Command}
use Rattle.sessions.proofs.Counting.{counted_or_not}
use Rattle.sessions.proofs.Executions.{executed}

-- two lists that have the same commands below a place
abbrev pub AgreeBelow : List Command → List Command → ℕ → Type 0
AgreeBelow l k n = (i : ℕ) → i < n → slice_get l i ≡ slice_get k i

same_tests : (x y : Bool) → (x ≡ true → y ≡ true) → (y ≡ true → x ≡ true) → x ≡ y
same_tests true y f g = sym (f refl)
same_tests false true f g = g refl
same_tests false false f g = refl

-- ---- the same places count
abbrev counted_in : (l k : List Command) (p q : ℕ → Bool) (below client number : ℕ) → AgreeBelow l k below
    → ((i : ℕ) → i < below → p i ≡ q i) → HasCounted l p below client number → HasCounted k q below client number
counted_in l k p q below client number agree same c = record {
  place = c.place;
  earlier = c.earlier;
  counted = sym (same c.place c.earlier) ∙ c.counted;
  request = c.request;
  there = sym (agree c.place c.earlier) ∙ c.there;
  of_client = c.of_client;
  of_number = c.of_number;
}

next_in : (l k : List Command) (p q : ℕ → Bool) (i : ℕ) → AgreeBelow l k (suc i) → ((j : ℕ) → j < i → p j ≡ q j)
    → IsNext l p i → IsNext k q i
next_in l k p q i agree same n =
    let before : AgreeBelow l k i = λ j h. agree j (omega (arith, h)) in
    let back : AgreeBelow k l i = λ j h. sym (before j h) in
    record {
      request = n.request;
      there = sym (agree i (omega arith)) ∙ n.there;
      once = λ c. n.once (counted_in k l q p i n.request.client n.request.number back (λ j h. sym (same j h)) c);
      in_turn = elim n.in_turn [
        | inl first ↦ inl first
        | inr follows ↦ inr (counted_in l k p q i n.request.client (n.request.number - 1) before same follows)
      ];
    }

same_labels : (l k : List Command) (p q : ℕ → Bool) → LabellingIsLawful l p → LabellingIsLawful k q → (n : ℕ) → AgreeBelow l k n
    → (i : ℕ) → i < n → p i ≡ q i
same_labels l k p q f g zero agree i h = absurd (omega (arith, h))
same_labels l k p q f g (suc n) agree i h =
    let same : (j : ℕ) → j < i → p j ≡ q j =
    λ j below. same_labels l k p q f g n (λ m o. agree m (omega (arith, o))) j (omega (arith, h, below)) in
    let here : AgreeBelow l k (suc i) = λ j below. agree j (omega (arith, h, below)) in
    same_tests (p i) (q i) (λ e. (g i).1 (next_in l k p q i here same ((f i).0 e)))
    (λ e. (f i).1 (next_in k l q p i (λ j below. sym (here j below)) (λ j below. sym (same j below)) ((g i).0 e)))

-- ---- over the same databases
module _ (l k : List Command) (n : ℕ) (agree : AgreeBelow l k n) (e : Execution l) (f : Execution k) where
  same_counts : (i : ℕ) → i < n → e.counts i ≡ f.counts i
  same_counts = same_labels l k e.counts f.counts e.lawful f.lawful n agree

  next_database : (i : ℕ) → i < n → e.before i ≡ f.before i → e.before (i + 1) ≡ f.before (i + 1)
  next_database i h same = elim (counted_or_not (e.counts i)) [
    | inl counted ↦
        let next : IsNext l e.counts i = (e.lawful i).0 counted in
        e.executes i next.request counted next.there
        ∙ ap (λ (d : Database). effect d next.request.op) same
        ∙ sym (f.executes i next.request (sym (same_counts i h) ∙ counted) (sym (agree i h) ∙ next.there))
    | inr passed ↦ e.passes i passed ∙ same ∙ sym (f.passes i (sym (same_counts i h) ∙ passed))
  ]

  same_database : (i : ℕ) → i ≤ n → e.before i ≡ f.before i
  same_database zero h = e.starts ∙ sym f.starts
  same_database (suc i) h =
      let more : i + 1 ≡ suc i = omega arith in
      subst (λ m. e.before m ≡ f.before m) more (next_database i (omega (arith, h)) (same_database i (omega (arith, h))))

  -- ---- the same is replied
  module _ (i : ℕ) (here : i < n) (r : Submission) (code : ℕ) where
    abbrev forth : (number : ℕ) → HasCounted l e.counts (i + 1) r.client number → HasCounted k f.counts (i + 1) r.client number
    forth number = counted_in l k e.counts f.counts (i + 1) r.client number (λ j h. agree j (omega (arith, here, h)))
        (λ j h. same_counts j (omega (arith, here, h)))

    abbrev back : (number : ℕ) → HasCounted k f.counts (i + 1) r.client number → HasCounted l e.counts (i + 1) r.client number
    back number = counted_in k l f.counts e.counts (i + 1) r.client number (λ j h. sym (agree j (omega (arith, here, h))))
        (λ j h. sym (same_counts j (omega (arith, here, h))))

    same_reply : IsReply e i r code → IsReply f i r code
    same_reply p = record {
      kept = λ c none.
          p.kept (back r.number c) (λ d. none (forth (r.number + 1) d))
          ∙ ap (λ (d : Database). reply_code (reply d c.request.op))
          (same_database c.place (let below : c.place < i + 1 = c.earlier in omega (arith, below, here)));
      past = λ c d. p.past (back r.number c) (back (r.number + 1) d);
      gap = λ none. p.gap (λ c. none (forth r.number c));
    }

pub replies_over : (l k : List Command) (n : ℕ) → AgreeBelow l k n → (i : ℕ) (r : Submission) (code : ℕ) → i < n → RepliesAt l i r code
    → RepliesAt k i r code
replies_over l k n agree i r code here p = record {
  there = sym (agree i here) ∙ p.there;
  execution = executed k;
  reply = same_reply l k n agree p.execution (executed k) i here r code p.reply;
}
