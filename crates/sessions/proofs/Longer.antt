-- A list that is executed, with one command more.
use Rattle.std.proofs.Common.{◌≡◌, ℕ, zero, suc, ◌+◌, ◌-◌, ◌<◌, ◌≤◌, ◌↔◌, ◌⊎◌, inl, inr, List, [], ◌∷◌, ◌++◌, length, Bool, true, false}
use Rattle.std.proofs.Common.{Option, Some, slice_get, nat_le, if◌then◌else◌, refl, sym, ap, ◌∙◌, subst, arith}
use Rattle.std.proofs.lemmas.Bool.{cases_lt}
use Rattle.std.proofs.lemmas.Bool.Decides.{nat_tests}
use Rattle.std.proofs.lemmas.List.{length_push}
use Rattle.std.proofs.lemmas.Option.{slice_get_within}
use Rattle.store.specs.Operations.{effect}
use Rattle.sessions.specs.declared.submission.Submission.{Submission}
use Rattle.sessions.specs.declared.command.Command.{Command}
use Rattle.sessions.specs.declared.command.Command.TheVariants.{Request}
use Rattle.sessions.specs.Meaning.{Database, HasCounted, IsNext, IsRequestAt, Execution}
use Rattle.sessions.proofs.Counting.{put, put_same, put_other, same_number}

-- ---- what stands in a list with one element more
pub get-push_before : {X : Type 0} (l : List X) (x : X) (i : ℕ) → i < length l →
    slice_get (l ++ x ∷ []) i ≡ slice_get l i
get-push_before [] x i h = absurd (omega (arith, h))
get-push_before (y ∷ l) x zero h = refl
get-push_before (y ∷ l) x (suc i) h = get-push_before l x i (omega (arith, h))

pub get-push_last : {X : Type 0} (l : List X) (x : X) → slice_get (l ++ x ∷ []) (length l) ≡ Some x
get-push_last [] x = refl
get-push_last (y ∷ l) x = get-push_last l x

-- ---- how it is executed
-- the command counts behind the list
pub record IsTurn {l : List Command} (e : Execution l) (c : Command) : Type 0 where
  pub request : Submission
  pub is : c ≡ Request request
  pub once : HasCounted l e.counts (length l) request.client request.number → ⊥
  pub in_turn : (request.number ≡ 1) ⊎ HasCounted l e.counts (length l) request.client (request.number - 1)

-- the databases up to a place, and another behind it
abbrev pub then_always : (ℕ → Database) → ℕ → Database → ℕ → Database
then_always before n new i = if nat_le i n then before i else new

pub then_before : (before : ℕ → Database) (n : ℕ) (new : Database) (i : ℕ) → i ≤ n →
    then_always before n new i ≡ before i
then_before before n new i h = grind (arith, nat_tests)

pub then_behind : (before : ℕ → Database) (n : ℕ) (new : Database) (i : ℕ) → n < i → then_always before n new i ≡ new
then_behind before n new i h = grind (arith, nat_tests)

same_command_at : (o : Option Command) (c d : Command) → o ≡ Some c → o ≡ Some d → c ≡ d
same_command_at o c d e f = cc

module _ (l : List Command) (e : Execution l) (c : Command) (b : Bool) (turn : (b ≡ true) ↔ IsTurn e c) where
  abbrev pub longer : List Command
  longer = l ++ c ∷ []

  abbrev pub counts : ℕ → Bool
  counts = put e.counts (length l) b

  pub length-longer : length longer ≡ length l + 1
  length-longer = length_push l c

  -- a place that counts is one of the list
  pub in_list : (i : ℕ) → e.counts i ≡ true → i < length l
  in_list i h =
      let next : IsNext l e.counts i = (e.lawful i).0 h in slice_get_within l i (Request next.request) next.there

  pub in_longer : (i : ℕ) (r : Submission) → IsRequestAt longer i r → i < length l + 1
  in_longer i r there =
      let h : i < length longer = slice_get_within longer i (Request r) there in omega (arith, h, length-longer)

  pub there_still : (i : ℕ) (r : Submission) → i < length l → IsRequestAt l i r → IsRequestAt longer i r
  there_still i r h there = get-push_before l c i h ∙ there

  pub there_already : (i : ℕ) (r : Submission) → i < length l → IsRequestAt longer i r → IsRequestAt l i r
  there_already i r h there = sym (get-push_before l c i h) ∙ there

  pub counts_still : (i : ℕ) → i < length l → counts i ≡ e.counts i
  counts_still i h = put_other e.counts (length l) b i (λ same. absurd (omega (arith, h, same)))

  pub counts_last : counts (length l) ≡ b
  counts_last = put_same e.counts (length l) b

  -- what has counted in the list has counted in the longer one
  abbrev pub later : (m n client number : ℕ) → length l ≤ n → HasCounted l e.counts m client number →
      HasCounted longer counts n client number
  later m n client number h c = record {
    place = c.place;
    earlier = let within : c.place < length l = in_list c.place c.counted in omega (arith, within, h);
    counted = counts_still c.place (in_list c.place c.counted) ∙ c.counted;
    request = c.request;
    there = there_still c.place c.request (in_list c.place c.counted) c.there;
    of_client = c.of_client;
    of_number = c.of_number;
  }

  abbrev pub still : (n client number : ℕ) → n ≤ length l → HasCounted l e.counts n client number →
      HasCounted longer counts n client number
  still n client number h c = record {
    place = c.place;
    earlier = c.earlier;
    counted = counts_still c.place (in_list c.place c.counted) ∙ c.counted;
    request = c.request;
    there = there_still c.place c.request (in_list c.place c.counted) c.there;
    of_client = c.of_client;
    of_number = c.of_number;
  }

  -- and the other way round, below a place that isn't behind the list
  abbrev pub already : (m n client number : ℕ) (c : HasCounted longer counts m client number) → c.place < n →
      n ≤ length l → HasCounted l e.counts n client number
  already m n client number c h within = record {
    place = c.place;
    earlier = h;
    counted = sym (counts_still c.place (omega (arith, h, within))) ∙ c.counted;
    request = c.request;
    there = there_already c.place c.request (omega (arith, h, within)) c.there;
    of_client = c.of_client;
    of_number = c.of_number;
  }

  -- ---- a place of the list counts where it did
  next_still : (i : ℕ) → i < length l → IsNext l e.counts i → IsNext longer counts i
  next_still i h n = record {
    request = n.request;
    there = there_still i n.request h n.there;
    once = λ c. n.once (already i i n.request.client n.request.number c c.earlier (omega (arith, h)));
    in_turn = elim n.in_turn [
      | inl first ↦ inl first
      | inr follows ↦ inr (still i n.request.client (n.request.number - 1) (omega (arith, h)) follows)
    ];
  }

  next_already : (i : ℕ) → i < length l → IsNext longer counts i → IsNext l e.counts i
  next_already i h n = record {
    request = n.request;
    there = there_already i n.request h n.there;
    once = λ c. n.once (still i n.request.client n.request.number (omega (arith, h)) c);
    in_turn = elim n.in_turn [
      | inl first ↦ inl first
      | inr follows ↦
          inr (already i i n.request.client (n.request.number - 1) follows follows.earlier (omega (arith, h)))
    ];
  }

  -- ---- and the place behind it where it is the command's turn
  next_last : IsTurn e c → IsNext longer counts (length l)
  next_last t = record {
    request = t.request;
    there = get-push_last l c ∙ ap (λ (d : Command). Some d) t.is;
    once = λ h. t.once (already (length l) (length l) t.request.client t.request.number h h.earlier (omega arith));
    in_turn = elim t.in_turn [
      | inl first ↦ inl first
      | inr follows ↦ inr (still (length l) t.request.client (t.request.number - 1) (omega arith) follows)
    ];
  }

  last_next : IsNext longer counts (length l) → IsTurn e c
  last_next n = record {
    request = n.request;
    is = same_command_at _ c (Request n.request) (get-push_last l c) n.there;
    once = λ h. n.once (still (length l) n.request.client n.request.number (omega arith) h);
    in_turn = elim n.in_turn [
      | inl first ↦ inl first
      | inr follows ↦
          inr (already (length l) (length l) n.request.client (n.request.number - 1) follows follows.earlier
          (omega arith))
    ];
  }

  pub lawful : (i : ℕ) → (counts i ≡ true) ↔ IsNext longer counts i
  lawful i = elim (cases_lt i (length l)) [
    | inl below ↦ (
      λ h. next_still i below ((e.lawful i).0 (sym (counts_still i below) ∙ h)),
      λ n. counts_still i below ∙ (e.lawful i).1 (next_already i below n),
    )
    | inr above ↦ elim (same_number i (length l)) [
      | inl last ↦ subst (λ j. (counts j ≡ true) ↔ IsNext longer counts j) (sym last) (
        λ h. next_last (turn.0 (sym counts_last ∙ h)),
        λ n. counts_last ∙ turn.1 (last_next n),
      )
      | inr other ↦ (
        λ h.
            absurd (let within : i < length l = in_list i (sym (put_other e.counts (length l) b i other) ∙ h) in
            omega (arith, within, above)),
        λ n.
            absurd (let within : i < length l + 1 = in_longer i n.request n.there in
            omega (arith, within, above, other)),
      )
    ]
  ]

  -- ---- the databases
  module _ (new : Database)
      (counted : (r : Submission) → b ≡ true → c ≡ Request r → new ≡ effect (e.before (length l)) r.op)
      (passed : b ≡ false → new ≡ e.before (length l)) where
    abbrev pub before : ℕ → Database
    before = then_always e.before (length l) new

    pub before_still : (i : ℕ) → i ≤ length l → before i ≡ e.before i
    before_still = then_before e.before (length l) new

    pub before_last : (i : ℕ) → length l < i → before i ≡ new
    before_last = then_behind e.before (length l) new

    pub executes : (i : ℕ) (r : Submission) → counts i ≡ true → IsRequestAt longer i r →
        before (i + 1) ≡ effect (before i) r.op
    executes i r h there = elim (cases_lt i (length l)) [
      | inl below ↦
          before_still (i + 1) (omega (arith, below))
          ∙ e.executes i r (sym (counts_still i below) ∙ h) (there_already i r below there)
          ∙ sym (ap (λ (d : Database). effect d r.op) (before_still i (omega (arith, below))))
      | inr above ↦
          let within : i < length l + 1 = in_longer i r there in
          let last : i ≡ length l = omega (arith, within, above) in
          before_last (i + 1) (omega (arith, above))
          ∙ counted r (sym counts_last ∙ subst (λ j. counts j ≡ true) last h)
          (same_command_at _ c (Request r) (get-push_last l c) (subst (λ j. IsRequestAt longer j r) last there))
          ∙ sym (ap (λ (d : Database). effect d r.op) (before_still i (omega (arith, last)) ∙ ap e.before last))
    ]

    pub passes : (i : ℕ) → counts i ≡ false → before (i + 1) ≡ before i
    passes i h = elim (cases_lt i (length l)) [
      | inl below ↦
          before_still (i + 1) (omega (arith, below)) ∙ e.passes i (sym (counts_still i below) ∙ h)
          ∙ sym (before_still i (omega (arith, below)))
      | inr above ↦ elim (same_number i (length l)) [
        | inl last ↦
            before_last (i + 1) (omega (arith, above))
            ∙ passed (sym counts_last ∙ subst (λ j. counts j ≡ false) last h)
            ∙ sym (before_still i (omega (arith, last)) ∙ ap e.before last)
        | inr other ↦ before_last (i + 1) (omega (arith, above)) ∙ sym (before_last i (omega (arith, above, other)))
      ]
    ]

    abbrev pub extended : Execution longer
    extended = record {
      counts = counts;
      lawful = lawful;
      before = before;
      starts = before_still 0 (omega arith) ∙ e.starts;
      executes = executes;
      passes = passes;
    }
