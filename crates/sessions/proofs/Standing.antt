-- A machine that has executed a command stands for the list with the command added, and tells the reply to it.
use Rattle.std.proofs.Common.{◌≡◌, ℕ, ◌+◌, ◌<◌, ◌≤◌, ◌↔◌, inl, inr, List, [], ◌∷◌, ◌++◌, length, Bool, true, false, Option, Some, None}
use Rattle.std.proofs.Common.{slice_get, if◌then◌else◌, refl, sym, ap, ◌∙◌, subst, arith, eqb-true}
use Rattle.std.proofs.lemmas.Bool.{cases_lt}
use Rattle.std.proofs.lemmas.Bool.Decides.{nat_tests}
use Rattle.std.proofs.lemmas.List.{length_push, get_or-set_same, get_or-set_other}
use Rattle.store.specs.Operations.{reply, effect}
use Rattle.store.specs.Replies.{reply_code}
use Rattle.sessions.specs.declared.submission.Submission.{Submission}
use Rattle.sessions.specs.Machines.{MachineState, is_next, told_of, counted, after_request, reply_to_request}
use Rattle.sessions.specs.Meaning.{Database, HasCounted, IsRequestAt, Execution, IsReply, RepliesAt, IsLastOf}
use Rattle.sessions.specs.SessionReplies.{outcome_code}
use Rattle.sessions.specs.Sessions.{session_of, with_session}
use Rattle.sessions.specs.Standing.{IsKeptOf, StandsFor}
use Rattle.sessions.specs.declared.command.Command.{Command}
use Rattle.sessions.specs.declared.command.Command.TheVariants.{NoOp, Request}
use Rattle.sessions.specs.declared.session_reply.SessionReply.TheVariants.{Applied, Past, Gap}
use Rattle.sessions.specs.declared.session.Session.{Session}
use Rattle.sessions.proofs.Counting.{same_number, counted_or_not}
use Rattle.sessions.proofs.Turns.{each_lesser, the_one, turn_of}
use Rattle.sessions.proofs.Longer.{IsTurn, longer, counts_last, length-longer, in_longer, later, already, extended, before_still}
use Rattle.sessions.proofs.Longer.{before_last, get-push_last}

-- ---- what the machine keeps is what is kept of the longer list
module _ (l : List Command) (e : Execution l) (c : Command) (b : Bool) (turn : (b ≡ true) ↔ IsTurn e c)
    (new : Database)
    (applied : (r : Submission) → b ≡ true → c ≡ Request r → new ≡ effect (e.before (length l)) r.op)
    (passed : b ≡ false → new ≡ e.before (length l)) where
  abbrev long : List Command
  long = longer l e c b turn

  abbrev after : Execution long
  after = extended l e c b turn new applied passed

  abbrev Then : ℕ → ℕ → Type 0
  Then client number = HasCounted long after.counts (length long) client number

  -- what has counted stands in the list, or is the command behind it
  behind : (n client number : ℕ) (h : HasCounted long after.counts n client number) → (h.place < length l → ⊥) →
      h.place ≡ length l
  behind n client number h other =
      let within : h.place < length l + 1 = in_longer l e c b turn h.place h.request h.there in
      elim (cases_lt h.place (length l)) [
        | inl below ↦ absurd (other below)
        | inr above ↦ omega (arith, within, above)
      ]

  passed_by : (n client number : ℕ) (h : HasCounted long after.counts n client number) → b ≡ false → h.place < length l
  passed_by n client number h no_turn = elim (cases_lt h.place (length l)) [
    | inl below ↦ below
    | inr above ↦
        let within : h.place < length l + 1 = in_longer l e c b turn h.place h.request h.there in
        let last : h.place ≡ length l = omega (arith, within, above) in
        let counted : b ≡ true = sym (counts_last l e c b turn) ∙ subst (λ i. after.counts i ≡ true) last h.counted in
        let both : true ≡ false = sym counted ∙ no_turn in absurd (cc)
  ]

  the_command : (n client number : ℕ) (h : HasCounted long after.counts n client number) → h.place ≡ length l →
      c ≡ Request h.request
  the_command n client number h last =
      let there : slice_get long (length l) ≡ Some (Request h.request) =
      subst (λ i. IsRequestAt long i h.request) last h.there in
      let here : slice_get long (length l) ≡ Some c = get-push_last l c in
      cc

  -- of a client none of whose places is the new one, the same is kept
  kept_still : (client : ℕ) (o : Option Session) → ((number : ℕ) (h : Then client number) → h.place < length l) →
      IsKeptOf e client o → IsKeptOf after client o
  kept_still client None old none = λ number h.
      none number (already l e c b turn (length long) (length l) client number h (old number h) (omega arith))
  kept_still client (Some s) old kept = record {
    counted =
        later l e c b turn (length l) (length long) client s.number
        (omega (arith, length-longer l e c b turn)) kept.counted;
    last = λ number h.
        kept.last number (already l e c b turn (length long) (length l) client number h (old number h) (omega arith));
    replied = λ h.
        kept.replied (already l e c b turn (length long) (length l) client s.number h (old s.number h) (omega arith))
        ∙ ap (λ (d : Database). reply d h.request.op)
        (sym (before_still l e c b turn new applied passed h.place
        (let below : h.place < length l = old s.number h in omega (arith, below))));
  }

-- ---- a no-op
module _ (m : MachineState) (l : List Command) (s : StandsFor m l) where
  abbrev so_far : Execution l
  so_far = s.execution

  never : (false ≡ true) ↔ IsTurn so_far NoOp
  never = (λ h. absurd (cc), λ t. absurd (let h : NoOp ≡ Request t.request = t.is in cc))

  no_effect : (r : Submission) → false ≡ true → NoOp ≡ Request r →
      so_far.before (length l) ≡ effect (so_far.before (length l)) r.op
  no_effect r h same = absurd (cc)

  pub stands_noop : StandsFor m (l ++ NoOp ∷ [])
  stands_noop = record {
    execution = after l so_far NoOp false never (so_far.before (length l)) no_effect (λ _. refl);
    features =
        s.features
        ∙ sym (before_last l so_far NoOp false never (so_far.before (length l)) no_effect (λ _. refl)
        (length (l ++ NoOp ∷ [])) (omega (arith, length_push l NoOp)));
    sessions = λ client.
        kept_still l so_far NoOp false never (so_far.before (length l)) no_effect (λ _. refl) client
        (session_of m.sessions client)
        (λ number h.
        passed_by l so_far NoOp false never (so_far.before (length l)) no_effect (λ _. refl) _ client number h refl)
        (s.sessions client);
  }

-- ---- a request
told_ahead : (s : Session) (number : ℕ) → s.number < number → told_of (Some s) number ≡ Gap
told_ahead s number h = grind (arith, nat_tests)

told_past : (s : Session) (number : ℕ) → number < s.number → told_of (Some s) number ≡ Past
told_past s number h = grind (arith, nat_tests)

told_same : (s : Session) (number : ℕ) → number ≡ s.number → told_of (Some s) number ≡ Applied s.reply
told_same s number h = grind (arith, nat_tests)

-- what has counted under a number has counted under an equal one
abbrev under : (l : List Command) (counts : ℕ → Bool) (below client number other : ℕ) → number ≡ other →
    HasCounted l counts below client number → HasCounted l counts below client other
under l counts below client number other same c = record {
  place = c.place;
  earlier = c.earlier;
  counted = c.counted;
  request = c.request;
  there = c.there;
  of_client = c.of_client;
  of_number = c.of_number ∙ same;
}

module _ (m : MachineState) (l : List Command) (s : StandsFor m l) (r : Submission) (from_one : 1 ≤ r.number) where
  abbrev e : Execution l
  e = s.execution

  abbrev o : Option Session
  o = session_of m.sessions r.client

  -- where it is the request's turn, what has counted of its client has lesser numbers
  lesser : (o : Option Session) → IsKeptOf e r.client o → is_next o r.number ≡ true → (number : ℕ) →
      HasCounted l e.counts (length l) r.client number → number < r.number
  lesser None none h number c = absurd (none number c)
  lesser (Some k) kept h number c =
      let next : r.number ≡ k.number + 1 = eqb-true r.number (k.number + 1) h in
      let below : number ≤ k.number = kept.last number c in omega (arith, next, below)

  -- ---- it counts
  module _ (next : is_next o r.number ≡ true) where
    turn : (true ≡ true) ↔ IsTurn e (Request r)
    turn = (λ _. (turn_of l e r o (s.sessions r.client) from_one).0 next, λ _. refl)

    abbrev new : Database
    new = effect m.features r.op

    applied : (q : Submission) → true ≡ true → Request r ≡ Request q → new ≡ effect (e.before (length l)) q.op
    applied q h same =
        let request : q ≡ r = the_one l e r q same in
        ap (λ (d : Database). effect d r.op) s.features
        ∙ sym (ap (λ (x : Submission). effect (e.before (length l)) x.op) request)

    not_passed : true ≡ false → new ≡ e.before (length l)
    not_passed h = absurd (cc)

    abbrev grown : Execution (l ++ Request r ∷ [])
    grown = after l e (Request r) true turn new applied not_passed

    abbrev Grown : ℕ → ℕ → ℕ → Type 0
    Grown n client number = HasCounted (l ++ Request r ∷ []) grown.counts n client number

    -- what has counted in the list has a lesser number, and the new place is the request's
    old_is_lesser : (n number : ℕ) (h : Grown n r.client number) → h.place < length l → number < r.number
    old_is_lesser n number h below =
        lesser o (s.sessions r.client) next number
        (already l e (Request r) true turn n (length l) r.client number h below (omega arith))

    is_request : (n client number : ℕ) (h : Grown n client number) → (h.place < length l → ⊥) → h.request ≡ r
    is_request n client number h other =
        the_one l e r h.request
        (the_command l e (Request r) true turn new applied not_passed n client number h
        (behind l e (Request r) true turn new applied not_passed n client number h other))

    at_end : (n client number : ℕ) (h : Grown n client number) → (h.place < length l → ⊥) → h.place ≡ length l
    at_end n client number h other = behind l e (Request r) true turn new applied not_passed n client number h other

    abbrev counted_now : (n : ℕ) → length l < n → Grown n r.client r.number
    counted_now n h = record {
      place = length l;
      earlier = h;
      counted = counts_last l e (Request r) true turn;
      request = r;
      there = get-push_last l (Request r);
      of_client = refl;
      of_number = refl;
    }

    -- the reply is that of the new place
    replied_now : (n : ℕ) (h : Grown n r.client r.number) →
        reply m.features r.op ≡ reply (grown.before h.place) h.request.op
    replied_now n h =
        let other : h.place < length l → ⊥ = λ below.
        let less : r.number < r.number = old_is_lesser n r.number h below in omega (arith, less) in
        let there : h.place ≡ length l = at_end n r.client r.number h other in
        let request : h.request ≡ r = is_request n r.client r.number h other in
        let database : grown.before h.place ≡ m.features =
        before_still l e (Request r) true turn new applied not_passed h.place (omega (arith, there))
        ∙ ap e.before there ∙ sym s.features in
        sym (ap (λ (d : Database). reply d h.request.op) database ∙ ap (λ (x : Submission). reply m.features x.op) request)

    abbrev session_now : Session
    session_now = record { number = r.number; reply = reply m.features r.op }

    none_greater : (n number : ℕ) → Grown n r.client number → number ≤ r.number
    none_greater n number h = elim (cases_lt h.place (length l)) [
      | inl below ↦ let less : number < r.number = old_is_lesser n number h below in omega (arith, less)
      | inr above ↦
          let other : h.place < length l → ⊥ = λ below. absurd (omega (arith, above, below)) in
          let same : h.request.number ≡ r.number = ap (λ (x : Submission). x.number) (is_request n r.client number h other) in
          let of_number : h.request.number ≡ number = h.of_number in
          omega (arith, same, of_number)
    ]

    longer_by_one : length (l ++ Request r ∷ []) ≡ length l + 1
    longer_by_one = length_push l (Request r)

    last_now : IsLastOf grown r.client r.number (reply m.features r.op)
    last_now = record {
      counted = counted_now (length (l ++ Request r ∷ [])) (omega (arith, longer_by_one));
      last = none_greater (length (l ++ Request r ∷ []));
      replied = replied_now (length (l ++ Request r ∷ []));
    }

    module _ (known : r.client < length m.sessions) where
      kept_now : (client : ℕ) → IsKeptOf grown client (session_of (with_session m.sessions r.client session_now) client)
      kept_now client = elim (same_number client r.client) [
        | inl same ↦
            subst (λ k. IsKeptOf grown k (session_of (with_session m.sessions r.client session_now) k)) (sym same)
            (subst (λ (x : Option Session). IsKeptOf grown r.client x)
            (sym (get_or-set_same m.sessions r.client (Some session_now) None known)) last_now)
        | inr other ↦
            subst (λ (x : Option Session). IsKeptOf grown client x)
            (sym (get_or-set_other m.sessions r.client client (Some session_now) None other))
            (kept_still l e (Request r) true turn new applied not_passed client (session_of m.sessions client)
            (λ number h. elim (cases_lt h.place (length l)) [
              | inl below ↦ below
              | inr above ↦
                  let request : h.request ≡ r =
                  is_request _ client number h (λ below. absurd (omega (arith, above, below))) in
                  absurd (other (sym h.of_client ∙ ap (λ (x : Submission). x.client) request))
            ]) (s.sessions client))
      ]

      stands_counted : StandsFor (counted m r) (l ++ Request r ∷ [])
      stands_counted = record {
        execution = grown;
        features = sym (before_last l e (Request r) true turn new applied not_passed (length (l ++ Request r ∷ []))
            (omega (arith, longer_by_one)));
        sessions = kept_now;
      }

    reply_counted : IsReply grown (length l) r (reply_code (reply m.features r.op))
    reply_counted = record {
      kept = λ h none. ap reply_code (replied_now (length l + 1) h);
      past = λ h d.
          absurd (let more : r.number + 1 ≤ r.number = none_greater (length l + 1) (r.number + 1) d in
          omega (arith, more));
      gap = λ none. absurd (none (counted_now (length l + 1) (omega arith)));
    }

  -- ---- it doesn't count
  module _ (not_next : is_next o r.number ≡ false) where
    no_turn : (false ≡ true) ↔ IsTurn e (Request r)
    no_turn = (
      λ h. absurd (cc),
      λ t. let h : is_next o r.number ≡ true = (turn_of l e r o (s.sessions r.client) from_one).1 t in sym not_next ∙ h,
    )

    not_applied : (q : Submission) → false ≡ true → Request r ≡ Request q →
        e.before (length l) ≡ effect (e.before (length l)) q.op
    not_applied q h same = absurd (cc)

    abbrev same_after : Execution (l ++ Request r ∷ [])
    same_after = after l e (Request r) false no_turn (e.before (length l)) not_applied (λ _. refl)

    abbrev SameAfter : ℕ → ℕ → ℕ → Type 0
    SameAfter n client number = HasCounted (l ++ Request r ∷ []) same_after.counts n client number

    in_list_still : (n client number : ℕ) (h : SameAfter n client number) → h.place < length l
    in_list_still n client number h =
        passed_by l e (Request r) false no_turn (e.before (length l)) not_applied (λ _. refl) n client number h refl

    stands_refused : StandsFor m (l ++ Request r ∷ [])
    stands_refused = record {
      execution = same_after;
      features =
          s.features
          ∙ sym (before_last l e (Request r) false no_turn (e.before (length l)) not_applied (λ _. refl)
          (length (l ++ Request r ∷ [])) (omega (arith, length_push l (Request r))));
      sessions = λ client.
          kept_still l e (Request r) false no_turn (e.before (length l)) not_applied (λ _. refl) client
          (session_of m.sessions client) (in_list_still _ client) (s.sessions client);
    }

    -- what had counted has counted, and no more
    abbrev old : (number : ℕ) → SameAfter (length l + 1) r.client number →
        HasCounted l e.counts (length l) r.client number
    old number h =
        already l e (Request r) false no_turn (length l + 1) (length l) r.client number h
        (in_list_still (length l + 1) r.client number h) (omega arith)

    newly : (number : ℕ) → HasCounted l e.counts (length l) r.client number →
        SameAfter (length l + 1) r.client number
    newly number c = later l e (Request r) false no_turn (length l) (length l + 1) r.client number (omega arith) c

    reply_refused : (k : Option Session) → IsKeptOf e r.client k → is_next k r.number ≡ false →
        IsReply same_after (length l) r (outcome_code (told_of k r.number))
    reply_refused None none h = record {
      kept = λ c d. absurd (none r.number (old r.number c));
      past = λ c d. absurd (none r.number (old r.number c));
      gap = λ d. refl;
    }
    reply_refused (Some k) kept h = elim (cases_lt k.number r.number) [
      | inl ahead ↦ record {
        kept = λ c d.
            absurd (let most : r.number ≤ k.number = kept.last r.number (old r.number c) in omega (arith, most, ahead));
        past = λ c d.
            absurd (let most : r.number ≤ k.number = kept.last r.number (old r.number c) in omega (arith, most, ahead));
        gap = λ d. ap outcome_code (told_ahead k r.number ahead);
      }
      | inr within ↦ elim (cases_lt r.number k.number) [
        | inl past ↦ record {
          kept = λ c d. absurd (d (newly (r.number + 1)
              (each_lesser l e r.client (r.number + 1) k.number (omega arith) (omega (arith, past)) kept.counted)));
          past = λ c d. ap outcome_code (told_past k r.number past);
          gap = λ d.
              absurd (d (newly r.number (each_lesser l e r.client r.number k.number from_one within kept.counted)));
        }
        | inr above ↦
            let same : r.number ≡ k.number = omega (arith, within, above) in
            record {
              kept = λ c d.
                  ap outcome_code (told_same k r.number same)
                  ∙ ap reply_code
                  (kept.replied (under l e.counts (length l) r.client r.number k.number same (old r.number c)))
                  ∙ ap (λ (x : Database). reply_code (reply x c.request.op))
                  (sym (before_still l e (Request r) false no_turn (e.before (length l)) not_applied (λ _. refl)
                  c.place
                  (let below : c.place < length l = in_list_still (length l + 1) r.client r.number c in
                  omega (arith, below))));
              past = λ c d.
                  absurd (let most : r.number + 1 ≤ k.number = kept.last (r.number + 1) (old (r.number + 1) d) in
                  omega (arith, most, same));
              gap = λ d.
                  absurd (d (newly r.number
                  (each_lesser l e r.client r.number k.number from_one within kept.counted)));
            }
      ]
    ]

  -- ---- whether it counts or not
  pub stands_request : r.client < length m.sessions → StandsFor (after_request m r) (l ++ Request r ∷ [])
  stands_request known = elim (counted_or_not (is_next o r.number)) [
    | inl next ↦
        subst (λ (b : Bool). StandsFor (if b then counted m r else m) (l ++ Request r ∷ [])) (sym next)
        (stands_counted next known)
    | inr other ↦
        subst (λ (b : Bool). StandsFor (if b then counted m r else m) (l ++ Request r ∷ [])) (sym other)
        (stands_refused other)
  ]

  pub replies_request : RepliesAt (l ++ Request r ∷ []) (length l) r (outcome_code (reply_to_request m r))
  replies_request = elim (counted_or_not (is_next o r.number)) [
    | inl next ↦
        subst (λ (b : Bool). RepliesAt (l ++ Request r ∷ []) (length l) r
        (outcome_code (if b then Applied (reply m.features r.op) else told_of o r.number))) (sym next)
        (record { there = get-push_last l (Request r); execution = grown next; reply = reply_counted next })
    | inr other ↦
        subst (λ (b : Bool). RepliesAt (l ++ Request r ∷ []) (length l) r
        (outcome_code (if b then Applied (reply m.features r.op) else told_of o r.number))) (sym other)
        (record {
          there = get-push_last l (Request r);
          execution = same_after other;
          reply = reply_refused other o (s.sessions r.client) other;
        })
  ]
