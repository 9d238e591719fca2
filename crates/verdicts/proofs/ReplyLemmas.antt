-- The replies of a list with one command more.
use Rattle.std.proofs.Common.{◌≡◌, ℕ, ◌+◌, ◌<◌, ◌≤◌, ◌⊎◌, inl, inr, List, [], ◌∷◌, ◌++◌, length, Bool, true, false, cond, Some, refl, sym, ap, subst, ◌∙◌, arith}
use Rattle.std.proofs.lemmas.Bool.{cases_lt}
use Rattle.std.proofs.lemmas.List.{length_push}
use Rattle.std.proofs.lemmas.Option.{slice_get_within}
use Rattle.std.specs.BTreeMap.{is_at}
use Rattle.std.specs.BTreeSet.{BTreeSet, contains}
use Rattle.sessions.specs.declared.submission.Submission.{Submission}
use Rattle.sessions.specs.Meaning.{RepliesAt, IsRequestAt}
use Rattle.sessions.specs.declared.command.Command.{Command}
use Rattle.sessions.specs.declared.command.Command.TheVariants.{NoOp, Request}
use Rattle.sessions.specs.SessionReplies.{outcome_code}
use Rattle.sessions.specs.Standing.{IsToldAt}
use Rattle.sessions.specs.declared.session_reply.SessionReply.{SessionReply}
use Rattle.sessions.proofs.Executions.{one_reply}
use Rattle.sessions.proofs.Longer.{get-push_before, get-push_last}
use Rattle.verdicts.specs.Execution.{AreReplies}
use Rattle.verdicts.specs.Explaining.{HasReply}
use Rattle.verdicts.specs.RequestIndex.{reply_cmp}
use Rattle.verdicts.proofs.Keys.{reply_self, reply_same}
use Rattle.sessions.proofs.Agreements.{AgreeBelow, replies_over}

abbrev key : ℕ → ℕ → ℕ → (ℕ × ℕ) × ℕ
key client number code = ((client, number), code)

-- ---- the replies of a list are those of each that begins so
pub reply_over : (l k : List Command) (n : ℕ) → length l ≤ n → AgreeBelow l k n → (client number code : ℕ)
    → HasReply l client number code → HasReply k client number code
reply_over l k n within agree client number code h =
    let below : h.slot < length l = slice_get_within l h.slot (Request h.request) h.replies.there in
    record {
      slot = h.slot;
      request = h.request;
      of_client = h.of_client;
      of_number = h.of_number;
      replies = replies_over l k n agree h.slot h.request code (omega (arith, below, within)) h.replies;
    }

module _ (before : List Command) (c : Command) where
  abbrev longer : List Command
  longer = before ++ c ∷ []

  agree : AgreeBelow before longer (length before)
  agree i h = sym (get-push_before before c i h)

  pub reply_still : (client number code : ℕ) → HasReply before client number code → HasReply (before ++ c ∷ []) client number code
  reply_still = reply_over before longer (length before) (omega arith) agree

  reply_before : (client number code : ℕ) (h : HasReply (before ++ c ∷ []) client number code) → h.slot < length before
      → HasReply before client number code
  reply_before client number code h below = record {
    slot = h.slot;
    request = h.request;
    of_client = h.of_client;
    of_number = h.of_number;
    replies = replies_over longer before (length before) (λ i lt. sym (agree i lt)) h.slot h.request code below h.replies;
  }

  reply_last : (client number code : ℕ) (h : HasReply (before ++ c ∷ []) client number code) → length before ≤ h.slot
      → h.slot ≡ length before
  reply_last client number code h past =
      let below : h.slot < length longer = slice_get_within longer h.slot (Request h.request) h.replies.there in
      let more : length longer ≡ length before + 1 = length_push before c in
      omega (arith, past, below, more)

-- ---- a no-op has no reply
no_request : (before : List Command) (r : Submission) → IsRequestAt (before ++ NoOp ∷ []) (length before) r → ⊥
no_request before r there = let e : Some NoOp ≡ Some (Request r) = sym (get-push_last before NoOp) ∙ there in cc

pub no_op_more : (before : List Command) (client number code : ℕ) → HasReply (before ++ NoOp ∷ []) client number code
    → HasReply before client number code
no_op_more before client number code h = elim (cases_lt h.slot (length before)) [
  | inl below ↦ reply_before before NoOp client number code h below
  | inr past ↦
      absurd (no_request before h.request
      (subst (λ i. IsRequestAt (before ++ NoOp ∷ []) i h.request) (reply_last before NoOp client number code h past) h.replies.there))
]

-- ---- a request has one
same_request : (a b : Submission) → Some (Request a) ≡ Some (Request b) → a ≡ b
same_request a b e = cc

module _ (before : List Command) (r : Submission) (told : ℕ) (now : RepliesAt (before ++ Request r ∷ []) (length before) r told) where
  abbrev with_it : List Command
  with_it = before ++ Request r ∷ []

  own_reply : HasReply (before ++ Request r ∷ []) r.client r.number told
  own_reply = record { slot = length before; request = r; of_client = refl; of_number = refl; replies = now }

  pub reply_more : (client number code : ℕ) → HasReply (before ++ Request r ∷ []) client number code
      → (key r.client r.number told ≡ key client number code) ⊎ HasReply before client number code
  reply_more client number code h = elim (cases_lt h.slot (length before)) [
    | inl below ↦ inr (reply_before before (Request r) client number code h below)
    | inr past ↦
        let here : RepliesAt with_it (length before) h.request code =
        subst (λ i. RepliesAt with_it i h.request code) (reply_last before (Request r) client number code h past) h.replies in
        let same : h.request ≡ r = same_request h.request r (sym here.there ∙ get-push_last before (Request r)) in
        let codes : told ≡ code = one_reply with_it (length before) r h.request told code now here in
        let clients : r.client ≡ client = ap (λ (x : Submission). x.client) (sym same) ∙ h.of_client in
        let numbers : r.number ≡ number = ap (λ (x : Submission). x.number) (sym same) ∙ h.of_number in
        inl (λ i. ((clients i, numbers i), codes i))
  ]

  pub reply_kept : (client number code : ℕ)
      → (key r.client r.number told ≡ key client number code) ⊎ HasReply before client number code
      → HasReply (before ++ Request r ∷ []) client number code
  reply_kept client number code (inl same) =
      subst (λ (k : (ℕ × ℕ) × ℕ). HasReply (before ++ Request r ∷ []) k.0.0 k.0.1 k.1) same own_reply
  reply_kept client number code (inr h) = reply_still before (Request r) client number code h

-- ---- the set of them
true_or_not : (b : Bool) → (b ≡ true) ⊎ (b ≡ false)
true_or_not true = inl refl
true_or_not false = inr refl

module _ (before : List Command) (r : Submission) (told : ℕ) (old new : BTreeSet ((ℕ × ℕ) × ℕ))
    (now : RepliesAt (before ++ Request r ∷ []) (length before) r told)
    (was : AreReplies before old)
    (updates : (q : (ℕ × ℕ) × ℕ) → contains reply_cmp new q ≡ cond (is_at (reply_cmp (key r.client r.number told)) q) true (contains reply_cmp old q))
  where
    in_set : (client number code : ℕ) → contains reply_cmp new (key client number code) ≡ true
        → HasReply (before ++ Request r ∷ []) client number code
    in_set client number code h = elim (true_or_not (is_at (reply_cmp (key r.client r.number told)) (key client number code))) [
      | inl here ↦
          reply_kept before r told now client number code (inl (reply_same (key r.client r.number told) (key client number code) here))
      | inr other ↦
          let e = updates (key client number code) in
          let kept : contains reply_cmp old (key client number code) ≡ true = sym (rw other at e) ∙ h in
          reply_kept before r told now client number code (inr ((was.each client number code).0 kept))
    ]

    has_set : (client number code : ℕ) → HasReply (before ++ Request r ∷ []) client number code
        → contains reply_cmp new (key client number code) ≡ true
    has_set client number code h = elim (reply_more before r told now client number code h) [
      | inl same ↦
          let here : is_at (reply_cmp (key r.client r.number told)) (key client number code) ≡ true =
          subst (λ k. is_at (reply_cmp (key r.client r.number told)) k ≡ true) same (reply_self (key r.client r.number told)) in
          let e = updates (key client number code) in rw here at e
      | inr earlier ↦
          let kept : contains reply_cmp old (key client number code) ≡ true = (was.each client number code).1 earlier in
          let e = updates (key client number code) in
          elim (true_or_not (is_at (reply_cmp (key r.client r.number told)) (key client number code))) [
            | inl here ↦ rw here at e
            | inr other ↦ let f = rw other at e in f ∙ kept
          ]
    ]

    pub replies_more : AreReplies (before ++ Request r ∷ []) new
    replies_more = record { each = λ client number code. (in_set client number code, has_set client number code) }

pub replies_same : (before : List Command) (set : BTreeSet ((ℕ × ℕ) × ℕ)) → AreReplies before set
    → AreReplies (before ++ NoOp ∷ []) set
replies_same before set was = record {
  each = λ client number code. (
    λ h. reply_still before NoOp client number code ((was.each client number code).0 h),
    λ h. (was.each client number code).1 (no_op_more before client number code h),
  );
}

no_first : (client number code : ℕ) → HasReply [] client number code → ⊥
no_first client number code h =
    let below : h.slot < 0 = slice_get_within [] h.slot (Request h.request) h.replies.there in omega (arith, below)

pub no_replies : (set : BTreeSet ((ℕ × ℕ) × ℕ)) → ((q : (ℕ × ℕ) × ℕ) → contains reply_cmp set q ≡ false) → AreReplies [] set
no_replies set none = record {
  each = λ client number code. (λ h. absurd (let e = none (key client number code) in cc), λ h. absurd (no_first client number code h));
}

-- ---- as a machine tells them
pub request_replied : (before : List Command) (c : Command) (r : Submission) (told : SessionReply) (m n code : ℕ)
    (old new : BTreeSet ((ℕ × ℕ) × ℕ)) → c ≡ Request r → IsToldAt before c told → m ≡ r.client → n ≡ r.number
    → code ≡ outcome_code told → AreReplies before old
    → ((q : (ℕ × ℕ) × ℕ) → contains reply_cmp new q ≡ cond (is_at (reply_cmp (key m n code)) q) true (contains reply_cmp old q))
    → AreReplies (before ++ c ∷ []) new
request_replied before c r told m n code old new is says em en ec was updates =
    let now : RepliesAt (before ++ Request r ∷ []) (length before) r (outcome_code told) =
    subst (λ (d : Command). IsToldAt before d told) is says in
    let P : (ℕ × ℕ) × ℕ → Type 0 = λ k. (q : (ℕ × ℕ) × ℕ) → contains reply_cmp new q ≡ cond (is_at (reply_cmp k) q) true (contains reply_cmp old q) in
    let keys : key m n code ≡ key r.client r.number (outcome_code told) = λ i. ((em i, en i), ec i) in
    subst (λ (d : Command). AreReplies (before ++ d ∷ []) new) (sym is)
    (replies_more before r (outcome_code told) old new now was (subst P keys updates))

pub no_op_replied : (before : List Command) (c : Command) (set : BTreeSet ((ℕ × ℕ) × ℕ)) → c ≡ NoOp → AreReplies before set
    → AreReplies (before ++ c ∷ []) set
no_op_replied before c set is was = subst (λ (d : Command). AreReplies (before ++ d ∷ []) set) (sym is) (replies_same before set was)
