-- Replies, as those of a list that grows.
use Rattle.std.proofs.Common.{◌≡◌, ℕ, zero, suc, ◌+◌, ◌<◌, ◌≤◌, List, [], ◌∷◌, ◌++◌, length, take, slice_get, Option, Some, None, inl}
use Rattle.std.proofs.Common.{inr, refl, sym, ap, ◌∙◌, subst, append_assoc, append-nil, arith}
use Rattle.std.proofs.lemmas.Option.{slice_get_within}
use Rattle.std.proofs.lemmas.List.{length-append}
use Rattle.sessions.specs.declared.submission.Submission.{Submission}
use Rattle.sessions.specs.Machines.{MachineState}
use Rattle.sessions.specs.Meaning.{RepliesAt}
use Rattle.sessions.specs.SessionReplies.{outcome_code}
use Rattle.sessions.specs.Standing.{StandsForOneMore, RepliesOneMore}
use Rattle.sessions.specs.declared.command.Command.{Command}
use Rattle.sessions.specs.declared.command.Command.TheVariants.{Request}
use Rattle.sessions.specs.declared.session_reply.SessionReply.{SessionReply}
use Rattle.sessions.proofs.Longer.{get-push_last}
use Rattle.std.proofs.lemmas.List.Elements.{Contains-push_cases}
use Rattle.node_model.specs.Executing.{with_command}
use Rattle.node_model.specs.Composition.{StandsForMore, IsReplyOf, RepliesToMore, AddsReplies}
use Rattle.node_model.specs.declared.outputs.ReplyOut.{ReplyOut}

-- ---- what stands in a list stands in a longer one
get_left : {A : Type 0} (xs ys : List A) (k : ℕ) (x : A) → slice_get xs k ≡ Some x → slice_get (xs ++ ys) k ≡ Some x
get_left [] ys k x h = absurd (cc)
get_left (y ∷ xs) ys zero x h = h
get_left (y ∷ xs) ys (suc k) x h = get_left xs ys k x h

take_left : {A : Type 0} (xs ys : List A) (k : ℕ) → k ≤ length xs → take k (xs ++ ys) ≡ take k xs
take_left xs ys zero h = refl
take_left [] ys (suc k) h = absurd (omega (arith, h))
take_left (x ∷ xs) ys (suc k) h = ap (λ (l : List _). x ∷ l) (take_left xs ys k (omega (arith, h)))

take_all : {A : Type 0} (xs : List A) → take (length xs) xs ≡ xs
take_all [] = refl
take_all (x ∷ xs) = ap (λ (l : List _). x ∷ l) (take_all xs)

-- a reply of a list is that of a longer one
pub reply_of_longer : (l more : List Command) (e : ReplyOut) → IsReplyOf l e → IsReplyOf (l ++ more) e
reply_of_longer l more e r =
    let within : r.place < length l = slice_get_within l r.place (Request r.request) r.there in
    let same : take (suc r.place) (l ++ more) ≡ take (suc r.place) l =
    take_left l more (suc r.place) (omega (arith, within)) in
    record {
      request = r.request;
      client_ = r.client_;
      number_ = r.number_;
      place = r.place;
      position_ = r.position_;
      there = get_left l more r.place (Request r.request) r.there;
      reply_ = rw same r.reply_;
    }

-- ---- one command more
-- the reply to a request that is executed behind a list
pub reply_behind : (l : List Command) (r : Submission) (o : SessionReply) (e : ReplyOut)
    → RepliesAt (l ++ Request r ∷ []) (length l) r (outcome_code o)
    → e.client ≡ r.client → e.number ≡ r.number → e.reply ≡ o → e.position ≡ suc (length l)
    → IsReplyOf (l ++ Request r ∷ []) e
reply_behind l r o e h client number code position =
    let long : length (l ++ Request r ∷ []) ≡ suc (length l) = length-append l (Request r ∷ [])
    ∙ (let x : length l + 1 ≡ suc (length l) = omega arith in x) in
    let whole : take (suc (length l)) (l ++ Request r ∷ []) ≡ l ++ Request r ∷ [] =
    subst (λ (n : ℕ). take n (l ++ Request r ∷ []) ≡ l ++ Request r ∷ []) long (take_all (l ++ Request r ∷ [])) in
    record {
      request = r;
      client_ = sym client;
      number_ = sym number;
      place = length l;
      position_ = position;
      there = get-push_last l (Request r);
      reply_ = rw whole (rw code h);
    }

-- ---- what calls keep
pub stands_for_none : (m : MachineState) → StandsForMore m m []
stands_for_none m = record { stands = λ l s. rw (append-nil l) s }

pub stands_for_one : (old new : MachineState) (c : Command) → StandsForOneMore old new c → StandsForMore old new (c ∷ [])
stands_for_one old new c h = record { stands = h.stands }

pub stands_for_both : (old mid new : MachineState) (cs ds : List Command) → StandsForMore old mid cs → StandsForMore mid new ds
    → StandsForMore old new (cs ++ ds)
stands_for_both old mid new cs ds h k = record {
  stands = λ l s. rw (sym (append_assoc l cs ds)) (k.stands (l ++ cs) (h.stands l s));
}

-- the replies to some commands, and then to those behind them
pub replies_to_both : (old mid : MachineState) (slot : ℕ) (cs ds : List Command) (before after : List ReplyOut)
    → StandsForMore old mid cs → RepliesToMore old slot cs before → AddsReplies mid (slot + length cs) ds before after
    → RepliesToMore old slot (cs ++ ds) after
replies_to_both old mid slot cs ds before after h earlier later = record {
  replies_ = λ l s at e there.
      let whole : (l ++ cs) ++ ds ≡ l ++ (cs ++ ds) = append_assoc l cs ds in
      let as_many : length (l ++ cs) ≡ slot + length cs = length-append l cs ∙ ap (λ (n : ℕ). n + length cs) at in
      elim (later.replies_ (l ++ cs) (h.stands l s) as_many e there) [
        | inl before_ ↦ rw (sym whole) (reply_of_longer (l ++ cs) ds e (earlier.replies_ l s at e before_))
        | inr now ↦ rw (sym whole) now
      ];
}

-- ---- a slot is executed
-- nothing is learnt there
pub stands_for_unlearnt : (m : MachineState) (o : Option Command) → o ≡ None → StandsForMore m m (with_command o [])
stands_for_unlearnt m o e = rw e (stands_for_none m)

-- a command is
pub stands_for_learnt : (old new : MachineState) (o : Option Command) (c : Command) → o ≡ Some c → StandsForOneMore old new c
    → StandsForMore old new (with_command o [])
stands_for_learnt old new o c e h = rw e (stands_for_one old new c h)

-- a request is, and has its reply
pub adds_reply : (m : MachineState) (slot : ℕ) (o : Option Command) (c : Command) (r : Submission) (told : SessionReply) (e : ReplyOut)
    (old : List ReplyOut) → o ≡ Some c → c ≡ Request r → RepliesOneMore m c told
    → e.client ≡ r.client → e.number ≡ r.number → e.reply ≡ told → e.position ≡ slot + 1
    → AddsReplies m slot (with_command o []) old (old ++ e ∷ [])
adds_reply m slot o c r told e old there is h client number reply position = rw there (rw is (record {
  replies_ = λ l s at x joined. elim (Contains-push_cases old e x joined) [
    | inl before ↦ inl before
    | inr last ↦
        let told_at : RepliesAt (l ++ Request r ∷ []) (length l) r (outcome_code told) =
        (subst (λ (d : Command). RepliesOneMore m d told) is h).replies l s in
        let behind : e.position ≡ suc (length l) = omega (arith, position, at) in
        inr (rw (← last) (reply_behind l r told e told_at client number reply behind))
  ];
}))
