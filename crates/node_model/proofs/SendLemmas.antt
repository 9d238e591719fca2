-- Messages to several nodes.
use Rattle.std.proofs.Common.{◌≡◌, ℕ, ◌+◌, ◌++◌, List, [], Bool, true, false, cond, filter, not, sym, ap, ◌∙◌, add-one, append_assoc}
use Rattle.std.proofs.Common.{append-nil}
use Rattle.std.proofs.lemmas.List.Elements.{filter-append}
use Rattle.wire.specs.NodeSets.{has_node}
use Rattle.wire.specs.declared.frames.envelope.Envelope.{Envelope}
use Rattle.wire.specs.declared.frames.message.Message.{Message}
use Rattle.node_model.specs.Sending.{to_one, to_all}

-- one node more
pub to_all-next : (from n : ℕ) (m : Message) → to_all from (n + 1) m ≡ to_all from n m ++ to_one from n m
to_all-next from n m = ap (λ k. to_all from k m) (add-one n)

pub sent_to_next : (from n : ℕ) (m : Message) (old now then : List Envelope) → now ≡ old ++ to_all from n m
    → then ≡ now ++ to_one from n m → then ≡ old ++ to_all from (n + 1) m
sent_to_next from n m old now then so_far more =
    more ∙ ap (λ (es : List Envelope). es ++ to_one from n m) so_far
    ∙ append_assoc old (to_all from n m) (to_one from n m)
    ∙ ap (λ (es : List Envelope). old ++ es) (sym (to_all-next from n m))

-- ---- messages to those that are not in a set
module _ (set : List Bool) (from n : ℕ) (m : Message) where
  abbrev passes : Envelope → Bool
  passes e = not (has_node set e.to)

  -- what one node more gets
  others-next : (b : Bool) → has_node set n ≡ b
      → filter passes (to_all from (n + 1) m) ≡ filter passes (to_all from n m) ++ cond (not b) (to_one from n m) []
  others-next b is =
      ap (λ (es : List Envelope). filter passes es) (to_all-next from n m)
      ∙ filter-append passes (to_all from n m) (to_one from n m)
      ∙ ap (λ (x : Bool). filter passes (to_all from n m) ++ cond (not x) (to_one from n m) []) is

  -- one of the set gets none
  pub passed_over : (old now : List Envelope) → has_node set n ≡ true → now ≡ old ++ filter passes (to_all from n m)
      → now ≡ old ++ filter passes (to_all from (n + 1) m)
  passed_over old now is so_far =
      so_far ∙ ap (λ (es : List Envelope). old ++ es)
      (sym (others-next true is ∙ append-nil (filter passes (to_all from n m))))

  pub sent_too : (old now then : List Envelope) → has_node set n ≡ false → now ≡ old ++ filter passes (to_all from n m)
      → then ≡ now ++ to_one from n m → then ≡ old ++ filter passes (to_all from (n + 1) m)
  sent_too old now then is so_far more =
      more ∙ ap (λ (es : List Envelope). es ++ to_one from n m) so_far
      ∙ append_assoc old (filter passes (to_all from n m)) (to_one from n m)
      ∙ ap (λ (es : List Envelope). old ++ es) (sym (others-next false is))
