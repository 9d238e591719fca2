-- What is proposed at each slot, where proposals come and go.
use Rattle.std.proofs.Common.{◌≡◌, ℕ, ◌==◌, List, [], ◌∷◌, Bool, true, false, cond, filter, nat_lt, Option, Some, None, refl, sym, ap, ◌∙◌}
use Rattle.std.specs.List.{list_any}
use Rattle.std.proofs.lemmas.Bool.{cond_both, cond-true, cond-false, eq-eqb, eqb-true, eqb-false, ne_eqb, or_parts}
use Rattle.synod.specs.Records.{put}
use Rattle.synod.specs.Volatile.{Campaign}
use Rattle.synod.proofs.Puts.{put_cases}
use Rattle.sessions.specs.declared.command.Command.{Command}
use Rattle.proposer.specs.declared.window.Proposal.{Proposal}
use Rattle.proposer.specs.Campaigning.{Campaigning, is_at, placed}
use Rattle.proposer.specs.Protocol.{proposed_at, ProposalsAreApart, CampaignStands}

-- the first proposal stands at its own slot
pub proposed_first : (p : Proposal) (ps : List Proposal) → proposed_at (p ∷ ps) p.slot ≡ Some p.command
proposed_first p ps = cond-true (p.slot == p.slot) (Some p.command) (proposed_at ps p.slot) (eq-eqb p.slot p.slot refl)

-- the others stand at theirs
pub proposed_later : (p : Proposal) (ps : List Proposal) (s : ℕ) (c : Command) → ProposalsAreApart (p ∷ ps) → proposed_at ps s ≡ Some c
    → proposed_at (p ∷ ps) s ≡ Some c
proposed_later p ps s c apart e =
    cond_both (p.slot == s) (Some p.command) (proposed_at ps s) (λ o. o ≡ Some c)
    (λ same. (let at : p.slot ≡ s = eqb-true p.slot s same in
    let clash : None ≡ Some c = sym apart.0 ∙ ap (λ t. proposed_at ps t) at ∙ e in absurd (cc)))
    (λ other. e)

-- ---- some slots are closed
module _ (stays : ℕ → Bool) where
  abbrev pub left : List Proposal → List Proposal
  left ps = filter (λ (p : Proposal). stays p.slot) ps

  left_first : (b : Bool) (p : Proposal) (ps : List Proposal) (s : ℕ) → stays p.slot ≡ b
      → proposed_at (left ps) s ≡ cond (stays s) (proposed_at ps s) None
      → proposed_at (cond b (p ∷ left ps) (left ps)) s ≡ cond (stays s) (proposed_at (p ∷ ps) s) None
  left_first true p ps s is e =
      cond_both (p.slot == s) (Some p.command) (proposed_at ps s)
      (λ o. cond (p.slot == s) (Some p.command) (proposed_at (left ps) s) ≡ cond (stays s) o None)
      (λ same. cond-true (p.slot == s) (Some p.command) (proposed_at (left ps) s) same
      ∙ sym (cond-true (stays s) (Some p.command) None (sym (ap stays (eqb-true p.slot s same)) ∙ is)))
      (λ other. cond-false (p.slot == s) (Some p.command) (proposed_at (left ps) s) other ∙ e)
  left_first false p ps s is e =
      cond_both (p.slot == s) (Some p.command) (proposed_at ps s)
      (λ o. proposed_at (left ps) s ≡ cond (stays s) o None)
      (λ same. (let closed : stays s ≡ false = sym (ap stays (eqb-true p.slot s same)) ∙ is in
      e ∙ cond-false (stays s) (proposed_at ps s) None closed ∙ sym (cond-false (stays s) (Some p.command) None closed)))
      (λ other. e)

  -- what is left is what stood at the slots that stay
  pub proposed_left : (ps : List Proposal) (s : ℕ) → proposed_at (left ps) s ≡ cond (stays s) (proposed_at ps s) None
  proposed_left [] s = sym (cond_both (stays s) None None (λ (o : Option Command). o ≡ None) (λ _. refl) (λ _. refl))
  proposed_left (p ∷ ps) s = left_first (stays p.slot) p ps s refl (proposed_left ps s)

  apart_first : (b : Bool) (p : Proposal) (ps : List Proposal) → proposed_at (left ps) p.slot ≡ None → ProposalsAreApart (left ps)
      → ProposalsAreApart (cond b (p ∷ left ps) (left ps))
  apart_first true p ps none rest = (none, rest)
  apart_first false p ps none rest = rest

  pub apart_left : (ps : List Proposal) → ProposalsAreApart ps → ProposalsAreApart (left ps)
  apart_left [] h = tt
  apart_left (p ∷ ps) h =
      apart_first (stays p.slot) p ps
      (proposed_left ps p.slot ∙ cond_both (stays p.slot) (proposed_at ps p.slot) None (λ o. o ≡ None) (λ _. h.0) (λ _. refl))
      (apart_left ps h.1)

-- ---- a proposal is placed
-- two tests of which one at most passes may change places
swapped : (a b : Bool) (x y o : Option Command) → (a ≡ true → b ≡ true → ⊥) → cond a x (cond b y o) ≡ cond b y (cond a x o)
swapped true true x y o h = absurd (h refl refl)
swapped true false x y o h = refl
swapped false true x y o h = refl
swapped false false x y o h = refl

-- what has nothing at a slot has nothing there in its parts
first_none : (b : Bool) (c : Command) (o : Option Command) → cond b (Some c) o ≡ None → (b ≡ false) × (o ≡ None)
first_none true c o e = absurd (cc)
first_none false c o e = (refl, e)

pub unopened : (slot : ℕ) (ps : List Proposal) → list_any (is_at slot) ps ≡ false → proposed_at ps slot ≡ None
unopened slot [] e = refl
unopened slot (p ∷ ps) e =
    let parts = or_parts (p.slot == slot) (list_any (is_at slot) ps) e in
    cond-false (p.slot == slot) (Some p.command) (proposed_at ps slot) parts.0 ∙ unopened slot ps parts.1

module _ (p : Proposal) where
  placed_first : (b : Bool) (q : Proposal) (qs : List Proposal) (s : ℕ) → (q.slot == p.slot) ≡ false
      → proposed_at (placed p qs) s ≡ proposed_at (p ∷ qs) s
      → proposed_at (cond b (q ∷ placed p qs) (p ∷ q ∷ qs)) s ≡ proposed_at (p ∷ q ∷ qs) s
  placed_first true q qs s other e =
      ap (λ o. cond (q.slot == s) (Some q.command) o) e
      ∙ swapped (q.slot == s) (p.slot == s) (Some q.command) (Some p.command) (proposed_at qs s)
      (λ one two. eqb-false q.slot p.slot other (eqb-true q.slot s one ∙ sym (eqb-true p.slot s two)))
  placed_first false q qs s other e = refl

  -- it stands at its slot, and the others at theirs
  pub proposed_placed : (qs : List Proposal) (s : ℕ) → proposed_at qs p.slot ≡ None → proposed_at (placed p qs) s ≡ proposed_at (p ∷ qs) s
  proposed_placed [] s none = refl
  proposed_placed (q ∷ qs) s none =
      let parts = first_none (q.slot == p.slot) q.command (proposed_at qs p.slot) none in
      placed_first (nat_lt q.slot p.slot) q qs s parts.0 (proposed_placed qs s parts.1)

  apart_more : (b : Bool) (q : Proposal) (qs : List Proposal) → proposed_at (q ∷ qs) p.slot ≡ None → ProposalsAreApart (q ∷ qs)
      → ProposalsAreApart (placed p qs) → ProposalsAreApart (cond b (q ∷ placed p qs) (p ∷ q ∷ qs))
  apart_more true q qs none h rest =
      let parts = first_none (q.slot == p.slot) q.command (proposed_at qs p.slot) none in (
        proposed_placed qs q.slot parts.1
            ∙ cond-false (p.slot == q.slot) (Some p.command) (proposed_at qs q.slot)
            (ne_eqb p.slot q.slot (λ e. eqb-false q.slot p.slot parts.0 (sym e))) ∙ h.0,
        rest,
      )
  apart_more false q qs none h rest = (none, h)

  pub apart_placed : (qs : List Proposal) → proposed_at qs p.slot ≡ None → ProposalsAreApart qs → ProposalsAreApart (placed p qs)
  apart_placed [] none h = (refl, tt)
  apart_placed (q ∷ qs) none h =
      let parts = first_none (q.slot == p.slot) q.command (proposed_at qs p.slot) none in
      apart_more (nat_lt q.slot p.slot) q qs none h (apart_placed qs parts.1 h.1)

  -- and so it does in the protocol's campaign
  pub put_placed : (proposals : ℕ → Option Command) (qs : List Proposal) → proposed_at qs p.slot ≡ None
      → ((s : ℕ) → proposals s ≡ proposed_at qs s) → (s : ℕ)
      → put proposals p.slot (Some p.command) s ≡ proposed_at (placed p qs) s
  put_placed proposals qs none same s =
      put_cases (λ o. o ≡ proposed_at (placed p qs) s) proposals p.slot (Some p.command) s
      (λ here. sym (proposed_placed qs s none ∙ ap (λ t. proposed_at (p ∷ qs) t) here ∙ proposed_first p qs))
      (λ other. same s ∙ sym (proposed_placed qs s none
      ∙ cond-false (p.slot == s) (Some p.command) (proposed_at qs s) (ne_eqb p.slot s (λ e. other (sym e)))))

-- ---- a campaign stands for the protocol's with other proposals too
pub stands_with : (k : Campaigning) (q : Campaign Command) (ps : List Proposal) (proposals : ℕ → Option Command) → CampaignStands k q
    → ((s : ℕ) → proposals s ≡ proposed_at ps s) → ProposalsAreApart ps
    → CampaignStands (record k { proposals = ps }) (record q { proposals = proposals })
stands_with k q ps proposals h same apart = record {
  ballot = h.ballot;
  first = h.first;
  promised = h.promised;
  end_ = h.end_;
  told = h.told;
  leading = h.leading;
  proposals = same;
  flags = h.flags;
  apart = apart;
}
