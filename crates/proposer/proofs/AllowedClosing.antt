-- Proposals of slots that are settled may be closed.
use Rattle.std.proofs.Common.{◌≡◌, ◌⊎◌, ℕ, ◌==◌, Bool, true, false, cond, not, inl, inr, Option, Some, None, max, ◌+◌, refl, sym, ap, ◌∙◌}
use Rattle.std.proofs.Common.{subst, ◌<◌, ◌≤◌, leb, arith}
use Rattle.std.proofs.lemmas.Bool.{cond_both}
use Rattle.std.proofs.lemmas.Bool.Decides.{eqb_tells, nat_tests}
use Rattle.synod.specs.Volatile as synod_volatile
use Rattle.synod.specs.Volatile.{IsSettled}
use Rattle.synod.specs.Acts as act
use Rattle.synod.specs.Acts.{Membership, Input, Local, Does, MayClose, campaigns}
use Rattle.synod.proofs.Doing.{does_nothing, does_one}
use Rattle.sessions.specs.declared.command.Command.{Command}
use Rattle.proposer.specs.Campaigning.{Campaigning}
use Rattle.proposer.specs.Proposing.{Proposing, learnt_in, after_learned, closed_to, skipped_to}
use Rattle.proposer.specs.Protocol.{CampaignStands, CampaignsStand, ProposerStands, proposed_at, MayHold}
use Rattle.proposer.proofs.Proposed.{left, proposed_left, apart_left, stands_with}

-- what is left after a test was there before
was_there : (b : Bool) (o : Option Command) (c : Command) → cond b o None ≡ Some c → o ≡ Some c
was_there true o c e = e
was_there false o c e = absurd (cc)

-- the protocol's campaign where some slots stay
abbrev pub closing : (ℕ → Bool) → Campaigning → synod_volatile.Campaign Command → synod_volatile.Campaign Command
closing stays k q = record q { proposals = proposed_at (left stays k.proposals) }

module _ (stays : ℕ → Bool) (k : Campaigning) (q : synod_volatile.Campaign Command) (h : CampaignStands k q) where
  pub closing_stands : CampaignStands (record k { proposals = left stays k.proposals }) (closing stays k q)
  closing_stands = stands_with k q (left stays k.proposals) _ h (λ s. refl) (apart_left stays k.proposals h.apart)

  -- where those that go are settled
  pub may_close : (m : synod_volatile.Volatile Command) → ((s : ℕ) → stays s ≡ false → IsSettled m.position m.learnt s)
      → MayClose m q (proposed_at (left stays k.proposals))
  may_close m settled = record {
    only = λ s c e. h.proposals s ∙ was_there (stays s) (proposed_at k.proposals s) c (sym (proposed_left stays k.proposals s) ∙ e);
    all = λ s c e.
        cond_both (stays s) (proposed_at k.proposals s) None
        (λ o. proposed_at (left stays k.proposals) s ≡ o
        → (proposed_at (left stays k.proposals) s ≡ Some c) ⊎ IsSettled m.position m.learnt s)
        (λ yes_ is. inl (is ∙ sym (h.proposals s) ∙ e))
        (λ no_ is. inr (settled s no_))
        (proposed_left stays k.proposals s);
  }

  pub closes : (f : Membership Command) (i : ℕ) (input : Input Command) (x : Local Command) → x.replica.campaign ≡ Some q
      → ((s : ℕ) → stays s ≡ false → IsSettled x.replica.position x.replica.learnt s)
      → Does f i input x (campaigns x (closing stays k q))
  closes f i input x here settled =
      does_one f i input x (act.Closes q (proposed_at (left stays k.proposals))) (here, may_close x.replica settled)

-- ---- a slot that is learnt
is_other : (slot s : ℕ) → not (s == slot) ≡ false → s ≡ slot
is_other slot s e = elim (eqb_tells s slot) [
  | inl same ↦ same.1
  | inr apart ↦ (let clash : true ≡ false = sym (ap not apart.0) ∙ e in absurd (cc))
]

module _ (f : Membership Command) (i : ℕ) (input : Input Command) (x : Local Command) (p : Proposing) (slot : ℕ)
    (settled : IsSettled x.replica.position x.replica.learnt slot) (stands : ProposerStands p x) where
  abbrev other : ℕ → Bool
  other s = not (s == slot)

  learnt_cases : (o : Option Campaigning) → CampaignsStand o x.replica.campaign
      → MayHold f i input x (record p { learnt_to = max p.learnt_to (slot + 1); campaign = learnt_in slot o })
  learnt_cases None h = record {
    campaign = x.replica.campaign;
    does = does_nothing f i input x;
    stands = record { round = stands.round; campaign = h; waiting = stands.waiting };
  }
  learnt_cases (Some k) h = record {
    campaign = Some (closing other k h.0);
    does = closes other k h.0 h.2 f i input x h.1
        (λ s e. subst (λ (t : ℕ). IsSettled x.replica.position x.replica.learnt t) (sym (is_other slot s e)) settled);
    stands = record {
      round = stands.round;
      campaign = (closing other k h.0, refl, closing_stands other k h.0 h.2);
      waiting = stands.waiting;
    };
  }

  pub learned_lem : MayHold f i input x (after_learned p slot)
  learned_lem = learnt_cases p.campaign stands.campaign

-- ---- slots for which a snapshot stands
is_below : (position s : ℕ) → leb position s ≡ false → s < position
is_below position s e = grind (arith, nat_tests)

module _ (f : Membership Command) (i : ℕ) (input : Input Command) (x : Local Command) (p : Proposing) (position : ℕ)
    (reached : position ≤ x.replica.position) (stands : ProposerStands p x) where
  skipped_cases : (o : Option Campaigning) → CampaignsStand o x.replica.campaign
      → MayHold f i input x (record p { campaign = closed_to position o })
  skipped_cases None h = record {
    campaign = x.replica.campaign;
    does = does_nothing f i input x;
    stands = record { round = stands.round; campaign = h; waiting = stands.waiting };
  }
  skipped_cases (Some k) h = record {
    campaign = Some (closing (leb position) k h.0);
    does = closes (leb position) k h.0 h.2 f i input x h.1 (λ s e. inl (omega (arith, is_below position s e, reached)));
    stands = record {
      round = stands.round;
      campaign = (closing (leb position) k h.0, refl, closing_stands (leb position) k h.0 h.2);
      waiting = stands.waiting;
    };
  }

  pub skipped_lem : MayHold f i input x (skipped_to p position)
  skipped_lem = skipped_cases p.campaign stands.campaign
