-- A leader may open the proposals with which it fills its window.
use Rattle.std.proofs.Common.{◌≡◌, ◌≤◌, ℕ, zero, suc, ◌+◌, ◌||◌, List, [], ◌∷◌, ◌++◌, length, nat_le, true, false, cond, Option, Some, None}
use Rattle.std.proofs.Common.{is_some, Contains, refl, sym, ap, ◌∙◌, subst, arith, append_assoc, append-nil}
use Rattle.std.specs.Prelude.{⊤}
use Rattle.std.specs.List.{list_any}
use Rattle.std.proofs.lemmas.Bool.{cond_both, or_parts}
use Rattle.synod.specs.Messages as synod
use Rattle.synod.specs.Messages.{Frame, to_first}
use Rattle.synod.specs.Records.{put}
use Rattle.synod.specs.Volatile as synod_volatile
use Rattle.synod.specs.Volatile.{proposal}
use Rattle.synod.specs.Acts.{Membership, Input, Local, Does, IsChoice, MayPropose, campaigns}
use Rattle.synod.proofs.Doing.{sending, does_nothing, does_then, proposes_to_first}
use Rattle.sessions.specs.declared.submission.Submission.{Submission}
use Rattle.sessions.specs.declared.command.Command.{Command}
use Rattle.sessions.specs.declared.command.Command.TheVariants.{NoOp, Request}
use Rattle.proposer.specs.declared.sends.Outgoing.{Outgoing}
use Rattle.proposer.specs.declared.window.Proposal.{Proposal}
use Rattle.proposer.specs.declared.window.TheConstants.{MOST_OPEN}
use Rattle.proposer.specs.Campaigning.{Campaigning, Filling, is_at, accept, choice, placed, with_proposal, proposing, stepped, going_on}
use Rattle.proposer.specs.Campaigning.{filled}
use Rattle.proposer.specs.Protocol.{CampaignStands, proposed_at, frames_of, frames_of_all}
use Rattle.proposer.proofs.Proposed.{unopened, apart_placed, put_placed, stands_with}
use Rattle.proposer.proofs.Choosing.{choice_lem}
use Rattle.proposer.proofs.AllowedTick.{sending_nothing, sending_both, accept_frames}

none_of : {A : Type 0} (o : Option A) → is_some o ≡ false → o ≡ None
none_of None e = refl
none_of (Some x) e = absurd (cc)

-- the frames of two lists of messages
frames_both : (i nodes : ℕ) (os more : List Outgoing)
    → frames_of_all i nodes os ++ frames_of_all i nodes more ≡ frames_of_all i nodes (os ++ more)
frames_both i nodes [] more = refl
frames_both i nodes (o ∷ os) more =
    append_assoc (frames_of i nodes o) (frames_of_all i nodes os) (frames_of_all i nodes more)
    ∙ ap (λ l. frames_of i nodes o ++ l) (frames_both i nodes os more)

module _ (f : Membership Command) (i : ℕ) (input : Input Command) (nodes : ℕ) (some_node : 1 ≤ nodes) (noop : f.noop ≡ NoOp) (k : Campaigning)
    (leads : k.leading ≡ true) (waiting : List Submission) (learnt_to : ℕ) (learnt : ℕ → Option Command) (position : ℕ) where
  -- the replica holds what a leader goes by
  pub record Knows (x : Local Command) : Type 0 where
    pub position' : x.replica.position ≡ position
    pub learnt' : (s : ℕ) → x.replica.learnt s ≡ learnt s
    pub waiting' : (r : Submission) → Contains waiting r → Contains x.replica.waiting (Request r)

  -- its campaign is this one, with these proposals
  pub record Holds (x : Local Command) (old : Filling) : Type 0 where
    pub campaign : synod_volatile.Campaign Command
    pub here : x.replica.campaign ≡ Some campaign
    pub stands : CampaignStands (record k { proposals = old.proposals }) campaign

  -- the window may be filled on from one to another
  pub record Fills (x : Local Command) (old new : Filling) : Type 0 where
    pub campaign : synod_volatile.Campaign Command
    pub sent : List Outgoing
    pub sends : new.sent ≡ old.sent ++ sent
    pub does : Does f i input x (sending (campaigns x campaign) (frames_of_all i nodes sent))
    pub stands : CampaignStands (record k { proposals = new.proposals }) campaign

  stays : (x : Local Command) (g : Filling) → Holds x g → Fills x g g
  stays x g h = record {
    campaign = h.campaign;
    sent = [];
    sends = sym (append-nil g.sent);
    does = subst (Does f i input x)
        (ap (λ (o : Option (synod_volatile.Campaign Command)). record x { replica = record x.replica { campaign = o } }) h.here
        ∙ sym (sending_nothing (campaigns x h.campaign))) (does_nothing f i input x);
    stands = h.stands;
  }

  abbrev come : (x : Local Command) (old new : Filling) → Fills x old new → Local Command
  come x old new g = sending (campaigns x g.campaign) (frames_of_all i nodes g.sent)

  fills_then : (x : Local Command) (old mid new : Filling) (g : Fills x old mid) → Fills (come x old mid g) mid new → Fills x old new
  fills_then x old mid new g h = record {
    campaign = h.campaign;
    sent = g.sent ++ h.sent;
    sends = h.sends ∙ ap (λ l. l ++ h.sent) g.sends ∙ append_assoc old.sent g.sent h.sent;
    does = subst (Does f i input x)
        (sending_both (campaigns x h.campaign) (frames_of_all i nodes g.sent) (frames_of_all i nodes h.sent)
        ∙ ap (λ l. sending (campaigns x h.campaign) l) (frames_both i nodes g.sent h.sent))
        (does_then f i input g.does h.does);
    stands = h.stands;
  }

  opens : (n : ℕ) (x : Local Command) (q : synod_volatile.Campaign Command) (s : ℕ) (c : Command) → 1 ≤ n → x.replica.campaign ≡ Some q
      → MayPropose f x.replica q s c
      → Does f i input x (sending (campaigns x (record q { proposals = put q.proposals s (Some c) }))
      (to_first n i (synod.Accept (proposal q s c))))
  opens zero x q s c l here may = absurd (omega (arith, l))
  opens (suc n) x q s c l here may = proposes_to_first f i input x q s c here may n

  -- ---- one slot
  module _ (x : Local Command) (knows : Knows x) (slot : ℕ) (from : position ≤ slot) (to : slot ≤ k.end) (g : Filling) (h : Holds x g) where
    module _ (closed : list_any (is_at slot) g.proposals ≡ false) (unlearnt : is_some (learnt slot) ≡ false) where
      none : proposed_at g.proposals slot ≡ None
      none = unopened slot g.proposals closed

      may : (c : Command) → choice k waiting learnt_to slot g.proposals ≡ Some c → MayPropose f x.replica h.campaign slot c
      may c e = record {
        leads = h.stands.leading ∙ leads;
        from = omega (arith, from, knows.position');
        to = omega (arith, to, h.stands.end_);
        unopened = h.stands.proposals slot ∙ none;
        unlearnt = knows.learnt' slot ∙ none_of (learnt slot) unlearnt;
        choice = subst (λ told. IsChoice f x.replica told slot c) (sym h.stands.told)
            (choice_lem f x.replica waiting noop knows.waiting' k learnt_to slot g.proposals c e);
      }

      opening : (c : Command) → choice k waiting learnt_to slot g.proposals ≡ Some c
          → Fills x g (with_proposal k.ballot g (record { slot = slot; command = c }))
      opening c e =
          let p : Proposal = record { slot = slot; command = c } in
          let q = h.campaign in
          let frames : to_first nodes i (synod.Accept (proposal q slot c)) ≡ frames_of_all i nodes (accept k.ballot p ∷ []) =
          accept_frames nodes i k.ballot p q h.stands.ballot ∙ sym (append-nil (frames_of i nodes (accept k.ballot p))) in
          record {
            campaign = record q { proposals = put q.proposals slot (Some c) };
            sent = accept k.ballot p ∷ [];
            sends = refl;
            does = subst (λ l. Does f i input x (sending (campaigns x (record q { proposals = put q.proposals slot (Some c) })) l)) frames
                (opens nodes x q slot c some_node h.here (may c e));
            stands = stands_with _ q (placed p g.proposals) (put q.proposals slot (Some c)) h.stands
                (put_placed p q.proposals g.proposals none h.stands.proposals) (apart_placed p g.proposals none h.stands.apart);
          }

    abbrev StepFills : Option Filling → Type 0
    StepFills None = ⊤
    StepFills (Some new) = Fills x g new

    chosen : list_any (is_at slot) g.proposals ≡ false → is_some (learnt slot) ≡ false → (o : Option Command)
        → choice k waiting learnt_to slot g.proposals ≡ o → StepFills (proposing k.ballot slot g o)
    chosen closed unlearnt None e = tt
    chosen closed unlearnt (Some c) e = opening closed unlearnt c e

    step_fills : StepFills (stepped k waiting learnt_to (is_some (learnt slot)) slot g)
    step_fills =
        let next = proposing k.ballot slot g (choice k waiting learnt_to slot g.proposals) in
        cond_both (is_some (learnt slot) || list_any (is_at slot) g.proposals) (Some g)
        (cond (nat_le MOST_OPEN (length g.proposals)) None next) StepFills
        (λ _. stays x g h)
        (λ free. (let parts = or_parts (is_some (learnt slot)) (list_any (is_at slot) g.proposals) free in
        cond_both (nat_le MOST_OPEN (length g.proposals)) None next StepFills (λ _. tt)
        (λ _. chosen parts.1 parts.0 (choice k waiting learnt_to slot g.proposals) refl)))

    goes_on : (o : Option Filling) (rest : Filling → Filling)
        → ((new : Filling) (s : Fills x g new) → Fills (come x g new s) new (rest new))
        → StepFills o → Fills x g (going_on o g rest)
    goes_on None rest then s = stays x g h
    goes_on (Some new) rest then s = fills_then x g new (rest new) s (then new s)

  -- ---- so many slots
  pub fill_lem : (n slot : ℕ) (x : Local Command) → Knows x → position ≤ slot → slot + n ≤ k.end + 1 → (g : Filling) → Holds x g
      → Fills x g (filled k waiting learnt_to learnt n slot g)
  fill_lem zero slot x knows from to g h = stays x g h
  fill_lem (suc n) slot x knows from to g h =
      goes_on x knows slot from (omega (arith, to)) g h (stepped k waiting learnt_to (is_some (learnt slot)) slot g)
      (λ new. filled k waiting learnt_to learnt n (slot + 1) new)
      (λ new s. fill_lem n (slot + 1) (come x g new s)
      (record { position' = knows.position'; learnt' = knows.learnt'; waiting' = knows.waiting' })
      (omega (arith, from)) (omega (arith, to)) new (record { campaign = s.campaign; here = refl; stands = s.stands }))
      (step_fills x knows slot from (omega (arith, to)) g h)
