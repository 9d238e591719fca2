-- What a proposer sends again, and a request that it takes in, are allowed.
use Rattle.std.proofs.Common.{◌≡◌, ℕ, zero, suc, List, [], ◌∷◌, ◌++◌, map, filter, not, Bool, true, false, cond, inl, inr, Option, Some}
use Rattle.std.proofs.Common.{None, Contains, refl, sym, ap, ◌∙◌, subst, append_assoc, append-nil}
use Rattle.std.specs.Prelude.{⊤}
use Rattle.std.proofs.lemmas.List.Elements.{Contains-append_left, Contains-push, Contains-push_cases}
use Rattle.synod.specs.declared.ballot.Ballot.{Ballot}
use Rattle.synod.specs.Messages as synod
use Rattle.synod.specs.Messages.{Frame, to_first}
use Rattle.synod.specs.Volatile as synod_volatile
use Rattle.synod.specs.Acts as act
use Rattle.synod.specs.Acts.{Membership, Input, Local, Does, acted}
use Rattle.synod.proofs.Doing.{sending, does_nothing, does_one, does_then, repeats_to_first}
use Rattle.sessions.specs.declared.submission.Submission.{Submission}
use Rattle.sessions.specs.declared.command.Command.{Command}
use Rattle.sessions.specs.declared.command.Command.TheVariants.{Request}
use Rattle.wire.specs.NodeSets.{has_node}
use Rattle.proposer.specs.declared.window.Proposal.{Proposal}
use Rattle.proposer.specs.Campaigning.{Campaigning, accept}
use Rattle.proposer.specs.Campaigning as campaign
use Rattle.proposer.specs.Proposing.{Proposing, sends_again}
use Rattle.proposer.specs.Protocol.{CampaignStands, CampaignsStand, ProposerStands, ProposalsAreApart, proposed_at, MaySend, MayCome, submitting}
use Rattle.proposer.specs.Protocol.{frames_of, frames_of_all}
use Rattle.proposer.proofs.Proposed.{proposed_first, proposed_later}

-- no frame more, and some after others
pub sending_nothing : (x : Local Command) → sending x [] ≡ x
sending_nothing x = ap (λ l. record x { sent = l }) (append-nil x.sent)

pub sending_both : (x : Local Command) (first next : List (Frame Command)) → sending (sending x first) next ≡ sending x (first ++ next)
sending_both x first next = ap (λ l. record x { sent = l }) (append_assoc x.sent first next)

-- the accepts of a proposal to all nodes
pub accept_frames : (nodes i : ℕ) (b : Ballot) (p : Proposal) (q : synod_volatile.Campaign Command) → q.ballot ≡ b
    → to_first nodes i (synod.Accept (synod_volatile.proposal q p.slot p.command)) ≡ frames_of i nodes (accept b p)
accept_frames nodes i b p q same =
    ap (λ (e : Ballot). to_first nodes i (synod.Accept (record { slot = p.slot; ballot = e; command = p.command }))) same

-- all of some frames are plain ones of the node
abbrev ArePlain : ℕ → List (Frame Command) → Type 0
ArePlain i [] = ⊤
ArePlain i (g ∷ gs) = (g ≡ record { sender = i; receiver = g.receiver; message = synod.Plain }) × ArePlain i gs

more_plain : (i to : ℕ) (gs : List (Frame Command)) → ArePlain i gs
    → ArePlain i (gs ++ record { sender = i; receiver = to; message = synod.Plain } ∷ [])
more_plain i to [] h = (refl, tt)
more_plain i to (g ∷ gs) h = (h.0, more_plain i to gs h.1)

all_plain : (nodes i : ℕ) → ArePlain i (to_first nodes i synod.Plain)
all_plain zero i = tt
all_plain (suc n) i = more_plain i n (to_first n i synod.Plain) (all_plain n i)

kept_plain : (i : ℕ) (b : Bool) (g : Frame Command) (gs kept : List (Frame Command)) → ArePlain i (g ∷ gs) → ArePlain i kept
    → ArePlain i (cond b (g ∷ kept) kept)
kept_plain i true g gs kept h k = (h.0, k)
kept_plain i false g gs kept h k = k

some_plain : (i : ℕ) (test : Frame Command → Bool) (gs : List (Frame Command)) → ArePlain i gs → ArePlain i (filter test gs)
some_plain i test [] h = tt
some_plain i test (g ∷ gs) h = kept_plain i (test g) g gs (filter test gs) h (some_plain i test gs h.1)

module _ (f : Membership Command) (i : ℕ) (input : Input Command) where
  -- plain frames may be sent
  says : (x : Local Command) (gs : List (Frame Command)) → ArePlain i gs → Does f i input x (sending x gs)
  says x [] h = subst (Does f i input x) (sym (sending_nothing x)) (does_nothing f i input x)
  says x (g ∷ gs) h =
      let one : Does f i input x (sending x (g ∷ [])) =
      subst (λ (k : Frame Command). Does f i input x (sending x (k ∷ []))) (sym h.0) (does_one f i input x (act.Says g.receiver) tt) in
      subst (Does f i input x) (sending_both x (g ∷ []) gs) (does_then f i input one (says (sending x (g ∷ [])) gs h.1))

  -- open proposals go to all nodes again
  repeats : (x : Local Command) (nodes : ℕ) (b : Ballot) (q : synod_volatile.Campaign Command) → x.replica.campaign ≡ Some q → q.ballot ≡ b
      → (ps : List Proposal) → ProposalsAreApart ps → ((s : ℕ) (c : Command) → proposed_at ps s ≡ Some c → q.proposals s ≡ Some c)
      → Does f i input x (sending x (frames_of_all i nodes (map (accept b) ps)))
  repeats x nodes b q here same [] apart open' = subst (Does f i input x) (sym (sending_nothing x)) (does_nothing f i input x)
  repeats x nodes b q here same (p ∷ ps) apart open' =
      let one : Does f i input x (sending x (frames_of i nodes (accept b p))) =
      subst (λ gs. Does f i input x (sending x gs)) (accept_frames nodes i b p q same)
      (repeats_to_first f i input x q p.slot p.command here (open' p.slot p.command (proposed_first p ps)) nodes) in
      subst (Does f i input x) (sending_both x (frames_of i nodes (accept b p)) (frames_of_all i nodes (map (accept b) ps)))
      (does_then f i input one
      (repeats (sending x (frames_of i nodes (accept b p))) nodes b q here same ps apart.1
      (λ s c e. open' s c (proposed_later p ps s c apart e))))

  module _ (x : Local Command) (p : Proposing) (stands : ProposerStands p x) (nodes : ℕ) where
    -- where it does no more than to send, it holds what it held
    only_sends : (gs : List (Frame Command)) → Does f i input x (sending x gs) → MaySend f i input x p gs
    only_sends gs does = record {
      campaign = x.replica.campaign;
      records = x.records;
      keeps = (refl, refl, refl);
      does = does;
      stands = record { round = stands.round; campaign = stands.campaign; waiting = stands.waiting };
    }

    again_flag : (k : Campaigning) (q : synod_volatile.Campaign Command) → x.replica.campaign ≡ Some q → CampaignStands k q → (b : Bool)
        → Does f i input x (sending x (frames_of_all i nodes (cond b (map (accept k.ballot) k.proposals)
        (campaign.sends_again (record k { leading = false })))))
    again_flag k q here h true =
        repeats x nodes k.ballot q here h.ballot k.proposals h.apart (λ s c e. h.proposals s ∙ e)
    again_flag k q here h false =
        let asked = λ (g : Frame Command). not (has_node k.promised g.receiver) in
        let gs = filter asked (to_first nodes i synod.Plain) in
        subst (λ l. Does f i input x (sending x l)) (sym (append-nil gs))
        (says x gs (some_plain i asked (to_first nodes i synod.Plain) (all_plain nodes i)))

    again_cases : (o : Option Campaigning) → CampaignsStand o x.replica.campaign
        → Does f i input x (sending x (frames_of_all i nodes (sends_again o)))
    again_cases None h = subst (Does f i input x) (sym (sending_nothing x)) (does_nothing f i input x)
    again_cases (Some k) h = again_flag k h.0 h.1 h.2 k.leading

    pub tick_lem : MaySend f i input x p (frames_of_all i nodes (sends_again p.campaign))
    tick_lem = only_sends (frames_of_all i nodes (sends_again p.campaign)) (again_cases p.campaign stands.campaign)

  -- ---- a request
  module _ (x : Local Command) (p : Proposing) (r : Submission) (stands : ProposerStands p x) where
    pub submit_last_lem : MayCome f i input x (record p { waiting = p.waiting ++ r ∷ [] }) (submitting x r)
    submit_last_lem = record {
      does = does_one f i input x (act.Submits (Request r)) tt;
      stands = record {
        round = stands.round;
        campaign = stands.campaign;
        waiting = λ s c. elim (Contains-push_cases p.waiting r s c) [
          | inl before ↦ Contains-append_left x.replica.waiting (Request r ∷ []) (Request s) (stands.waiting s before)
          | inr now ↦ subst (λ (a : Submission). Contains (x.replica.waiting ++ Request r ∷ []) (Request a)) now
              (Contains-push x.replica.waiting (Request r))
        ];
      };
    }

    pub submit_again_lem : MayCome f i input x p (submitting x r)
    submit_again_lem = record {
      does = does_one f i input x (act.Submits (Request r)) tt;
      stands = record {
        round = stands.round;
        campaign = stands.campaign;
        waiting = λ s c. Contains-append_left x.replica.waiting (Request r ∷ []) (Request s) (stands.waiting s c);
      };
    }
