-- What a proposer proposes is allowed.
use Rattle.std.proofs.Common.{◌≡◌, ◌≤◌, ◌<◌, ℕ, ◌+◌, ◌-◌, List, [], ◌∷◌, nat_lt, nat_le, true, inl, Option, Some, None, refl, sym, ◌∙◌}
use Rattle.std.proofs.Common.{subst, arith, append-nil}
use Rattle.std.proofs.lemmas.Bool.{cond_both, ltb-true, ltb-false, leb-false}
use Rattle.synod.specs.declared.ballot.Ballot.{Ballot}
use Rattle.synod.specs.Messages.{Frame, Plain, to_first}
use Rattle.synod.specs.Volatile as synod_volatile
use Rattle.synod.specs.Acts as act
use Rattle.synod.specs.Acts.{Membership, Input, Local, Does, acted, campaigns}
use Rattle.synod.proofs.Doing.{sending, does_nothing, does_one, does_then, says_to_first}
use Rattle.sessions.specs.declared.command.Command.{Command}
use Rattle.sessions.specs.declared.command.Command.TheVariants.{NoOp}
use Rattle.learner.specs.Learning.{Learning, learnt_at, prefix}
use Rattle.learner.specs.Protocol.{LearnerStands}
use Rattle.proposer.specs.declared.sends.Outgoing.{Outgoing}
use Rattle.proposer.specs.Campaigning.{Campaigning, Filling, begun, prepare, closed_below, window_limit, window_filled}
use Rattle.proposer.specs.Proposing.{Proposing, gathers, gathers_on, fills, leads, proposes}
use Rattle.proposer.specs.Protocol.{CampaignStands, CampaignsStand, ProposerStands, MaySend, frames_of_all}
use Rattle.proposer.proofs.AllowedMoves.{begun_stands}
use Rattle.proposer.proofs.AllowedTick.{sending_nothing}
use Rattle.proposer.proofs.AllowedClosing.{closing, closing_stands, closes}
use Rattle.proposer.proofs.AllowedFilling.{fill_lem}

-- the window ends with the slots of which the promises tell
window_within : (position end' : ℕ) → position ≤ end' → position + (window_limit position end' - position) ≤ end' + 1
window_within position end' l = omega (arith, l)

module _ (f : Membership Command) (i : ℕ) (input : Input Command) (x : Local Command) (p : Proposing) (l : Learning) (nodes : ℕ)
    (noop : f.noop ≡ NoOp) (some_node : 1 ≤ nodes) (at : x.replica.position ≡ prefix l) (learner : LearnerStands l x.replica)
    (stands : ProposerStands p x) where
  abbrev May : Proposing × List Outgoing → Type 0
  May r = MaySend f i input x r.0 (frames_of_all i nodes r.1)

  nothing_sent : May (p, [])
  nothing_sent = record {
    campaign = x.replica.campaign;
    records = x.records;
    keeps = (refl, refl, refl);
    does = subst (Does f i input x) (sym (sending_nothing x)) (does_nothing f i input x);
    stands = record { round = stands.round; campaign = stands.campaign; waiting = stands.waiting };
  }

  module _ (k : Campaigning) (q : synod_volatile.Campaign Command) (here : x.replica.campaign ≡ Some q) (h : CampaignStands k q)
      (is_leader : k.leading ≡ true) where
    -- ---- further on
    gathering : k.end < prefix l → May (record p { campaign = Some (begun k.ballot (prefix l)) }, prepare k.ballot (prefix l) ∷ [])
    gathering past =
        let y : Local Command = acted i x (act.Gathers q 65535) in
        let one : Does f i input x y = does_one f i input x (act.Gathers q 65535)
        (here, h.leading ∙ is_leader, (let low : q.end < x.replica.position = omega (arith, past, at, h.end_) in low)) in
        let plain : List (Frame Command) = to_first nodes i Plain in
        let two : Does f i input x (sending y plain) = does_then f i input one (says_to_first f i input y nodes) in
        let k' = synod_volatile.begun q.ballot x.replica.position 65535 in
        let same : CampaignStands (begun k.ballot (prefix l)) k' =
        subst (λ (n : ℕ). CampaignStands (begun k.ballot n) k') at
        (subst (λ (b : Ballot). CampaignStands (begun b x.replica.position) k') h.ballot (begun_stands q.ballot x.replica.position)) in
        record {
          campaign = Some k';
          records = x.records;
          keeps = (refl, refl, refl);
          does = subst (λ gs. Does f i input x (sending y gs)) (sym (append-nil plain)) two;
          stands = record { round = stands.round; campaign = (k', refl, same); waiting = stands.waiting };
        }

    gather_cases : k.end < prefix l → May (gathers_on p (Some k) (prefix l))
    gather_cases past =
        cond_both (gathers p.waiting (prefix l))
        (record p { campaign = Some (begun k.ballot (prefix l)) }, prepare k.ballot (prefix l) ∷ []) (p, []) May
        (λ _. gathering past) (λ _. nothing_sent)

    -- ---- its window
    filling : prefix l ≤ k.end → May (fills p k (window_filled (closed_below (prefix l) k) p.waiting p.learnt_to l))
    filling within =
        let stays = λ (s : ℕ). nat_le (prefix l) s in
        let low : Campaigning = closed_below (prefix l) k in
        let q' = closing stays k q in
        let one : Does f i input x (campaigns x q') =
        closes stays k q h f i input x here
        (λ s no_. inl (let below : s < x.replica.position = omega (arith, leb-false (prefix l) s no_, at) in below)) in
        let g : Filling = record { proposals = low.proposals; sent = [] } in
        let n = window_limit (prefix l) k.end - prefix l in
        let filled' = fill_lem f i input nodes some_node noop low is_leader p.waiting p.learnt_to (learnt_at l) (prefix l) n (prefix l)
        (campaigns x q') (record { position' = at; learnt' = learner.learnt; waiting' = stands.waiting }) (omega arith)
        (window_within (prefix l) k.end within) g (record { campaign = q'; here = refl; stands = closing_stands stays k q h }) in
        record {
          campaign = Some filled'.campaign;
          records = x.records;
          keeps = (refl, refl, refl);
          does = subst (λ os. Does f i input x (sending (campaigns x filled'.campaign) (frames_of_all i nodes os))) (sym filled'.sends)
              (does_then f i input one filled'.does);
          stands = record { round = stands.round; campaign = (filled'.campaign, refl, filled'.stands); waiting = stands.waiting };
        }

    leads_cases : May (leads p k l)
    leads_cases =
        cond_both (nat_lt k.end (prefix l)) (gathers_on p (Some k) (prefix l))
        (fills p k (window_filled (closed_below (prefix l) k) p.waiting p.learnt_to l)) May
        (λ past. gather_cases (ltb-true k.end (prefix l) past))
        (λ within. filling (ltb-false k.end (prefix l) within))

  propose_cases : (o : Option Campaigning) → CampaignsStand o x.replica.campaign → May (proposes p o l)
  propose_cases None h = nothing_sent
  propose_cases (Some k) h =
      cond_both k.leading (leads p k l) (p, []) May (λ is_leader. leads_cases k h.0 h.1 h.2 is_leader) (λ _. nothing_sent)

  pub propose_lem : May (proposes p p.campaign l)
  propose_lem = propose_cases p.campaign stands.campaign
