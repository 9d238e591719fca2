-- What a proposer does is allowed by the protocol.
use Rattle.std.proofs.Common.{◌≡◌, ℕ, ◌+◌, ◌<◌, ◌≤◌, max, List, [], ◌∷◌, ◌++◌, Bool, true, false, cond, inl, inr, Option, Some, None}
use Rattle.std.proofs.Common.{Contains, refl, sym, ap, ◌∙◌, subst, arith}
use Rattle.std.proofs.lemmas.List.Elements.{Contains-append_left, Contains-append_right, Contains-append_cases}
use Rattle.std.proofs.lemmas.Grind.{common_steps}
use Rattle.synod.specs.declared.ballot.Ballot.{Ballot}
use Rattle.synod.specs.Messages.{Plain, to_first}
use Rattle.synod.specs.Records.{with_round}
use Rattle.synod.specs.Volatile as synod_volatile
use Rattle.synod.specs.Acts as act
use Rattle.synod.specs.Acts.{Membership, Input, Local, Does, acted}
use Rattle.synod.proofs.Doing.{does_nothing, does_one, does_then, says_to_first}
use Rattle.sessions.specs.declared.submission.Submission.{Submission}
use Rattle.sessions.specs.declared.command.Command.{Command}
use Rattle.wire.specs.NodeSets.{no_nodes, has_node}
use Rattle.wire.specs.Promises.{Refused}
use Rattle.wire.specs.Same.{same_ballot}
use Rattle.proposer.specs.declared.sends.Outgoing.{Outgoing}
use Rattle.proposer.specs.Requests.{is_of, without}
use Rattle.proposer.specs.Campaigning.{Campaigning, begun}
use Rattle.proposer.specs.Proposing.{Proposing, loaded, StartsCampaign, next_round, unless_refused, after_nack}
use Rattle.proposer.specs.Protocol.{CampaignStands, CampaignsStand, ProposerStands, MayHold, MaySend, MayCome, advancing, stopping}
use Rattle.proposer.specs.Protocol.{frames_of}

-- what is left of a list was there before
left_over : (b : Bool) (r s : Submission) (rest left : List Submission) → ((t : Submission) → Contains left t → Contains rest t)
    → Contains (cond b rest (r ∷ left)) s → Contains (r ∷ rest) s
left_over true r s rest left before c = Contains-append_right (r ∷ []) rest s c
left_over false r s rest left before c = elim (Contains-append_cases (r ∷ []) left s c) [
  | inl first ↦ Contains-append_left (r ∷ []) rest s first
  | inr later ↦ Contains-append_right (r ∷ []) rest s (before s later)
]

waited_before : (client number : ℕ) (rs : List Submission) (s : Submission) → Contains (without client number rs) s → Contains rs s
waited_before client number [] s c = c
waited_before client number (r ∷ rs) s c =
    left_over (is_of client number r) r s rs (without client number rs) (waited_before client number rs) c

-- ---- a timeout
nobody : (a : ℕ) → false ≡ has_node no_nodes a
nobody a = grind (arith, common_steps)

pub begun_stands : (b : Ballot) (position : ℕ) → CampaignStands (begun b position) (synod_volatile.begun b position 65535)
begun_stands b position = record {
  ballot = refl;
  first = refl;
  promised = nobody;
  end_ = refl;
  told = refl;
  leading = refl;
  proposals = λ s. refl;
  flags = refl;
  apart = tt;
}

above_round : (r round refused b : ℕ) → r ≡ round → b ≡ max round refused + 1 → r < b
above_round r round refused b e f = omega arith

module _ (f : Membership Command) (i : ℕ) (input : Input Command) (x : Local Command) where
  timeout_sends : (old new : Proposing) (nodes : ℕ) (sent : Outgoing) → old.id ≡ i → ProposerStands old x
      → StartsCampaign old x.replica.position new sent → MaySend f i input x new (frames_of i nodes sent)
  timeout_sends old new nodes sent own stands s =
      let b : Ballot = s.ballot in
      let y : Local Command = acted i x (act.Begins b 65535) in
      let first : Does f i input x y = does_one f i input x (act.Begins b 65535)
      (s.own ∙ own, above_round x.records.round old.round old.refused b.round stands.round s.round) in
      let all : Does f i input x (record y { sent = x.sent ++ to_first nodes i Plain }) =
      does_then f i input first (says_to_first f i input y nodes) in
      let frames : to_first nodes i Plain ≡ frames_of i nodes sent = ap (λ o. frames_of i nodes o) (sym s.asks_all) in
      subst (λ (p : Proposing). MaySend f i input x p (frames_of i nodes sent)) (sym s.leaves)
      (subst (λ l. MaySend f i input x (record old { round = next_round old; campaign = Some (begun b x.replica.position) }) l) frames
      (record {
        campaign = Some (synod_volatile.begun b x.replica.position 65535);
        records = with_round x.records b.round;
        keeps = (refl, refl, refl);
        does = all;
        stands = record {
          round = s.round;
          campaign = (synod_volatile.begun b x.replica.position 65535, refl, begun_stands b x.replica.position);
          waiting = stands.waiting;
        };
      }))

  pub timeout_lem : (old new : Proposing) (position nodes : ℕ) (sent : Outgoing) → old.id ≡ i → x.replica.position ≡ position
      → ProposerStands old x → StartsCampaign old position new sent → MaySend f i input x new (frames_of i nodes sent)
  timeout_lem old new position nodes sent own at stands s =
      timeout_sends old new nodes sent own stands (subst (λ (q : ℕ). StartsCampaign old q new sent) (sym at) s)

  -- ---- a refusal
  nack_flag : (p : Proposing) (refused : ℕ) (k : Campaigning) (b : Bool) → ProposerStands p x → CampaignsStand (Some k) x.replica.campaign
      → MayHold f i input x (record p { refused = refused; campaign = cond b None (Some k) })
  nack_flag p refused k true stands h = record {
    campaign = None;
    does = does_one f i input x act.Quits tt;
    stands = record { round = stands.round; campaign = refl; waiting = stands.waiting };
  }
  nack_flag p refused k false stands h = record {
    campaign = x.replica.campaign;
    does = does_nothing f i input x;
    stands = record { round = stands.round; campaign = h; waiting = stands.waiting };
  }

  nack_cases : (p : Proposing) (n : Refused) (o : Option Campaigning) → ProposerStands p x → CampaignsStand o x.replica.campaign
      → MayHold f i input x (record p { refused = max p.refused n.promised.round; campaign = unless_refused n o })
  nack_cases p n None stands h = record {
    campaign = x.replica.campaign;
    does = does_nothing f i input x;
    stands = record { round = stands.round; campaign = h; waiting = stands.waiting };
  }
  nack_cases p n (Some k) stands h = nack_flag p (max p.refused n.promised.round) k (same_ballot k.ballot n.ballot) stands h

  pub nack_lem : (p : Proposing) (n : Refused) → ProposerStands p x → MayHold f i input x (after_nack p n)
  nack_lem p n stands = nack_cases p n p.campaign stands stands.campaign

  -- ---- a request that is executed
  pub execution_lem : (p : Proposing) (client number : ℕ) → ProposerStands p x
      → MayHold f i input x (record p { waiting = without client number p.waiting })
  execution_lem p client number stands = record {
    campaign = x.replica.campaign;
    does = does_nothing f i input x;
    stands = record {
      round = stands.round;
      campaign = stands.campaign;
      waiting = λ r c. stands.waiting r (waited_before client number p.waiting r c);
    };
  }

  -- ---- the log is executed, and the node stops
  pub advance_lem : (p : Proposing) (position : ℕ) → x.replica.position ≤ position → ProposerStands p x
      → MayCome f i input x p (advancing x position)
  advance_lem p position up stands = record {
    does = does_one f i input x (act.Advances position) up;
    stands = record { round = stands.round; campaign = stands.campaign; waiting = stands.waiting };
  }

  pub stop_lem : (p : Proposing) → ProposerStands p x → MayCome f i input x (loaded p.id p.nodes p.round) (stopping x x.records)
  stop_lem p stands = record {
    does = does_one f i input x act.Forgets tt;
    stands = record { round = stands.round; campaign = refl; waiting = λ r c. absurd (omega (arith, c.1)) };
  }

  pub stop_written_lem : (p : Proposing) → p.id ≡ i → p.id < 7 → ProposerStands p x
      → MayCome f i input x (loaded p.id p.nodes (next_round p)) (stopping x (with_round x.records (next_round p)))
  stop_written_lem p own a_node stands =
      let b : Ballot = record { round = next_round p; node = p.id; begun = omega arith; of_a_node = a_node } in
      let first : Does f i input x (acted i x (act.Begins b 65535)) =
      does_one f i input x (act.Begins b 65535) (own, above_round x.records.round p.round p.refused b.round stands.round refl) in
      record {
        does = does_then f i input first (does_one f i input (acted i x (act.Begins b 65535)) act.Forgets tt);
        stands = record { round = refl; campaign = refl; waiting = λ r c. absurd (omega (arith, c.1)) };
      }
