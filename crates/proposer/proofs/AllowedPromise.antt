-- A promise may be counted, and a majority lead.
use Rattle.std.proofs.Common.{◌≡◌, ◌<◌, ℕ, List, ◌++◌, length, Bool, true, false, cond, not, ◌==◌, ◌&&◌, min, inl, inr, Option, Some, None}
use Rattle.std.proofs.Common.{Contains, refl, sym, ap, ◌∙◌, subst, arith, le_refl}
use Rattle.std.proofs.lemmas.Bool.{and_parts, eqb-true, ltb-true, not-true}
use Rattle.std.proofs.lemmas.List.{get_or-set_same, get_or-set_other, length-set}
use Rattle.std.proofs.lemmas.List.Elements.{Contains-append_left, Contains-append_right, Contains-append_cases}
use Rattle.synod.specs.declared.ballot.Ballot.{Ballot}
use Rattle.synod.specs.declared.vote.Vote.{Vote}
use Rattle.synod.specs.Majorities.{counted, IsMajority, Majority}
use Rattle.synod.specs.Messages as synod
use Rattle.synod.specs.Records.{put}
use Rattle.synod.specs.Volatile as synod_volatile
use Rattle.synod.specs.Acts as act
use Rattle.synod.specs.Acts.{Membership, Input, Local, Does, acted}
use Rattle.synod.proofs.Doing.{does_nothing, does_one, does_then}
use Rattle.synod.proofs.Puts.{put_cases}
use Rattle.sessions.specs.declared.command.Command.{Command}
use Rattle.wire.specs.NodeSets.{has_node, with_node}
use Rattle.wire.specs.Promises.{Promised}
use Rattle.wire.specs.Same.{same_ballot, same_ballot_Decides}
use Rattle.proposer.specs.Campaigning.{Campaigning, counts, with_promise, up_to, is_most}
use Rattle.proposer.specs.Proposing.{Proposing, promised, with_promised}
use Rattle.proposer.specs.Protocol.{CampaignStands, CampaignsStand, ProposerStands, MayHold}
use Rattle.proposer.proofs.Votes.{in_up_to, out_of_up_to}

-- one node more has promised
flag_put : (flags : List Bool) (f : ℕ → Bool) (from a : ℕ) → from < length flags → f a ≡ has_node flags a
    → put f from true a ≡ has_node (with_node flags from) a
flag_put flags f from a within same =
    put_cases (λ b. b ≡ has_node (with_node flags from) a) f from true a
    (λ here. sym (ap (has_node (with_node flags from)) here ∙ get_or-set_same flags from true false within))
    (λ other. same ∙ sym (get_or-set_other flags from a true false other))

-- what a promise that counts says
record Counted (k : Campaigning) (p : Promised) : Type 0 where
  gathers : k.leading ≡ false
  ballot : k.ballot ≡ p.ballot
  first : p.first ≡ k.first

counted_parts : (k : Campaigning) (from : ℕ) (p : Promised) → counts k from p ≡ true → Counted k p
counted_parts k from p e =
    let once = not (has_node k.promised from) in
    let one = and_parts (not k.leading && same_ballot k.ballot p.ballot && p.first == k.first) once e in
    let two = and_parts (not k.leading && same_ballot k.ballot p.ballot) (p.first == k.first) one.0 in
    let three = and_parts (not k.leading) (same_ballot k.ballot p.ballot) two.0 in
    record {
      gathers = not-true k.leading three.0;
      ballot = (same_ballot_Decides k.ballot p.ballot).0 three.1;
      first = eqb-true p.first k.first two.1;
    }

module _ (f : Membership Command) (i from : ℕ) (x : Local Command) (p : Proposing) (promise : Promised) (of_all : f.nodes ≡ p.nodes)
    (a_node : from < 7) (stands : ProposerStands p x) where
  abbrev in' : Input Command
  in' = act.Came from (synod.Promise promise.ballot promise.first promise.last promise.entries)

  module _ (k : Campaigning) (q : synod_volatile.Campaign Command) (here : x.replica.campaign ≡ Some q) (h : CampaignStands k q)
      (counted' : counts k from promise ≡ true) where
    abbrev last' : ℕ
    last' = min k.end promise.last

    abbrev told' : List (Vote Command)
    told' = up_to last' (k.told ++ promise.entries)

    abbrev set' : List Bool
    set' = with_node k.promised from

    abbrev counting : act.Act Command
    counting = act.Counts q from promise.last promise.entries last' told'

    abbrev more : synod_volatile.Campaign Command
    more = record q { promised = put q.promised from true; end = last'; told = told' }

    abbrev now : Bool → Campaigning
    now leads = record k { promised = set'; end = last'; told = told'; leading = leads }

    parts : Counted k promise
    parts = counted_parts k from promise counted'

    came : in' ≡ act.Came from (synod.Promise q.ballot q.first promise.last promise.entries)
    came =
        ap (λ (c : Ballot). act.Came from (synod.Promise c promise.first promise.last promise.entries)) (sym parts.ballot ∙ sym h.ballot)
        ∙ ap (λ s. act.Came from (synod.Promise q.ballot s promise.last promise.entries)) (parts.first ∙ sym h.first)

    still_gathers : q.leading ≡ false
    still_gathers = h.leading ∙ parts.gathers

    may_count : act.CountsPromise in' q from promise.last promise.entries last' told'
    may_count = record {
      gathers = still_gathers;
      came = came;
      before = omega (arith, h.end_);
      within = omega arith;
      covers_old = subst (λ l. synod_volatile.Covers l last' told') (sym h.told)
          (λ v c l. (v, in_up_to last' (k.told ++ promise.entries) v (Contains-append_left k.told promise.entries v c) l, refl, le_refl _));
      covers_new = λ v c l.
          (v, in_up_to last' (k.told ++ promise.entries) v (Contains-append_right k.told promise.entries v c) l, refl, le_refl _);
      only = λ v c. elim (Contains-append_cases k.told promise.entries v (out_of_up_to last' (k.told ++ promise.entries) v c)) [
        | inl known ↦ inl (subst (λ l. Contains l v) (sym h.told) known)
        | inr new ↦ inr new
      ];
    }

    flags : (a : ℕ) → put q.promised from true a ≡ has_node set' a
    flags a = flag_put k.promised q.promised from a (omega (arith, h.flags, a_node)) (h.promised a)

    more_stands : (leads : Bool) → CampaignStands (now leads) (record more { leading = leads })
    more_stands leads = record {
      ballot = h.ballot;
      first = h.first;
      promised = flags;
      end_ = refl;
      told = refl;
      leading = refl;
      proposals = h.proposals;
      flags = length-set k.promised from true ∙ h.flags;
      apart = h.apart;
    }

    abbrev y : Local Command
    y = acted i x counting

    does_count : Does f i in' x y
    does_count = does_one f i in' x counting (here, may_count)

    counted_flag : (leads : Bool) → is_most p.nodes set' ≡ leads → MayHold f i in' x (record p { campaign = Some (now leads) })
    counted_flag false most = record {
      campaign = Some more;
      does = does_count;
      stands = record {
        round = stands.round;
        campaign =
            (more, refl, subst (λ l. CampaignStands (now false) (record more { leading = l })) (sym still_gathers) (more_stands false));
        waiting = stands.waiting;
      };
    }
    counted_flag true most =
        let enough : IsMajority f.nodes (counted (has_node set') f.nodes) =
        subst (λ n. IsMajority n (counted (has_node set') n)) (sym of_all) (ltb-true _ _ most) in
        let all : Majority f.nodes (λ a. more.promised a ≡ true) =
        record { members = has_node set'; most = enough; each = λ a l e. flags a ∙ e } in
        record {
          campaign = Some (record more { leading = true });
          does = does_then f i in' does_count (does_one f i in' y (act.Leads more) (refl, still_gathers, all));
          stands = record {
            round = stands.round;
            campaign = (record more { leading = true }, refl, more_stands true);
            waiting = stands.waiting;
          };
        }

  goes_counting : (k : Campaigning) (q : synod_volatile.Campaign Command) → x.replica.campaign ≡ Some q → CampaignStands k q
      → (b : Bool) → counts k from promise ≡ b
      → MayHold f i in' x (record p { campaign = Some (cond b (with_promise p.nodes k from promise) k) })
  goes_counting k q here h true e = counted_flag k q here h e (is_most p.nodes (with_node k.promised from)) refl
  goes_counting k q here h false e = record {
    campaign = x.replica.campaign;
    does = does_nothing f i in' x;
    stands = record { round = stands.round; campaign = (q, here, h); waiting = stands.waiting };
  }

  promise_cases : (o : Option Campaigning) → CampaignsStand o x.replica.campaign
      → MayHold f i in' x (record p { campaign = promised p.nodes from promise o })
  promise_cases None h = record {
    campaign = x.replica.campaign;
    does = does_nothing f i in' x;
    stands = record { round = stands.round; campaign = h; waiting = stands.waiting };
  }
  promise_cases (Some k) h = goes_counting k h.0 h.1 h.2 (counts k from promise) refl

  pub promise_lem : MayHold f i in' x (with_promised p from promise)
  promise_lem = promise_cases p.campaign stands.campaign
