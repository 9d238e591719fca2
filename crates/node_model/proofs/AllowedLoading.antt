-- A node that has loaded its records holds what they say, and nothing else.
use Rattle.std.proofs.Common.{◌≡◌, ℕ, zero, ◌<◌, ◌^◌, List, [], Option, Some, None, refl, sym, ap, subst, ◌∙◌, arith}
use Rattle.std.proofs.Common.{◌≤◌}
use Rattle.byteorder.specs.Endian.{big_number, big_bytes}
use Rattle.byteorder.specs.Numbers.{big_number-reads_back}
use Rattle.synod.specs.Ballots.{rank, rank_of}
use Rattle.synod.specs.declared.ballot.Ballot.{Ballot}
use Rattle.synod.specs.Volatile.{Volatile, blank}
use Rattle.synod.specs.Acts.{Local}
use Rattle.synod.proofs.Thinking.{none_in}
use Rattle.stable.specs.Records.{Records}
use Rattle.stable.specs.declared.key.Key.TheVariants as key
use Rattle.acceptor.specs.Accepting.{Accepting, RecordsSay, IsCovered}
use Rattle.acceptor.specs.Protocol.{RecordsStand}
use Rattle.acceptor.proofs.SayingOne.{one_promise, one_floor, one_sealed, one_vote_each}
use Rattle.sessions.specs.declared.command.Command.{Command}
use Rattle.learner.specs.Learning.{Learning, unlearnt_from}
use Rattle.learner.specs.Protocol.{LearnerStands}
use Rattle.proposer.specs.Proposing.{Proposing, loaded}
use Rattle.proposer.specs.Protocol.{ProposerStands}
use Rattle.node_model.specs.Loading.{IsLoaded, LoadsRound}
use Rattle.node_model.specs.Replicas.{ReplicaState, position}
use Rattle.node_model.specs.Protocol.{ReplicaStands, RecordsHold, SaysRound}
use Rattle.node_model.proofs.Learnt.{loaded_begins}

-- ---- a record says one round
read_again : (n : ℕ) → n < 2 ^ 64 → big_number 8 (big_bytes 8 n) ≡ n
read_again n fits = big_number-reads_back 8 n [] fits

one_round : (o : Option (List ℕ)) (a b : ℕ) → SaysRound o a → SaysRound o b → a ≡ b
one_round None a b x y = x ∙ sym y
one_round (Some bytes) a b x y =
    sym (read_again a x.fits) ∙ ap (big_number 8) (sym x.spelled ∙ y.spelled) ∙ read_again b y.fits

-- ---- a node that has loaded its records
loads_round : (o : Option (List ℕ)) (id nodes : ℕ) (p : Proposing) → LoadsRound o id nodes p
    → SaysRound o p.round × (p ≡ loaded id nodes p.round)
loads_round None id nodes p h =
    let none : p.round ≡ zero = ap (λ (q : Proposing). q.round) h in
    (none, h ∙ ap (loaded id nodes) (sym none))
loads_round (Some bytes) id nodes p h = (h.0, h.1)

-- a replica that holds nothing but its position
abbrev pub blank_at : ℕ → Volatile Command
blank_at position = record blank { position = position }

unlearnt_stands : (nodes first position : ℕ) → LearnerStands (unlearnt_from nodes first) (blank_at position)
unlearnt_stands nodes first position = record {
  learnt = λ s. refl;
  heard = λ s a b c within told. (let bad : None ≡ Some c = told in absurd (cc));
}

idle_stands : (id nodes round position : ℕ) (x : Local Command) → x.records.round ≡ round → x.replica ≡ blank_at position
    → ProposerStands (loaded id nodes round) x
idle_stands id nodes round position x same none = record {
  round = same;
  campaign = ap (λ (s : Volatile Command). s.campaign) none;
  waiting = λ r c. absurd (none_in r c);
}

-- where the votes of one acceptor are covered, so are those of each other that the same records tell of
covered_too : (records : Records) (a b : Accepting) → RecordsSay records a → RecordsSay records b → IsCovered a → IsCovered b
covered_too records a b says_a says_b covered = λ s v low there.
    let floor = one_floor records a b says_a says_b in
    let held : a.vote s ≡ Some v = one_vote_each records a b says_a says_b s ∙ there in
    subst (λ (o : Option Ballot). rank v.ballot ≤ rank_of o) (one_sealed records a b says_a says_b)
    (covered s v (omega (arith, low, floor)) held)

module _ (records : Records) (id nodes : ℕ) (m : ReplicaState) (loads : IsLoaded records id nodes m) where
  round_loaded : SaysRound (records key.Round) m.proposer.round × (m.proposer ≡ loaded id nodes m.proposer.round)
  round_loaded = loads_round (records key.Round) id nodes m.proposer loads.proposer

  -- that its votes are covered it can't see, but the records are those of a run
  pub loaded_holds : (a : Accepting) (round : ℕ) → RecordsHold records a round → RecordsHold records m.acceptor m.proposer.round
  loaded_holds a round holds = record {
    acceptor = loads.acceptor;
    covered = covered_too records a m.acceptor holds.acceptor loads.acceptor holds.covered;
    proposer = round_loaded.0;
  }

  module _ (a : Accepting) (round : ℕ) (x : Local Command) (holds : RecordsHold records a round) (stands : RecordsStand a round x.records)
      (none : x.replica ≡ blank_at (position m)) where
    floors_one : a.floor ≡ m.acceptor.floor
    floors_one = one_floor records a m.acceptor holds.acceptor loads.acceptor

    records_stand : RecordsStand m.acceptor m.proposer.round x.records
    records_stand = record {
      promise = stands.promise ∙ one_promise records a m.acceptor holds.acceptor loads.acceptor;
      vote = λ s from.
          let also : a.floor ≤ s = omega (arith, floors_one, from) in
          stands.vote s also ∙ one_vote_each records a m.acceptor holds.acceptor loads.acceptor s;
      round_ = stands.round_ ∙ one_round (records key.Round) round m.proposer.round holds.proposer round_loaded.0;
      floor_ = stands.floor_ ∙ floors_one;
    }

    -- what it holds stands
    pub loaded_stands : ReplicaStands m x
    loaded_stands = record {
      records = records_stand;
      learner = subst (LearnerStands m.learner) (sym none)
          (subst (λ (l : Learning). LearnerStands l (blank_at (position m))) (sym loads.learner)
          (unlearnt_stands nodes m.acceptor.floor (position m)));
      proposer = subst (λ (p : Proposing). ProposerStands p x) (sym round_loaded.1)
          (idle_stands id nodes m.proposer.round (position m) x records_stand.round_ none);
      position_ = ap (λ (s : Volatile Command). s.position) none;
      level = (let at = loaded_begins records id nodes m loads in omega (arith, at));
    }
