-- What an acceptor does is allowed by the protocol.
use Rattle.std.proofs.Common.{◌≡◌, ℕ, ◌≤◌, List, [], ◌∷◌, Option, Some, inl, inr, refl, sym, ◌∙◌, arith, le_refl}
use Rattle.std.proofs.lemmas.Bool.{le-ltb}
use Rattle.std.proofs.lemmas.Bool.Decides.{eqb_tells}
use Rattle.synod.specs.Ballots.{rank, rank_of}
use Rattle.synod.specs.declared.ballot.Ballot.{Ballot}
use Rattle.synod.specs.declared.vote.Vote.{Vote}
use Rattle.synod.specs.Messages.{Frame, Plain, Promise, Accept, Accepted, to_first}
use Rattle.synod.specs.Records as synod_records
use Rattle.synod.specs.Records.{TellsVotes, with_promise, with_vote, with_floor}
use Rattle.synod.specs.Records.{put as put_one}
use Rattle.synod.specs.Acts as act
use Rattle.synod.specs.Acts.{Membership, Input, Local, Brings, Does}
use Rattle.synod.proofs.Doing.{does_nothing, does_one, does_then, confirms_to_first}
use Rattle.synod.proofs.Puts.{put_same}
use Rattle.sessions.specs.declared.command.Command.{Command}
use Rattle.wire.specs.Promises.{Promised}
use Rattle.acceptor.specs.declared.answer.Answer.{Answer}
use Rattle.acceptor.specs.declared.answer.Answer.TheVariants as answers
use Rattle.acceptor.specs.Accepting.{Accepting, put, nack, TellsFrom, AnswersPrepare, after_prepare, accept_answer, after_accept}
use Rattle.acceptor.specs.Accepting.{after_checkpoint, after_trim}
use Rattle.acceptor.specs.Ranges.{IsPromiseFrom}
use Rattle.acceptor.specs.Protocol.{RecordsStand, MayWrite, MayAnswer, answer_frames}
use Rattle.acceptor.proofs.RangeLemmas.{told_from}
use Rattle.acceptor.proofs.VerdictLemmas.{judged, refused, behind, taken}

-- two lists of votes with one vote more
put_alike : (f g : ℕ → Option (Vote Command)) (i : ℕ) (x : Option (Vote Command)) (s : ℕ) → f s ≡ g s
    → put_one f i x s ≡ put g i x s
put_alike f g i x s same = elim (eqb_tells s i) [ inl e ↦ rw e.0 refl | inr ne ↦ rw ne.0 same ]

module _ (f : Membership Command) (i : ℕ) (input : Input Command) (x : Local Command) (a : Accepting) (round : ℕ)
    (stands : RecordsStand a round x.records) where
  same_records : MayWrite f i input x a round
  same_records = record { after = x.records; does = does_nothing f i input x; stands = stands }

  refuses : (to : ℕ) → MayAnswer f i input x a round (record { sender = i; receiver = to; message = Plain } ∷ [])
  refuses to = record { after = x.records; does = does_one f i input x (act.Says to) tt; stands = stands }

  low_rank : (b : Ballot) → rank_of a.promise ≤ rank b → x.records.promise ≤ rank b
  low_rank b le = omega (arith, stands.promise, le)

  low_floor : (slot : ℕ) → a.floor ≤ slot → x.records.floor ≤ slot
  low_floor slot low = omega (arith, stands.floor_, low)

  promised : (b : Ballot) → RecordsStand (record a { promise = Some b }) round (with_promise x.records b)
  promised b = record { promise = refl; vote = stands.vote; round_ = stands.round_; floor_ = stands.floor_ }

  promises : (b : Ballot) → rank_of a.promise ≤ rank b → MayWrite f i input x (record a { promise = Some b }) round
  promises b le = record {
    after = with_promise x.records b;
    does = does_one f i input x (act.Promises b) (low_rank b le);
    stands = promised b;
  }

  tells : (b : Ballot) (first : ℕ) (p : Promised) → a.floor ≤ first → IsPromiseFrom a.vote b first p
      → TellsVotes (with_promise x.records b) first p.last p.entries
  tells b first p low is = record {
    floor = omega (arith, stands.floor_, low);
    all = λ s v from to e. is.tells.all s v from to (sym (stands.vote s (omega (arith, low, from))) ∙ e);
    only = λ v c.
        let from = told_from p.ballot p.first p.last p.entries is.may_be_said.told v c in
        (v.slot, stands.vote v.slot (omega (arith, low, from, is.from)) ∙ is.tells.stand v c);
  }

  promises_and_tells : (nodes to first : ℕ) (b : Ballot) (p : Promised) → rank_of a.promise ≤ rank b → a.floor ≤ first
      → IsPromiseFrom a.vote b first p
      → MayAnswer f i input x (record a { promise = Some b }) round
      (record { sender = i; receiver = to; message = Promise p.ballot p.first p.last p.entries } ∷ [])
  promises_and_tells nodes to first b p le low is = rw (is.of_the_ballot, is.from) (record {
    after = with_promise x.records b;
    does = does_then f i input (does_one f i input x (act.Promises b) (low_rank b le))
        (does_one f i input (record x { records = with_promise x.records b }) (act.Tells to b first p.last p.entries)
        (le_refl _, tells b first p low is));
    stands = promised b;
  })

  -- a prepare
  pub prepare_writes : (b : Ballot) (first : ℕ) → MayWrite f i input x (after_prepare a b first) round
  prepare_writes b first = elim (judged a b first) [
    | refused p is ↦ rw is same_records
    | behind floor is ↦ rw is same_records
    | taken is high from ↦ rw is (promises b high)
  ]

  pub prepare_answers : (nodes to first : ℕ) (b : Ballot) (answer : Answer) → AnswersPrepare a b first answer
      → MayAnswer f i input x (after_prepare a b first) round (answer_frames i nodes to answer)
  prepare_answers nodes to first b answer answers_ = elim (judged a b first) [
    | refused p is ↦
        let away : answer ≡ nack b p = rw is at answers_ in
        rw (is, away) (refuses to)
    | behind floor is ↦
        let away : answer ≡ answers.Behind floor = rw is at answers_ in
        rw (is, away) (refuses to)
    | taken is high from ↦
        let told : TellsFrom a b first answer = rw is at answers_ in
        rw (is, told.is) (promises_and_tells nodes to first b told.promise high told.from_the_floor told.tells)
  ]

  -- an accept
  voted : (v : Vote Command) → RecordsStand (record a { promise = Some v.ballot; vote = put a.vote v.slot (Some v) }) round
      (with_vote x.records v)
  voted v = record {
    promise = refl;
    vote = λ s from. put_alike x.records.vote a.vote v.slot (Some v) s (stands.vote s from);
    round_ = stands.round_;
    floor_ = stands.floor_;
  }

  votes : (v : Vote Command) → Brings input (Accept v) → rank_of a.promise ≤ rank v.ballot → a.floor ≤ v.slot
      → MayWrite f i input x (record a { promise = Some v.ballot; vote = put a.vote v.slot (Some v) }) round
  votes v came le low = record {
    after = with_vote x.records v;
    does = does_one f i input x (act.Votes v) (came, low_rank v.ballot le, low_floor v.slot low);
    stands = voted v;
  }

  votes_and_confirms : (nodes : ℕ) (v : Vote Command) → Brings input (Accept v) → rank_of a.promise ≤ rank v.ballot
      → a.floor ≤ v.slot
      → MayAnswer f i input x (record a { promise = Some v.ballot; vote = put a.vote v.slot (Some v) }) round
      (to_first nodes i (Accepted v))
  votes_and_confirms nodes v came le low = record {
    after = with_vote x.records v;
    does = does_then f i input (does_one f i input x (act.Votes v) (came, low_rank v.ballot le, low_floor v.slot low))
        (confirms_to_first f i input (record x { records = with_vote x.records v }) v (put_same x.records.vote v.slot (Some v)) nodes);
    stands = voted v;
  }

  pub accept_writes : (v : Vote Command) → Brings input (Accept v) → MayWrite f i input x (after_accept a v) round
  accept_writes v came = elim (judged a v.ballot v.slot) [
    | refused p is ↦ rw is same_records
    | behind floor is ↦ rw is same_records
    | taken is high from ↦ rw is (votes v came high from)
  ]

  pub accept_answers : (nodes to : ℕ) (v : Vote Command) → Brings input (Accept v)
      → MayAnswer f i input x (after_accept a v) round (answer_frames i nodes to (accept_answer a v))
  accept_answers nodes to v came = elim (judged a v.ballot v.slot) [
    | refused p is ↦ rw is (refuses to)
    | behind floor is ↦ rw is (refuses to)
    | taken is high from ↦ rw is (votes_and_confirms nodes v came high from)
  ]

  -- a checkpoint
  pub checkpoint_writes : (position : ℕ) (text : List ℕ) → a.floor ≤ position
      → MayWrite f i input x (after_checkpoint a position text) round
  checkpoint_writes position text above = record {
    after = with_floor x.records position;
    does = does_one f i input x (act.Checkpoints position) (low_floor position above);
    stands = record {
      promise = stands.promise;
      vote = λ s from. stands.vote s (omega (arith, above, from));
      round_ = stands.round_;
      floor_ = refl;
    };
  }

-- of the votes that a trim takes out the protocol's records say nothing
pub trim_stands : (a : Accepting) (round : ℕ) (r : synod_records.NodeRecords Command) → RecordsStand a round r
    → RecordsStand (after_trim a) round r
trim_stands a round r stands = record {
  promise = stands.promise;
  vote = λ s from.
      let kept : (after_trim a).vote s ≡ a.vote s = rw (le-ltb s a.floor from) refl in
      stands.vote s from ∙ sym kept;
  round_ = stands.round_;
  floor_ = stands.floor_;
}
