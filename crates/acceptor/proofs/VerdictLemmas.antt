-- What an acceptor makes of a ballot and a slot, case by case.
use Rattle.std.proofs.Common.{◌≡◌, ◌≢◌, ◌⊎◌, ℕ, ◌≤◌, Option, Some, None, inl, inr, refl, arith}
use Rattle.std.specs.Prelude.{◌==◌, if◌then◌else◌}
use Rattle.std.proofs.lemmas.Bool.{cases_lt, lt-ltb, le-ltb}
use Rattle.synod.specs.Ballots.{rank, rank_of}
use Rattle.synod.specs.declared.ballot.Ballot.{Ballot}
use Rattle.acceptor.specs.declared.answer.Answer.{Answer}
use Rattle.synod.specs.declared.vote.Vote.{Vote}
use Rattle.sessions.specs.declared.command.Command.{Command}
use Rattle.stable.specs.Records.{Sets}
use Rattle.stable.specs.declared.key.Key.TheVariants as key
use Rattle.acceptor.specs.Accepting.{Accepting, put, refusing, Verdict, Refused, Behind, Taken, of_refusal, verdict, if_taken, turned_away}
use Rattle.acceptor.specs.Accepting.{prepare_write, after_prepare, after_accept}
use Rattle.acceptor.specs.Spelling.{ballot_bytes}

pub refusing_cases : (p : Option Ballot) (b : Ballot) → ((refusing p b ≡ None) × (rank_of p ≤ rank b))
    ⊎ ((q : Ballot) × (refusing p b ≡ Some q))
refusing_cases None b = inl (refl, omega arith)
refusing_cases (Some p) b =
    elim (cases_lt (rank b) (rank p)) [
      | inl lt ↦ inr (p, rw (lt-ltb _ _ lt) refl)
      | inr le ↦ inl (rw (le-ltb _ _ le) refl, le)
    ]

-- it is refused; or the slot is below the floor; or it is taken, and neither is so
pub data IsJudged (a : Accepting) (b : Ballot) (slot : ℕ) : Type 0 where
  refused : (p : Ballot) → verdict a b slot ≡ Refused p → IsJudged a b slot
  behind : (floor : ℕ) → verdict a b slot ≡ Behind floor → IsJudged a b slot
  taken : verdict a b slot ≡ Taken → rank_of a.promise ≤ rank b → a.floor ≤ slot → IsJudged a b slot

pub judged : (a : Accepting) (b : Ballot) (slot : ℕ) → IsJudged a b slot
judged a b slot =
    elim (refusing_cases a.promise b) [
      | inl high ↦ elim (cases_lt slot a.floor) [
        | inl below ↦ behind a.floor (rw (high.0, lt-ltb _ _ below) refl)
        | inr from ↦ taken (rw (high.0, le-ltb _ _ from) refl) high.1 from
      ]
      | inr low ↦ refused low.0 (rw low.1 refl)
    ]

-- a ballot that is taken is no lower than the promise, and its slot no lower than the floor
pub taken_is_above : (a : Accepting) (b : Ballot) (slot : ℕ) → verdict a b slot ≡ Taken → rank_of a.promise ≤ rank b
taken_is_above a b slot is =
    elim (judged a b slot) [
      | refused p other ↦ absurd (cc)
      | behind floor other ↦ absurd (cc)
      | taken same high from ↦ high
    ]

pub taken_from_the_floor : (a : Accepting) (b : Ballot) (slot : ℕ) → verdict a b slot ≡ Taken → a.floor ≤ slot
taken_from_the_floor a b slot is =
    elim (judged a b slot) [
      | refused p other ↦ absurd (cc)
      | behind floor other ↦ absurd (cc)
      | taken same high from ↦ from
    ]

-- from the floor on only a promise refuses
pub not_behind : (a : Accepting) (b : Ballot) (slot : ℕ) → a.floor ≤ slot → verdict a b slot ≡ of_refusal (refusing a.promise b) Taken
not_behind a b slot from = rw (le-ltb slot a.floor from) refl

pub taken_where : (a : Accepting) (b : Ballot) (slot : ℕ) → a.floor ≤ slot → refusing a.promise b ≡ None → verdict a b slot ≡ Taken
taken_where a b slot from none = rw (none, le-ltb slot a.floor from) refl

-- a prepare and an accept leave the floor as it is
pub floor_prepared : (a : Accepting) (b : Ballot) (first : ℕ) → (after_prepare a b first).floor ≡ a.floor
floor_prepared a b first =
    elim (judged a b first) [
      | refused p is ↦ rw is refl
      | behind floor is ↦ rw is refl
      | taken is high from ↦ rw is refl
    ]

pub floor_accepted : (a : Accepting) (v : Vote Command) → (after_accept a v).floor ≡ a.floor
floor_accepted a v =
    elim (judged a v.ballot v.slot) [
      | refused p is ↦ rw is refl
      | behind floor is ↦ rw is refl
      | taken is high from ↦ rw is refl
    ]

-- ---- what is turned away
pub taken_unless_away : (v : Verdict) (b : Ballot) → turned_away v b ≡ None → v ≡ Taken
taken_unless_away (Refused p) b none = absurd (cc)
taken_unless_away (Behind floor) b none = absurd (cc)
taken_unless_away Taken b none = refl

pub untaken_away : (v : Verdict) (b : Ballot) (away : Answer) → turned_away v b ≡ Some away → v ≢ Taken
untaken_away (Refused p) b away some is = absurd (cc)
untaken_away (Behind floor) b away some is = absurd (cc)
untaken_away Taken b away some is = absurd (cc)

pub unchanged_untaken : {A : Type 0} (v : Verdict) (done unchanged : A) → v ≢ Taken → if_taken v done unchanged ≡ unchanged
unchanged_untaken (Refused p) done unchanged not = refl
unchanged_untaken (Behind floor) done unchanged not = refl
unchanged_untaken Taken done unchanged not = absurd (not refl)

-- it writes nothing and changes nothing
pub no_prepare_write : (a : Accepting) (b : Ballot) (first : ℕ) → verdict a b first ≢ Taken → prepare_write a b first ≡ None
no_prepare_write a b first not =
    unchanged_untaken (verdict a b first) (if rank b == rank_of a.promise then None else Some (Sets key.Promise (ballot_bytes b))) None not

pub same_after_prepare : (a : Accepting) (b : Ballot) (first : ℕ) → verdict a b first ≢ Taken → after_prepare a b first ≡ a
same_after_prepare a b first not = unchanged_untaken (verdict a b first) (record a { promise = Some b }) a not

pub same_after_accept : (a : Accepting) (v : Vote Command) → verdict a v.ballot v.slot ≢ Taken → after_accept a v ≡ a
same_after_accept a v not =
    unchanged_untaken (verdict a v.ballot v.slot) (record a { promise = Some v.ballot; vote = put a.vote v.slot (Some v) }) a not
