-- What an acceptor holds, and what it makes of a prepare and of an accept.
use Rattle.std.specs.Prelude.{
  ◌≡◌,
  ◌≢◌,
  ℕ,
  ◌==◌,
  ◌<◌,
  ◌≤◌,
  ◌⊎◌,
  nat_lt,
  List,
  [],
  Option,
  Some,
  None,
  option_map,
  unwrap_or,
  if◌then◌else◌,
  IfSome,
  MatchOption,
  zero,
}
use Rattle.synod.specs.Ballots.{rank, rank_of}
use Rattle.synod.specs.declared.ballot.Ballot.{Ballot}
use Rattle.synod.specs.declared.vote.Vote.{Vote}
use Rattle.stable.specs.Records.{Records, Change, Sets, Trims, changed}
use Rattle.stable.specs.declared.key.Key.{Key}
use Rattle.stable.specs.declared.key.Key.TheVariants as key
use Rattle.sessions.specs.declared.command.Command.{Command}
use Rattle.wire.specs.Promises.{Promised}
use Rattle.wire.specs.RecordForms.{Checkpointed, checkpoint_bytes}
use Rattle.acceptor.specs.declared.answer.Answer.{Answer}
use Rattle.acceptor.specs.declared.answer.Answer.TheVariants as answers
use Rattle.acceptor.specs.declared.answer.Answer.TheVariants.{Promise, Accepted, Nack}
use Rattle.acceptor.specs.Forms.{BallotFitsRecord, CheckpointFits, VoteFitsRecord}
use Rattle.acceptor.specs.AcceptedValues.{HasAnyBelow}
use Rattle.acceptor.specs.Ranges.{IsPromiseFrom}
use Rattle.acceptor.specs.Spelling.{ballot_bytes, vote_bytes}

-- an acceptor's promise, the first slot of which it may speak, what was promised when that was raised last and the text that was
-- written then, and its vote at each slot
pub record Accepting : Type 0 where
  pub promise : Option Ballot
  pub floor : ℕ
  pub sealed : Option Ballot
  pub text : List ℕ
  pub vote : ℕ → Option (Vote Command)

-- a write that a call makes, if it makes one
abbrev pub OptionalWrite : Type 0
OptionalWrite = Option Change

-- a function with one value replaced
abbrev pub put : {A : Type 0} → (ℕ → A) → ℕ → A → ℕ → A
put f i x j = if j == i then x else f j

-- ---- what the records say
-- the promise is the greatest of record Promise, of the checkpoint's promise and of the ballots of all votes, and none without
pub record IsGreatest (promised sealed : Option Ballot) (vote : ℕ → Option (Vote Command)) (promise : Option Ballot) : Type 0
  where
    pub not_below_the_record : rank_of promised ≤ rank_of promise
    pub not_below_the_checkpoint : rank_of sealed ≤ rank_of promise
    pub not_below_a_vote : (s : ℕ) → IfSome (vote s) (λ v. rank v.ballot ≤ rank_of promise)
    pub among_them : (promise ≡ promised) ⊎ ((promise ≡ sealed)
        ⊎ ((s : ℕ) × (v : Vote Command) × (vote s ≡ Some v) × (promise ≡ Some v.ballot)))

-- the first slot that a checkpoint leaves, what was promised then, and its text
abbrev pub floor_of : Option Checkpointed → ℕ
floor_of None = zero
floor_of (Some c) = c.position

abbrev pub sealed_of : Option Checkpointed → Option Ballot
sealed_of None = None
sealed_of (Some c) = c.promise

abbrev pub text_of : Option Checkpointed → List ℕ
text_of None = []
text_of (Some c) = c.text

-- each record is the spelling of what the acceptor holds, of each vote that it holds below the floor too
pub record RecordsSay (records : Key → Option (List ℕ)) (a : Accepting) : Type 0 where
  -- what record Promise holds
  pub promised : Option Ballot
  pub promise_record : records key.Promise ≡ option_map ballot_bytes promised
  -- what record Checkpoint holds
  pub checkpointed : Option Checkpointed
  pub checkpoint_record : records key.Checkpoint ≡ option_map checkpoint_bytes checkpointed
  pub floor : a.floor ≡ floor_of checkpointed
  pub sealed : a.sealed ≡ sealed_of checkpointed
  pub text : a.text ≡ text_of checkpointed
  pub vote_record : (s : ℕ) → records (key.Vote s) ≡ option_map vote_bytes (a.vote s)
  pub at_its_slot : (s : ℕ) → IfSome (a.vote s) (λ v. v.slot ≡ s)
  pub promise : IsGreatest promised a.sealed a.vote a.promise
  -- each fits its record, so that no two are spelled alike
  pub promised_fits : IfSome promised BallotFitsRecord
  pub checkpoint_fits : IfSome checkpointed CheckpointFits
  pub votes_fit : (s : ℕ) → IfSome (a.vote s) VoteFitsRecord

-- no vote below the floor is of a ballot above the checkpoint's promise, so that no promise goes with it
abbrev pub IsCovered : Accepting → Type 0
IsCovered a = (s : ℕ) (v : Vote Command) → s < a.floor → a.vote s ≡ Some v → rank v.ballot ≤ rank_of a.sealed

-- ---- what is asked of an acceptor, under a ballot and from a slot on, is refused, or is behind, or is taken
-- the promise that refuses the ballot: the acceptor's, where the ballot is below it
abbrev pub refusing : Option Ballot → Ballot → Option Ballot
refusing None b = None
refusing (Some p) b = if nat_lt (rank b) (rank p) then Some p else None

-- the promise that the ballot is below; or else the floor that the slot is below; or else what is asked is done
pub data Verdict : Type 0 where
  Refused : (promised : Ballot) → Verdict
  Behind : (floor : ℕ) → Verdict
  Taken : Verdict

abbrev pub of_refusal : Option Ballot → Verdict → Verdict
of_refusal None unrefused = unrefused
of_refusal (Some p) unrefused = Refused p

abbrev pub verdict : Accepting → Ballot → ℕ → Verdict
verdict a b slot = of_refusal (refusing a.promise b) (if nat_lt slot a.floor then Behind a.floor else Taken)

-- only what is taken changes anything
abbrev pub if_taken : {A : Type 0} → Verdict → A → A → A
if_taken (Refused p) done unchanged = unchanged
if_taken (Behind floor) done unchanged = unchanged
if_taken Taken done unchanged = done

-- the answer to what isn't taken tells the promise, or the floor
abbrev pub nack : Ballot → Ballot → Answer
nack b p = Nack (record { ballot = b; promised = p })

abbrev pub turned_away : Verdict → Ballot → Option Answer
turned_away (Refused p) b = Some (nack b p)
turned_away (Behind floor) b = Some (answers.Behind floor)
turned_away Taken b = None

-- ---- a prepare that is taken: its ballot is promised, and the votes from the first slot on are told
pub record TellsFrom (a : Accepting) (b : Ballot) (first : ℕ) (answer : Answer) : Type 0 where
  pub promise : Promised
  pub is : answer ≡ Promise promise
  pub from_the_floor : a.floor ≤ first
  pub tells : IsPromiseFrom a.vote b first promise

abbrev pub AnswersPrepare : Accepting → Ballot → ℕ → Answer → Type 0
AnswersPrepare a b first answer =
    MatchOption (turned_away (verdict a b first) b) (TellsFrom a b first answer) (λ away. answer ≡ away)

-- the promise is written, unless it is the promise already
abbrev pub prepare_write : Accepting → Ballot → ℕ → OptionalWrite
prepare_write a b first = if_taken (verdict a b first)
    (if rank b == rank_of a.promise then None else Some (Sets key.Promise (ballot_bytes b))) None

abbrev pub after_prepare : Accepting → Ballot → ℕ → Accepting
after_prepare a b first = if_taken (verdict a b first) (record a { promise = Some b }) a

-- ---- an accept that is taken: its vote is cast, and its ballot promised
abbrev pub accept_answer : Accepting → Vote Command → Answer
accept_answer a v = unwrap_or (turned_away (verdict a v.ballot v.slot) v.ballot) (Accepted v)

abbrev pub after_accept : Accepting → Vote Command → Accepting
after_accept a v = if_taken (verdict a v.ballot v.slot)
    (record a { promise = Some v.ballot; vote = put a.vote v.slot (Some v) }) a

-- the vote is taken, and does not stand there already
pub record IsNewVote (a : Accepting) (v : Vote Command) : Type 0 where
  pub taken : verdict a v.ballot v.slot ≡ Taken
  pub fresh : a.vote v.slot ≢ Some v

-- a new vote is written; nothing is written where it isn't taken, or stands there already
pub record IsAcceptWrite (a : Accepting) (v : Vote Command) (write : OptionalWrite) : Type 0 where
  pub cast : IsNewVote a v → write ≡ Some (Sets (key.Vote v.slot) (vote_bytes v))
  pub untaken : verdict a v.ballot v.slot ≢ Taken → write ≡ None
  pub already : a.vote v.slot ≡ Some v → write ≡ None
  pub nothing : write ≡ None → (verdict a v.ballot v.slot ≢ Taken) ⊎ (a.vote v.slot ≡ Some v)

-- ---- a checkpoint: its record is written, with the present promise
abbrev pub checkpoint_change : Accepting → ℕ → List ℕ → Change
checkpoint_change a position text =
    Sets key.Checkpoint (checkpoint_bytes (record { position = position; promise = a.promise; text = text }))

abbrev pub after_checkpoint : Accepting → ℕ → List ℕ → Accepting
after_checkpoint a position text = record a { floor = position; sealed = a.promise; text = text }

-- ---- a trim: the votes below the floor are taken out
abbrev pub HasVoteBelow : Accepting → Type 0
HasVoteBelow a = HasAnyBelow a.vote a.floor

-- nothing is written where none stands there
abbrev pub IsTrimWrite : Accepting → OptionalWrite → Type 0
IsTrimWrite a None = ¬ HasVoteBelow a
IsTrimWrite a (Some change) = HasVoteBelow a × (change ≡ Trims a.floor)

abbrev pub after_trim : Accepting → Accepting
after_trim a = record a { vote = λ s. if nat_lt s a.floor then None else a.vote s }

-- ---- what a call makes of the storage, whose relations are given
-- the write is made, or where there is none the storage is at most read
abbrev pub HasWritten : {S : Type 0} → (S → S → Type 0) → (S → Change → S → Type 0)
    → S → S → OptionalWrite → Type 0
HasWritten reads changes old new None = reads old new
HasWritten reads changes old new (Some change) = changes old change new

-- there was a write to make, and the device failed on it
abbrev pub HasFailed : {S : Type 0} → (S → Change → S → Type 0) → S → S → OptionalWrite → Type 0
HasFailed fails old new None = ⊥
HasFailed fails old new (Some change) = fails old change new

-- the records after a write, if there is one
abbrev pub records_after : Records → OptionalWrite → Records
records_after records None = records
records_after records (Some change) = changed records change
