-- Checkpoints and trims: what records say goes on to be said, and no promise falls.
use Rattle.std.proofs.Common.{◌≡◌, ◌⊎◌, ℕ, ◌<◌, ◌≤◌, List, Option, Some, None, inl, inr, refl, sym, ap, subst, ◌∙◌, arith, le_refl}
use Rattle.std.proofs.Common.{option_map, IfSome}
use Rattle.std.proofs.lemmas.Bool.{cases_lt, lt-ltb, le-ltb}
use Rattle.std.proofs.lemmas.Option.{IfSome_then, none-some}
use Rattle.synod.specs.Ballots.{rank, rank_of}
use Rattle.synod.specs.declared.ballot.Ballot.{Ballot}
use Rattle.synod.specs.declared.slot.TheConstants.{SLOTS}
use Rattle.synod.specs.declared.vote.Vote.{Vote}
use Rattle.sessions.specs.declared.command.Command.{Command}
use Rattle.stable.specs.Records.{Records, Change, changed, with_record, without_votes_below}
use Rattle.stable.specs.declared.key.Key.TheVariants as key
use Rattle.wire.specs.RecordForms.{Checkpointed, checkpoint_bytes}
use Rattle.acceptor.specs.Accepting.{Accepting, OptionalWrite, put, IsGreatest, sealed_of, RecordsSay, IsCovered, records_after}
use Rattle.acceptor.specs.Accepting.{after_prepare, after_accept, checkpoint_change, after_checkpoint, IsTrimWrite, after_trim}
use Rattle.acceptor.specs.Forms.{BallotFitsRecord, CheckpointFits, VoteFitsRecord, IsSnapshotText}
use Rattle.acceptor.specs.Loading.{raised, with_seen}
use Rattle.acceptor.specs.Spelling.{vote_bytes}
use Rattle.acceptor.proofs.RecordLemmas.{RecordsSay-holds, elsewhere, put_elsewhere, raised_cases, unmapped, none_unless, begun, same_promise}
use Rattle.acceptor.proofs.SayingOne.{one_promise}
use Rattle.acceptor.proofs.VerdictLemmas.{judged, refused, behind, taken}

-- ---- a checkpoint in its record
-- whatever is the greatest with its promise in the record is the promise then
with_checkpoint : (r : Records) (a : Accepting) (c : Checkpointed) (p : Option Ballot) (says : RecordsSay r a) → CheckpointFits c
    → IsGreatest says.promised c.promise a.vote p
    → RecordsSay (with_record r key.Checkpoint (checkpoint_bytes c)) (record a { promise = p; floor = c.position; sealed = c.promise; text = c.text })
with_checkpoint r a c p says fits greatest = record {
  promised = says.promised;
  promise_record = says.promise_record;
  checkpointed = Some c;
  checkpoint_record = refl;
  floor = refl;
  sealed = refl;
  text = refl;
  vote_record = λ s. elsewhere r key.Checkpoint (key.Vote s) _ (λ e. absurd (omega arith)) ∙ says.vote_record s;
  at_its_slot = says.at_its_slot;
  promise = greatest;
  promised_fits = says.promised_fits;
  checkpoint_fits = fits;
  votes_fit = says.votes_fit;
}

-- ---- a checkpoint is written
sealed_fits : (c : Option Checkpointed) → IfSome c CheckpointFits → IfSome (sealed_of c) BallotFitsRecord
sealed_fits None fits = tt
sealed_fits (Some c) fits = fits.promise

-- a promise is one that stands in a record
pub promise_fits : (r : Records) (a : Accepting) → RecordsSay r a → IfSome a.promise BallotFitsRecord
promise_fits r a says =
    elim says.promise.among_them [
      | inl e ↦ subst (λ (o : Option Ballot). IfSome o BallotFitsRecord) (sym e) says.promised_fits
      | inr (inl e) ↦ subst (λ (o : Option Ballot). IfSome o BallotFitsRecord) (sym (e ∙ says.sealed))
          (sealed_fits says.checkpointed says.checkpoint_fits)
      | inr (inr w) ↦
          let fits : VoteFitsRecord w.1 = subst (λ (o : Option (Vote Command)). IfSome o VoteFitsRecord) w.2 (says.votes_fit w.0) in
          subst (λ (o : Option Ballot). IfSome o BallotFitsRecord) (sym w.3) fits.ballot
    ]

-- records that say what an acceptor holds say so after a checkpoint and its write
pub checkpoint_kept : (r : Records) (a : Accepting) (position : ℕ) (text : List ℕ) → 1 ≤ position → position ≤ SLOTS → IsSnapshotText text
    → RecordsSay r a → RecordsSay (changed r (checkpoint_change a position text)) (after_checkpoint a position text)
checkpoint_kept r a position text begun_ in_log is_text says =
    with_checkpoint r a (record { position = position; promise = a.promise; text = text }) a.promise says
    (record { begun = begun_; in_log = in_log; promise = promise_fits r a says; text = is_text })
    (record {
      not_below_the_record = says.promise.not_below_the_record;
      not_below_the_checkpoint = le_refl _;
      not_below_a_vote = says.promise.not_below_a_vote;
      among_them = inr (inl refl);
    })

-- ---- a checkpoint's record is seen
-- the greater of a promise and of what a checkpoint promises
abbrev pub raised_to : Option Ballot → Option Ballot → Option Ballot
raised_to p None = p
raised_to p (Some b) = raised p b

-- nothing was sealed before
seen_greatest : (promised : Option Ballot) (a : Accepting) (found : Option Ballot) → IsGreatest promised None a.vote a.promise
    → IsGreatest promised found a.vote (raised_to a.promise found)
seen_greatest promised a None greatest = greatest
seen_greatest promised a (Some b) greatest =
    elim (raised_cases a.promise b) [
      | inl high ↦ subst (IsGreatest promised (Some b) a.vote) (sym high.1) (record {
        not_below_the_record = let low = greatest.not_below_the_record in omega (arith, low, high.0);
        not_below_the_checkpoint = le_refl _;
        not_below_a_vote = λ s. IfSome_then (a.vote s) (greatest.not_below_a_vote s) (λ v low. omega (arith, low, high.0));
        among_them = inr (inl refl);
      })
      | inr low ↦ subst (IsGreatest promised (Some b) a.vote) (sym low.1) (record {
        not_below_the_record = greatest.not_below_the_record;
        not_below_the_checkpoint = low.0;
        not_below_a_vote = greatest.not_below_a_vote;
        among_them = elim greatest.among_them [
          | inl e ↦ inl e
          | inr (inl e) ↦ absurd (begun b (subst (λ (p : Option Ballot). rank b ≤ rank_of p) e low.0))
          | inr (inr w) ↦ inr (inr w)
        ];
      })
    ]

pub RecordsSay-see_checkpoint : (r : Records) (a : Accepting) (c : Checkpointed) → CheckpointFits c → r key.Checkpoint ≡ None → RecordsSay r a
    → RecordsSay (with_seen r key.Checkpoint (Some (checkpoint_bytes c)))
    (record a { promise = raised_to a.promise c.promise; floor = c.position; sealed = c.promise; text = c.text })
RecordsSay-see_checkpoint r a c fits fresh says =
    let none : says.checkpointed ≡ None = unmapped checkpoint_bytes says.checkpointed (sym says.checkpoint_record ∙ fresh) in
    let unsealed : a.sealed ≡ None = says.sealed ∙ ap sealed_of none in
    with_checkpoint r a c (raised_to a.promise c.promise) says fits
    (seen_greatest says.promised a c.promise
    (subst (λ (o : Option Ballot). IsGreatest says.promised o a.vote a.promise) unsealed says.promise))

-- ---- a trim
-- a vote below the floor is gone, another stays
gone_or_kept : (a : Accepting) (s : ℕ) → ((s < a.floor) × ((after_trim a).vote s ≡ None)) ⊎ ((a.floor ≤ s) × ((after_trim a).vote s ≡ a.vote s))
gone_or_kept a s =
    elim (cases_lt s a.floor) [
      | inl below ↦ inl (below, rw (lt-ltb s a.floor below) refl)
      | inr from ↦ inr (from, rw (le-ltb s a.floor from) refl)
    ]

-- what holds of each vote holds of each that stays
of_kept : (a : Accepting) (P : Vote Command → Type 0) (s : ℕ) → IfSome (a.vote s) P → IfSome ((after_trim a).vote s) P
of_kept a P s p =
    elim (gone_or_kept a s) [
      | inl gone ↦ subst (λ (o : Option (Vote Command)). IfSome o P) (sym gone.1) tt
      | inr kept ↦ subst (λ (o : Option (Vote Command)). IfSome o P) (sym kept.1) p
    ]

records_kept : (r : Records) (a : Accepting) (s : ℕ) → r (key.Vote s) ≡ option_map vote_bytes (a.vote s)
    → without_votes_below r a.floor (key.Vote s) ≡ option_map vote_bytes ((after_trim a).vote s)
records_kept r a s says =
    elim (cases_lt s a.floor) [
      | inl below ↦ rw (lt-ltb s a.floor below) refl
      | inr from ↦ rw (le-ltb s a.floor from) says
    ]

-- the promise may have been that of a vote below the floor: then it is the one in the checkpoint's record
still_greatest : (a : Accepting) (promised : Option Ballot) → IsCovered a → IsGreatest promised a.sealed a.vote a.promise
    → IsGreatest promised a.sealed (after_trim a).vote a.promise
still_greatest a promised covered greatest = record {
  not_below_the_record = greatest.not_below_the_record;
  not_below_the_checkpoint = greatest.not_below_the_checkpoint;
  not_below_a_vote = λ s. of_kept a (λ v. rank v.ballot ≤ rank_of a.promise) s (greatest.not_below_a_vote s);
  among_them = elim greatest.among_them [
    | inl e ↦ inl e
    | inr (inl e) ↦ inr (inl e)
    | inr (inr w) ↦ elim (gone_or_kept a w.0) [
      | inl gone ↦
          let low : rank w.1.ballot ≤ rank_of a.sealed = covered w.0 w.1 gone.0 w.2 in
          let high : rank_of a.sealed ≤ rank w.1.ballot =
          subst (λ (o : Option Ballot). rank_of a.sealed ≤ rank_of o) w.3 greatest.not_below_the_checkpoint in
          inr (inl (w.3 ∙ sym (same_promise a.sealed w.1.ballot (omega (arith, low, high)))))
      | inr kept ↦ inr (inr (w.0, w.1, kept.1 ∙ w.2, w.3))
    ]
  ];
}

trimmed_say : (r : Records) (a : Accepting) → IsCovered a → RecordsSay r a → RecordsSay (without_votes_below r a.floor) (after_trim a)
trimmed_say r a covered says = record {
  promised = says.promised;
  promise_record = says.promise_record;
  checkpointed = says.checkpointed;
  checkpoint_record = says.checkpoint_record;
  floor = says.floor;
  sealed = says.sealed;
  text = says.text;
  vote_record = λ s. records_kept r a s (says.vote_record s);
  at_its_slot = λ s. of_kept a (λ v. v.slot ≡ s) s (says.at_its_slot s);
  promise = still_greatest a says.promised covered says.promise;
  promised_fits = says.promised_fits;
  checkpoint_fits = says.checkpoint_fits;
  votes_fit = λ s. of_kept a VoteFitsRecord s (says.votes_fit s);
}

-- where no vote stands below the floor, none goes
none_goes : (a : Accepting) → IsTrimWrite a None → (s : ℕ) → (after_trim a).vote s ≡ a.vote s
none_goes a none s =
    elim (gone_or_kept a s) [
      | inl gone ↦ gone.1 ∙ sym (none_unless (a.vote s) (λ there. none (record { slot = s; below_ = gone.0; stands = there })))
      | inr kept ↦ kept.1
    ]

-- what holds the same otherwise, and of the votes those from the floor on, is what a trim leaves
pub trimmed_is : (a b : Accepting) → b.promise ≡ a.promise → b.floor ≡ a.floor → b.sealed ≡ a.sealed → b.text ≡ a.text
    → ((s : ℕ) → b.vote s ≡ (after_trim a).vote s) → b ≡ after_trim a
trimmed_is a b p l c t v = λ i. record { promise = p i; floor = l i; sealed = c i; text = t i; vote = λ s. v s i }

pub untrimmed_is : (a : Accepting) → IsTrimWrite a None → a ≡ after_trim a
untrimmed_is a none = trimmed_is a a refl refl refl refl (λ s. sym (none_goes a none s))

-- records that say what an acceptor holds say so after a trim and its write
pub trim_kept : (r : Records) (a : Accepting) (w : OptionalWrite) → IsCovered a → IsTrimWrite a w → RecordsSay r a
    → RecordsSay (records_after r w) (after_trim a)
trim_kept r a None covered is says = RecordsSay-holds r a (after_trim a) refl refl refl refl (none_goes a is) says
trim_kept r a (Some change) covered is says =
    subst (λ (x : Change). RecordsSay (changed r x) (after_trim a)) (sym is.1) (trimmed_say r a covered says)

-- what is loaded after a trim has promised what was promised before
pub promise_outlives_trim : (r : Records) (a b : Accepting) (w : OptionalWrite) → IsCovered a → IsTrimWrite a w → RecordsSay r a
    → RecordsSay (records_after r w) b → rank_of b.promise ≡ rank_of a.promise
promise_outlives_trim r a b w covered is says loaded =
    one_promise (records_after r w) b (after_trim a) loaded (trim_kept r a w covered is says)

-- ---- votes below the floor stay covered
pub prepare_covered : (a : Accepting) (b : Ballot) (first : ℕ) → IsCovered a → IsCovered (after_prepare a b first)
prepare_covered a b first covered =
    elim (judged a b first) [
      | refused p is ↦ rw is covered
      | behind floor is ↦ rw is covered
      | taken is high from ↦ rw is covered
    ]

-- a vote is cast from the floor on
cast_covered : (a : Accepting) (v : Vote Command) → a.floor ≤ v.slot → IsCovered a
    → IsCovered (record a { promise = Some v.ballot; vote = put a.vote v.slot (Some v) })
cast_covered a v from covered = λ s w low held.
    let apart : s ≡ v.slot → ⊥ = λ e. omega (arith, e, low, from) in
    covered s w low (sym (put_elsewhere a.vote v.slot s (Some v) apart) ∙ held)

pub accept_covered : (a : Accepting) (v : Vote Command) → IsCovered a → IsCovered (after_accept a v)
accept_covered a v covered =
    elim (judged a v.ballot v.slot) [
      | refused p is ↦ rw is covered
      | behind floor is ↦ rw is covered
      | taken is high from ↦ rw is (cast_covered a v from covered)
    ]

-- a checkpoint is written with the present promise, which no vote is above
pub checkpoint_covered : (r : Records) (a : Accepting) (position : ℕ) (text : List ℕ) → RecordsSay r a
    → IsCovered (after_checkpoint a position text)
checkpoint_covered r a position text says = λ s v low held.
    subst (λ (o : Option (Vote Command)). IfSome o (λ w. rank w.ballot ≤ rank_of a.promise)) held (says.promise.not_below_a_vote s)

-- a trim leaves no vote below the floor
pub trim_covered : (a : Accepting) → IsCovered (after_trim a)
trim_covered a = λ s v low held. absurd (none-some v (rw (lt-ltb s a.floor low) at held))
