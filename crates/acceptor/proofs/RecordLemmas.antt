-- Records that say what an acceptor holds, as records are written or read one by one.
use Rattle.std.proofs.Common.{[], ◌≡◌, ◌⊎◌, ℕ, ◌≤◌, List, Option, Some, None, inl, inr, refl, sym, ap, subst, ◌∙◌, arith, IfSome}
use Rattle.std.proofs.Common.{option_map, IsSome}
use Rattle.std.proofs.lemmas.Bool.{cases_eq, cases_lt, lt-ltb, le-ltb, eq-eqb, ne_eqb}
use Rattle.std.proofs.lemmas.Bool.Decides.{eqb_tells}
use Rattle.std.proofs.lemmas.Option.{IfSome_then}
use Rattle.synod.specs.Ballots.{rank, rank_of}
use Rattle.synod.specs.declared.ballot.Ballot.{Ballot}
use Rattle.synod.specs.declared.vote.Vote.{Vote}
use Rattle.sessions.specs.declared.command.Command.{Command}
use Rattle.stable.specs.Records.{Records, Sets, no_records, with_record}
use Rattle.stable.specs.Records.{rank as place}
use Rattle.stable.specs.declared.key.Key.{Key}
use Rattle.stable.specs.declared.key.Key.TheVariants as key
use Rattle.stable.proofs.KeyLemmas.{same_rank as same_key}
use Rattle.acceptor.specs.Forms.{BallotFitsRecord, VoteFitsRecord, IsOfItsForm}
use Rattle.std.specs.Prelude.{◌==◌, if◌then◌else◌}
use Rattle.acceptor.proofs.BallotLemmas.{same_rank}
use Rattle.acceptor.proofs.VerdictLemmas.{judged, refused, behind, taken}
use Rattle.acceptor.specs.Accepting.{Accepting, OptionalWrite, put, RecordsSay, Taken, verdict, records_after}
use Rattle.acceptor.specs.Accepting.{prepare_write, after_prepare, IsAcceptWrite, after_accept}
use Rattle.acceptor.specs.Loading.{raised, with_seen}
use Rattle.acceptor.specs.Spelling.{ballot_bytes, vote_bytes}

abbrev Votes : Type 0
Votes = ℕ → Option (Vote Command)

-- ---- one place of a function
put_here : (f : Votes) (i s : ℕ) (x : Option (Vote Command)) → s ≡ i → put f i x s ≡ x
put_here f i s x e = rw (eq-eqb s i e) refl

pub put_elsewhere : (f : Votes) (i s : ℕ) (x : Option (Vote Command)) → (s ≡ i → ⊥) → put f i x s ≡ f s
put_elsewhere f i s x ne = rw (ne_eqb s i ne) refl

IfSome-put : (f : Votes) (i s : ℕ) (v : Vote Command) (P : Vote Command → Type 0) → (s ≡ i → P v) → IfSome (f s) P
    → IfSome (put f i (Some v) s) P
IfSome-put f i s v P here there =
    elim (eqb_tells s i) [
      | inl same ↦ rw same.0 (here same.1)
      | inr apart ↦ rw apart.0 there
    ]

-- ---- the greater of a promise and a ballot
pub raised_cases : (p : Option Ballot) (b : Ballot)
    → ((rank_of p ≤ rank b) × (raised p b ≡ Some b)) ⊎ ((rank b ≤ rank_of p) × (raised p b ≡ p))
raised_cases None b = inl (omega arith, refl)
raised_cases (Some p) b =
    elim (cases_lt (rank p) (rank b)) [
      | inl lt ↦ inl (omega arith, rw (lt-ltb _ _ lt) refl)
      | inr le ↦ inr (le, rw (le-ltb _ _ le) refl)
    ]

-- ---- one key of the records
pub elsewhere : (r : Records) (k q : Key) (found : Option (List ℕ)) → (place q ≡ place k → ⊥) → with_seen r k found q ≡ r q
elsewhere r k q found ne = rw (ne_eqb (place q) (place k) ne) refl

vote_elsewhere : (r : Records) (i s : ℕ) (found : Option (List ℕ)) → (s ≡ i → ⊥)
    → with_seen r (key.Vote i) found (key.Vote s) ≡ r (key.Vote s)
vote_elsewhere r i s found ne = elsewhere r (key.Vote i) (key.Vote s) found (λ e. ne (omega arith))

vote_here : (r : Records) (i s : ℕ) (found : Option (List ℕ)) → s ≡ i → with_seen r (key.Vote i) found (key.Vote s) ≡ found
vote_here r i s found e = rw (eq-eqb (place (key.Vote s)) (place (key.Vote i)) (omega arith)) refl

-- where a vote is put under its key and among the votes, a record that spelled its vote still does
votes_say : (r : Records) (f : Votes) (v : Vote Command) (s : ℕ) → r (key.Vote s) ≡ option_map vote_bytes (f s)
    → with_seen r (key.Vote v.slot) (Some (vote_bytes v)) (key.Vote s) ≡ option_map vote_bytes (put f v.slot (Some v) s)
votes_say r f v s says =
    elim (cases_eq s v.slot) [
      | inl e ↦ vote_here r v.slot s _ e ∙ sym (ap (option_map vote_bytes) (put_here f v.slot s (Some v) e))
      | inr ne ↦ vote_elsewhere r v.slot s _ ne ∙ says ∙ sym (ap (option_map vote_bytes) (put_elsewhere f v.slot s (Some v) ne))
    ]

-- ---- what is written under one key
-- records that are the same say the same
pub RecordsSay-same : (r q : Records) (a : Accepting) → ((k : Key) → q k ≡ r k) → RecordsSay r a → RecordsSay q a
RecordsSay-same r q a same says =
    record {
      promised = says.promised;
      promise_record = same key.Promise ∙ says.promise_record;
      vote_record = λ s. same (key.Vote s) ∙ says.vote_record s;
      at_its_slot = says.at_its_slot;
      promise = says.promise;
      checkpointed = says.checkpointed;
      checkpoint_record = same key.Checkpoint ∙ says.checkpoint_record;
      floor = says.floor;
      sealed = says.sealed;
      text = says.text;
      checkpoint_fits = says.checkpoint_fits;
      promised_fits = says.promised_fits;
      votes_fit = says.votes_fit;
    }

-- a promise in its record that is not below the old one
pub RecordsSay-promise : (r : Records) (a : Accepting) (b : Ballot) → BallotFitsRecord b → RecordsSay r a → rank_of a.promise ≤ rank b
    → RecordsSay (with_record r key.Promise (ballot_bytes b)) (record a { promise = Some b })
RecordsSay-promise r a b fits says le =
    record {
      promised = Some b;
      promise_record = refl;
      vote_record = λ s. elsewhere r key.Promise (key.Vote s) _ (λ e. absurd (omega arith)) ∙ says.vote_record s;
      at_its_slot = says.at_its_slot;
      promise = record {
        not_below_the_record = omega arith;
        not_below_the_checkpoint = let low = says.promise.not_below_the_checkpoint in omega arith;
        not_below_a_vote = λ s. IfSome_then (a.vote s) (says.promise.not_below_a_vote s) (λ v low. omega arith);
        among_them = inl refl;
      };
      checkpointed = says.checkpointed;
      checkpoint_record = says.checkpoint_record;
      floor = says.floor;
      sealed = says.sealed;
      text = says.text;
      checkpoint_fits = says.checkpoint_fits;
      promised_fits = fits;
      votes_fit = says.votes_fit;
    }

-- the round is not the acceptor's
pub RecordsSay-see_round : (r : Records) (a : Accepting) (found : Option (List ℕ)) → RecordsSay r a
    → RecordsSay (with_seen r key.Round found) a
RecordsSay-see_round r a found says =
    record {
      promised = says.promised;
      promise_record = says.promise_record;
      vote_record = λ s. elsewhere r key.Round (key.Vote s) found (λ e. absurd (omega arith)) ∙ says.vote_record s;
      at_its_slot = says.at_its_slot;
      promise = says.promise;
      checkpointed = says.checkpointed;
      checkpoint_record = says.checkpoint_record;
      floor = says.floor;
      sealed = says.sealed;
      text = says.text;
      checkpoint_fits = says.checkpoint_fits;
      promised_fits = says.promised_fits;
      votes_fit = says.votes_fit;
    }

pub RecordsSay-round : (r : Records) (a : Accepting) (bytes : List ℕ) → RecordsSay r a → RecordsSay (with_record r key.Round bytes) a
RecordsSay-round r a bytes says = RecordsSay-see_round r a (Some bytes) says

-- nor do a promise and a vote touch the round
pub prepare_leaves_round : (r : Records) (a : Accepting) (b : Ballot) (first : ℕ)
    → records_after r (prepare_write a b first) key.Round ≡ r key.Round
prepare_leaves_round r a b first =
    elim (judged a b first) [
      | refused p is ↦ rw is refl
      | behind floor is ↦ rw is refl
      | taken is high from ↦ elim (eqb_tells (rank b) (rank_of a.promise)) [
        | inl same ↦ rw is (rw same.0 refl)
        | inr apart ↦ rw is (rw apart.0 refl)
      ]
    ]

pub accept_leaves_round : (r : Records) (a : Accepting) (v : Vote Command) (w : OptionalWrite) → IsAcceptWrite a v w
    → records_after r w key.Round ≡ r key.Round
accept_leaves_round r a v None is = refl
accept_leaves_round r a v (Some w) is =
    elim (judged a v.ballot v.slot) [
      | refused p other ↦ (let none : Some w ≡ None = is.untaken (λ same. absurd (cc)) in absurd (cc))
      | behind floor other ↦ (let none : Some w ≡ None = is.untaken (λ same. absurd (cc)) in absurd (cc))
      | taken same high from ↦
          let written : Some w ≡ Some (Sets (key.Vote v.slot) (vote_bytes v)) =
          is.cast (record { taken = same; fresh = λ stands. let none = is.already stands in absurd (cc) }) in
          subst (λ (x : OptionalWrite). records_after r x key.Round ≡ r key.Round) (sym written)
          (elsewhere r (key.Vote v.slot) key.Round (Some (vote_bytes v)) (λ e. absurd (omega arith)))
    ]

-- a vote in its record whose ballot is not below the promise
pub RecordsSay-vote : (r : Records) (a : Accepting) (v : Vote Command) → VoteFitsRecord v → RecordsSay r a → rank_of a.promise ≤ rank v.ballot
    → RecordsSay (with_record r (key.Vote v.slot) (vote_bytes v)) (record a { promise = Some v.ballot; vote = put a.vote v.slot (Some v) })
RecordsSay-vote r a v fits says le =
    record {
      promised = says.promised;
      promise_record = elsewhere r (key.Vote v.slot) key.Promise _ (λ e. absurd (omega arith)) ∙ says.promise_record;
      vote_record = λ s. votes_say r a.vote v s (says.vote_record s);
      at_its_slot = λ s. IfSome-put a.vote v.slot s v (λ w. w.slot ≡ s) (λ e. sym e) (says.at_its_slot s);
      promise = record {
        not_below_the_record = let low = says.promise.not_below_the_record in omega arith;
        not_below_the_checkpoint = let low = says.promise.not_below_the_checkpoint in omega arith;
        not_below_a_vote = λ s. IfSome-put a.vote v.slot s v (λ w. rank w.ballot ≤ rank v.ballot) (λ e. omega arith)
            (IfSome_then (a.vote s) (says.promise.not_below_a_vote s) (λ w low. omega arith));
        among_them = inr (inr (v.slot, v, put_here a.vote v.slot v.slot (Some v) refl, refl));
      };
      checkpointed = says.checkpointed;
      checkpoint_record = elsewhere r (key.Vote v.slot) key.Checkpoint _ (λ e. absurd (omega arith)) ∙ says.checkpoint_record;
      floor = says.floor;
      sealed = says.sealed;
      text = says.text;
      checkpoint_fits = says.checkpoint_fits;
      promised_fits = says.promised_fits;
      votes_fit = λ s. IfSome-put a.vote v.slot s v VoteFitsRecord (λ e. fits) (says.votes_fit s);
    }

-- ---- records that are seen one after the other
pub unmapped : {A B : Type 0} (f : A → B) (o : Option A) → option_map f o ≡ None → o ≡ None
unmapped f (Some x) e = absurd cc
unmapped f None e = refl

pub none_unless : {X : Type 0} (o : Option X) → (IsSome o → ⊥) → o ≡ None
none_unless (Some x) h = absurd (h refl)
none_unless None h = refl

pub begun : (b : Ballot) → rank b ≤ 0 → ⊥
begun b low = let one : 1 ≤ b.round = b.begun in omega arith

absent : (r : Records) (k : Key) → r k ≡ None → (q : Key) → with_seen r k None q ≡ r q
absent r k fresh q =
    elim (eqb_tells (place q) (place k)) [
      | inl same ↦ rw same.0 (sym (ap r (same_key q k same.1) ∙ fresh))
      | inr apart ↦ rw apart.0 refl
    ]

-- a record that is not there says nothing
pub RecordsSay-none : (r : Records) (k : Key) (a : Accepting) → r k ≡ None → RecordsSay r a → RecordsSay (with_seen r k None) a
RecordsSay-none r k a fresh says = RecordsSay-same r (with_seen r k None) a (absent r k fresh) says

low_promise : (r : Records) (a : Accepting) (b : Ballot) → BallotFitsRecord b → r key.Promise ≡ None → RecordsSay r a → rank b ≤ rank_of a.promise
    → RecordsSay (with_record r key.Promise (ballot_bytes b)) a
low_promise r a b fits fresh says le =
    let none : says.promised ≡ None = unmapped ballot_bytes says.promised (sym says.promise_record ∙ fresh) in
    record {
      promised = Some b;
      promise_record = refl;
      vote_record = λ s. elsewhere r key.Promise (key.Vote s) _ (λ e. absurd (omega arith)) ∙ says.vote_record s;
      at_its_slot = says.at_its_slot;
      promise = record {
        not_below_the_record = le;
        not_below_the_checkpoint = says.promise.not_below_the_checkpoint;
        not_below_a_vote = says.promise.not_below_a_vote;
        among_them = elim says.promise.among_them [
          | inl e ↦ absurd (begun b (subst (λ (p : Option Ballot). rank b ≤ rank_of p) (e ∙ none) le))
          | inr w ↦ inr w
        ];
      };
      checkpointed = says.checkpointed;
      checkpoint_record = says.checkpoint_record;
      floor = says.floor;
      sealed = says.sealed;
      text = says.text;
      checkpoint_fits = says.checkpoint_fits;
      promised_fits = fits;
      votes_fit = says.votes_fit;
    }

other : (a : Accepting) (v : Vote Command) (s : ℕ) (w : Vote Command) → a.vote v.slot ≡ None → a.vote s ≡ Some w → s ≡ v.slot → ⊥
other a v s w none some e =
    let both : a.vote s ≡ None = ap a.vote e ∙ none in
    absurd cc

low_vote : (r : Records) (a : Accepting) (v : Vote Command) → VoteFitsRecord v → r (key.Vote v.slot) ≡ None → RecordsSay r a
    → rank v.ballot ≤ rank_of a.promise
    → RecordsSay (with_record r (key.Vote v.slot) (vote_bytes v)) (record a { vote = put a.vote v.slot (Some v) })
low_vote r a v fits fresh says le =
    let none : a.vote v.slot ≡ None = unmapped vote_bytes (a.vote v.slot)
    (sym (says.vote_record v.slot) ∙ fresh) in
    record {
      promised = says.promised;
      promise_record = elsewhere r (key.Vote v.slot) key.Promise _ (λ e. absurd (omega arith)) ∙ says.promise_record;
      vote_record = λ s. votes_say r a.vote v s (says.vote_record s);
      at_its_slot = λ s. IfSome-put a.vote v.slot s v (λ w. w.slot ≡ s) (λ e. sym e) (says.at_its_slot s);
      promise = record {
        not_below_the_record = says.promise.not_below_the_record;
        not_below_the_checkpoint = says.promise.not_below_the_checkpoint;
        not_below_a_vote = λ s. IfSome-put a.vote v.slot s v (λ w. rank w.ballot ≤ rank_of a.promise) (λ e. le)
            (says.promise.not_below_a_vote s);
        among_them = elim says.promise.among_them [
          | inl e ↦ inl e
          | inr (inl e) ↦ inr (inl e)
          | inr (inr w) ↦
              inr (inr (w.0, w.1, put_elsewhere a.vote v.slot w.0 (Some v) (λ e. other a v w.0 w.1 none w.2 e) ∙ w.2, w.3))
        ];
      };
      checkpointed = says.checkpointed;
      checkpoint_record = elsewhere r (key.Vote v.slot) key.Checkpoint _ (λ e. absurd (omega arith)) ∙ says.checkpoint_record;
      floor = says.floor;
      sealed = says.sealed;
      text = says.text;
      checkpoint_fits = says.checkpoint_fits;
      promised_fits = says.promised_fits;
      votes_fit = λ s. IfSome-put a.vote v.slot s v VoteFitsRecord (λ e. fits) (says.votes_fit s);
    }

-- record Promise is seen for the first time
pub RecordsSay-see_promise : (r : Records) (a : Accepting) (b : Ballot) → BallotFitsRecord b → r key.Promise ≡ None → RecordsSay r a
    → RecordsSay (with_seen r key.Promise (Some (ballot_bytes b))) (record a { promise = raised a.promise b })
RecordsSay-see_promise r a b fits fresh says =
    elim (raised_cases a.promise b) [
      | inl h ↦ subst (λ (p : Option Ballot). RecordsSay (with_record r key.Promise (ballot_bytes b)) (record a { promise = p })) (sym h.1)
          (RecordsSay-promise r a b fits says h.0)
      | inr h ↦ subst (λ (p : Option Ballot). RecordsSay (with_record r key.Promise (ballot_bytes b)) (record a { promise = p })) (sym h.1)
          (low_promise r a b fits fresh says h.0)
    ]

-- the record of a vote is seen for the first time
pub RecordsSay-see_vote : (r : Records) (a : Accepting) (v : Vote Command) → VoteFitsRecord v → r (key.Vote v.slot) ≡ None → RecordsSay r a
    → RecordsSay (with_seen r (key.Vote v.slot) (Some (vote_bytes v)))
    (record a { promise = raised a.promise v.ballot; vote = put a.vote v.slot (Some v) })
RecordsSay-see_vote r a v fits fresh says =
    let seen : Option Ballot → Type 0 = λ p. RecordsSay (with_record r (key.Vote v.slot) (vote_bytes v))
    (record a { promise = p; vote = put a.vote v.slot (Some v) }) in
    elim (raised_cases a.promise v.ballot) [
      | inl h ↦ subst seen (sym h.1) (RecordsSay-vote r a v fits says h.0)
      | inr h ↦ subst seen (sym h.1) (low_vote r a v fits fresh says h.0)
    ]

-- an acceptor that holds the same holds what the records say
pub RecordsSay-holds : (r : Records) (a b : Accepting) → b.promise ≡ a.promise → b.floor ≡ a.floor → b.sealed ≡ a.sealed
    → b.text ≡ a.text → ((s : ℕ) → b.vote s ≡ a.vote s) → RecordsSay r a → RecordsSay r b
RecordsSay-holds r a b p l c t v says =
    let same : a ≡ b = λ i. record { promise = sym p i; floor = sym l i; sealed = sym c i; text = sym t i; vote = λ s. sym (v s) i } in
    subst (λ (x : Accepting). RecordsSay r x) same says

-- no record, no promise and no vote
pub RecordsSay-nothing : RecordsSay no_records (record { promise = None; floor = 0; sealed = None; text = []; vote = λ _. None })
RecordsSay-nothing =
    record {
      promised = None;
      promise_record = refl;
      checkpointed = None;
      checkpoint_record = refl;
      vote_record = λ s. refl;
      at_its_slot = λ s. tt;
      promise = record {
        not_below_the_record = omega arith;
        not_below_the_checkpoint = omega arith;
        not_below_a_vote = λ s. tt;
        among_them = inl refl;
      };
      floor = refl;
      sealed = refl;
      text = refl;
      promised_fits = tt;
      checkpoint_fits = tt;
      votes_fit = λ s. tt;
    }

-- ---- records of their form
pub promise_of_its_form : (found : Option (List ℕ)) (bytes : List ℕ) (b : Ballot) → found ≡ Some bytes → BallotFitsRecord b
    → bytes ≡ ballot_bytes b
    → IfSome found (IsOfItsForm key.Promise)
promise_of_its_form found bytes b e fits spelled =
    subst (λ (o : Option (List ℕ)). IfSome o (IsOfItsForm key.Promise)) (sym e) (b, fits, spelled)

pub vote_of_its_form : (found : Option (List ℕ)) (slot : ℕ) (bytes : List ℕ) (v : Vote Command) → found ≡ Some bytes → VoteFitsRecord v
    → bytes ≡ vote_bytes v
    → IfSome found (IsOfItsForm (key.Vote slot))
vote_of_its_form found slot bytes v e fits spelled =
    subst (λ (o : Option (List ℕ)). IfSome o (IsOfItsForm (key.Vote slot))) (sym e) (v, fits, spelled)

-- ---- a prepare and an accept
pub same_promise : (p : Option Ballot) (b : Ballot) → rank b ≡ rank_of p → p ≡ Some b
same_promise None b e = absurd (begun b (omega arith))
same_promise (Some p) b e = ap Some (same_rank p b (sym e))

prepare_taken : (r : Records) (a : Accepting) (b : Ballot) → BallotFitsRecord b → RecordsSay r a → rank_of a.promise ≤ rank b
    → RecordsSay (records_after r (if rank b == rank_of a.promise then None else Some (Sets key.Promise (ballot_bytes b))))
    (record a { promise = Some b })
prepare_taken r a b fits says le =
    elim (eqb_tells (rank b) (rank_of a.promise)) [
      | inl same ↦ rw same.0 (subst (λ (p : Option Ballot). RecordsSay r (record a { promise = p })) (same_promise a.promise b same.1) says)
      | inr apart ↦ rw apart.0 (RecordsSay-promise r a b fits says le)
    ]

-- records that say what an acceptor holds say so after a prepare and its write
pub prepare_kept : (r : Records) (a : Accepting) (b : Ballot) (first : ℕ) → BallotFitsRecord b → RecordsSay r a
    → RecordsSay (records_after r (prepare_write a b first)) (after_prepare a b first)
prepare_kept r a b first fits says =
    elim (judged a b first) [
      | refused p is ↦ rw is says
      | behind floor is ↦ rw is says
      | taken is high from ↦ rw is (prepare_taken r a b fits says high)
    ]

-- a vote that stands there already raises the promise to its ballot
vote_stands : (r : Records) (a : Accepting) (v : Vote Command) → RecordsSay r a → rank_of a.promise ≤ rank v.ballot → a.vote v.slot ≡ Some v
    → RecordsSay r (record a { promise = Some v.ballot; vote = put a.vote v.slot (Some v) })
vote_stands r a v says le stands =
    let same : (s : ℕ) → put a.vote v.slot (Some v) s ≡ a.vote s = λ s.
    elim (eqb_tells s v.slot) [
      | inl e ↦ rw e.0 (sym (ap a.vote e.1 ∙ stands))
      | inr ne ↦ rw ne.0 refl
    ] in
    RecordsSay-holds r (record a { promise = Some v.ballot })
    (record a { promise = Some v.ballot; vote = put a.vote v.slot (Some v) }) refl refl refl refl same
    (record {
      promised = says.promised;
      promise_record = says.promise_record;
      vote_record = says.vote_record;
      at_its_slot = says.at_its_slot;
      promise = record {
        not_below_the_record = let low = says.promise.not_below_the_record in omega arith;
        not_below_the_checkpoint = let low = says.promise.not_below_the_checkpoint in omega arith;
        not_below_a_vote = λ s. IfSome_then (a.vote s) (says.promise.not_below_a_vote s) (λ w low. omega arith);
        among_them = inr (inr (v.slot, v, stands, refl));
      };
      checkpointed = says.checkpointed;
      checkpoint_record = says.checkpoint_record;
      floor = says.floor;
      sealed = says.sealed;
      text = says.text;
      checkpoint_fits = says.checkpoint_fits;
      promised_fits = says.promised_fits;
      votes_fit = says.votes_fit;
    })

accept_taken : (r : Records) (a : Accepting) (v : Vote Command) (w : OptionalWrite) → VoteFitsRecord v → IsAcceptWrite a v w → RecordsSay r a
    → verdict a v.ballot v.slot ≡ Taken
    → rank_of a.promise ≤ rank v.ballot → RecordsSay (records_after r w)
    (record a { promise = Some v.ballot; vote = put a.vote v.slot (Some v) })
accept_taken r a v None fits is says same high =
    elim (is.nothing refl) [
      | inl other ↦ absurd (other same)
      | inr stands ↦ vote_stands r a v says high stands
    ]
accept_taken r a v (Some w) fits is says same high =
    let written : Some w ≡ Some (Sets (key.Vote v.slot) (vote_bytes v)) =
    is.cast (record { taken = same; fresh = λ stands. let none = is.already stands in absurd (cc) }) in
    subst (λ (x : OptionalWrite). RecordsSay (records_after r x) (record a { promise = Some v.ballot; vote = put a.vote v.slot (Some v) }))
    (sym written)
    (RecordsSay-vote r a v fits says high)

-- records that say what an acceptor holds say so after an accept and its write
pub accept_kept : (r : Records) (a : Accepting) (v : Vote Command) (w : OptionalWrite) → VoteFitsRecord v → IsAcceptWrite a v w → RecordsSay r a
    → RecordsSay (records_after r w) (after_accept a v)
accept_kept r a v w fits is says =
    elim (judged a v.ballot v.slot) [
      | refused p other ↦
          let none : w ≡ None = is.untaken (λ same. absurd (cc)) in
          rw other (subst (λ (x : OptionalWrite). RecordsSay (records_after r x) a) (sym none) says)
      | behind floor other ↦
          let none : w ≡ None = is.untaken (λ same. absurd (cc)) in
          rw other (subst (λ (x : OptionalWrite). RecordsSay (records_after r x) a) (sym none) says)
      | taken same high from ↦ rw same (accept_taken r a v w fits is says same high)
    ]
