-- Records say one thing: no two votes, and no two checkpoints, that fit are spelled alike.
use Rattle.std.proofs.Common.{◌≡◌, ℕ, ◌≤◌, List, [], ◌++◌, Ok, Option, Some, None, IfSome, option_map, inl, inr, refl, sym, ap, ◌∙◌, subst}
use Rattle.std.proofs.Common.{arith}
use Rattle.synod.specs.Ballots.{rank, rank_of}
use Rattle.synod.specs.declared.ballot.Ballot.{Ballot}
use Rattle.synod.specs.declared.vote.Vote.{Vote}
use Rattle.sessions.specs.declared.command.Command.{Command}
use Rattle.stable.specs.Records.{Records}
use Rattle.wire.specs.Reading.{ballot_at}
use Rattle.wire.specs.RecordForms.{IsVoteRecord, choice_at, Checkpointed, checkpoint_bytes}
use Rattle.wire.proofs.BallotLaws.{ballot_again}
use Rattle.wire.proofs.RecordLaws.{record_is_choice}
use Rattle.acceptor.specs.Accepting.{Accepting, RecordsSay, IsGreatest, floor_of, sealed_of, text_of}
use Rattle.acceptor.specs.Forms.{BallotFitsRecord, CheckpointFits, VoteFitsRecord}
use Rattle.acceptor.specs.Spelling.{ballot_bytes, vote_bytes}
use Rattle.acceptor.proofs.CheckpointLemmas.{one_that_fits}

-- ballots that fit and are spelled alike
one_ballot : (a b : Ballot) → BallotFitsRecord a → BallotFitsRecord b → ballot_bytes a ≡ ballot_bytes b → a ≡ b
one_ballot a b fits_a fits_b e =
    let read_a : ballot_at 7 (ballot_bytes a ++ []) ≡ Ok (a, []) = ballot_again 7 a [] fits_a in
    let read_b : ballot_at 7 (ballot_bytes b ++ []) ≡ Ok (b, []) = ballot_again 7 b [] fits_b in
    let read = sym read_a ∙ ap (λ (xs : List ℕ). ballot_at 7 (xs ++ [])) e ∙ read_b in
    let same : (a, []) ≡ (b, []) = cc in
    ap (λ (p : Ballot × List ℕ). p.0) same

-- the record of a vote that fits
vote_record : (v : Vote Command) → VoteFitsRecord v → IsVoteRecord (vote_bytes v) v.ballot v.command
vote_record v fits = record { ballot = fits.ballot; command = fits.command; spelled = refl }

-- votes that fit, at one slot, and are spelled alike
pub one_vote : (a b : Vote Command) → VoteFitsRecord a → VoteFitsRecord b → a.slot ≡ b.slot → vote_bytes a ≡ vote_bytes b → a ≡ b
one_vote a b fits_a fits_b slot e =
    let read_a : choice_at (vote_bytes a) ≡ Ok ((a.ballot, a.command), []) =
    record_is_choice (vote_bytes a) a.ballot a.command (vote_record a fits_a) in
    let read_b : choice_at (vote_bytes b) ≡ Ok ((b.ballot, b.command), []) =
    record_is_choice (vote_bytes b) b.ballot b.command (vote_record b fits_b) in
    let read = sym read_a ∙ ap choice_at e ∙ read_b in
    let same : ((a.ballot, a.command), []) ≡ ((b.ballot, b.command), []) = cc in
    let ballot : a.ballot ≡ b.ballot = ap (λ (p : (Ballot × Command) × List ℕ). p.0.0) same in
    let command : a.command ≡ b.command = ap (λ (p : (Ballot × Command) × List ℕ). p.0.1) same in
    λ i. record { slot = slot i; ballot = ballot i; command = command i }

one_vote_at : (s : ℕ) (x y : Option (Vote Command)) → IfSome x (λ v. v.slot ≡ s) → IfSome y (λ v. v.slot ≡ s) → IfSome x VoteFitsRecord
    → IfSome y VoteFitsRecord
    → option_map vote_bytes x ≡ option_map vote_bytes y → x ≡ y
one_vote_at s None None at_x at_y fits_x fits_y e = refl
one_vote_at s None (Some v) at_x at_y fits_x fits_y e = absurd cc
one_vote_at s (Some v) None at_x at_y fits_x fits_y e = absurd cc
one_vote_at s (Some v) (Some w) at_x at_y fits_x fits_y e =
    let bytes : vote_bytes v ≡ vote_bytes w = cc in
    ap Some (one_vote v w fits_x fits_y (at_x ∙ sym at_y) bytes)

one_promise_record : (x y : Option Ballot) → IfSome x BallotFitsRecord → IfSome y BallotFitsRecord
    → option_map ballot_bytes x ≡ option_map ballot_bytes y → x ≡ y
one_promise_record None None fits_x fits_y e = refl
one_promise_record None (Some b) fits_x fits_y e = absurd cc
one_promise_record (Some a) None fits_x fits_y e = absurd cc
one_promise_record (Some a) (Some b) fits_x fits_y e =
    let bytes : ballot_bytes a ≡ ballot_bytes b = cc in
    ap Some (one_ballot a b fits_x fits_y bytes)

one_checkpoint_record : (x y : Option Checkpointed) → IfSome x CheckpointFits → IfSome y CheckpointFits
    → option_map checkpoint_bytes x ≡ option_map checkpoint_bytes y → x ≡ y
one_checkpoint_record None None fits_x fits_y e = refl
one_checkpoint_record None (Some d) fits_x fits_y e = absurd cc
one_checkpoint_record (Some c) None fits_x fits_y e = absurd cc
one_checkpoint_record (Some c) (Some d) fits_x fits_y e =
    let bytes : checkpoint_bytes c ≡ checkpoint_bytes d = cc in
    ap Some (one_that_fits (checkpoint_bytes c) c d fits_x fits_y refl bytes)

module _ (records : Records) (a b : Accepting) (says_a : RecordsSay records a) (says_b : RecordsSay records b) where
  same_checkpoint : says_a.checkpointed ≡ says_b.checkpointed
  same_checkpoint = one_checkpoint_record says_a.checkpointed says_b.checkpointed says_a.checkpoint_fits says_b.checkpoint_fits
      (sym says_a.checkpoint_record ∙ says_b.checkpoint_record)

  pub one_floor : a.floor ≡ b.floor
  one_floor = says_a.floor ∙ ap floor_of same_checkpoint ∙ sym says_b.floor

  pub one_sealed : a.sealed ≡ b.sealed
  one_sealed = says_a.sealed ∙ ap sealed_of same_checkpoint ∙ sym says_b.sealed

  pub one_text : a.text ≡ b.text
  one_text = says_a.text ∙ ap text_of same_checkpoint ∙ sym says_b.text

  pub one_vote_each : (s : ℕ) → a.vote s ≡ b.vote s
  one_vote_each s =
      one_vote_at s (a.vote s) (b.vote s) (says_a.at_its_slot s) (says_b.at_its_slot s) (says_a.votes_fit s) (says_b.votes_fit s)
      (sym (says_a.vote_record s) ∙ says_b.vote_record s)

  one_record : says_a.promised ≡ says_b.promised
  one_record = one_promise_record says_a.promised says_b.promised says_a.promised_fits says_b.promised_fits
      (sym says_a.promise_record ∙ says_b.promise_record)

-- the greatest is not above another
at_most : (promised sealed : Option Ballot) (vote : ℕ → Option (Vote Command)) (p q : Option Ballot)
    → IsGreatest promised sealed vote p → rank_of promised ≤ rank_of q → rank_of sealed ≤ rank_of q
    → ((s : ℕ) → IfSome (vote s) (λ v. rank v.ballot ≤ rank_of q)) → rank_of p ≤ rank_of q
at_most promised sealed vote p q greatest record_low sealed_low votes_low =
    elim greatest.among_them [
      | inl e ↦ subst (λ (x : Option Ballot). rank_of x ≤ rank_of q) (sym e) record_low
      | inr (inl e) ↦ subst (λ (x : Option Ballot). rank_of x ≤ rank_of q) (sym e) sealed_low
      | inr (inr w) ↦
          let low : IfSome (Some w.1) (λ (v : Vote Command). rank v.ballot ≤ rank_of q) = rw w.2 at (votes_low w.0) in
          subst (λ (x : Option Ballot). rank_of x ≤ rank_of q) (sym w.3) low
    ]

not_above : (records : Records) (a b : Accepting) (says_a : RecordsSay records a) (says_b : RecordsSay records b)
    → rank_of a.promise ≤ rank_of b.promise
not_above records a b says_a says_b =
    at_most says_a.promised a.sealed a.vote a.promise b.promise says_a.promise
    (subst (λ (x : Option Ballot). rank_of x ≤ rank_of b.promise)
    (sym (one_record records a b says_a says_b)) says_b.promise.not_below_the_record)
    (subst (λ (x : Option Ballot). rank_of x ≤ rank_of b.promise)
    (sym (one_sealed records a b says_a says_b)) says_b.promise.not_below_the_checkpoint)
    (λ s. subst (λ (x : Option (Vote Command)). IfSome x (λ v. rank v.ballot ≤ rank_of b.promise))
    (sym (one_vote_each records a b says_a says_b s)) (says_b.promise.not_below_a_vote s))

pub one_promise : (records : Records) (a b : Accepting) (says_a : RecordsSay records a) (says_b : RecordsSay records b)
    → rank_of a.promise ≡ rank_of b.promise
one_promise records a b says_a says_b = omega (arith, not_above records a b says_a says_b, not_above records b a says_b says_a)
