use mathlib.Core.Path.{fun_ext}
use Rattle.std.proofs.Common.{rules, ◌≡◌, ◌∙◌, ◌≤◌, ℕ, Option, None, Some, inl, inr, refl, sym, ap, arith}
use Rattle.std.proofs.lemmas.Bool.Decides.{eqb_tells}
use Rattle.synod.specs.Ballots.{rank, rank_of}
use Rattle.synod.specs.declared.ballot.Ballot.{Ballot}
use Rattle.synod.specs.declared.vote.Vote.{Vote}
use Rattle.sessions.specs.declared.command.Command.{Command}
use Rattle.stable.specs.declared.key.Key.TheVariants as key
use Rattle.stable.specs.Records.{Sets}
use Rattle.stable.proofs.FaultLemmas.{no_fault}
use Rattle.acceptor.specs.Accepting.{Taken, put, verdict, turned_away}
use Rattle.acceptor.specs.Spelling.{vote_bytes}
use Rattle.acceptor.specs.State.{accepting_of}
use Rattle.acceptor.proofs.VerdictLemmas.{taken_is_above, taken_unless_away, untaken_away, same_after_accept}
use Rattle.acceptor.proofs.VoteLemmas.{cast_write, no_write, untaken_write}
use Rattle.acceptor.proofs.acceptor.Acceptor.on_accept.Goals as goal
use Rattle.acceptor.proofs.acceptor.Acceptor.on_accept.Goals.{then-not-has+in_ok-record_vote, else-not-has}

-- the device failed on the write of the vote
pub returns-in_err-record_vote-clause-device : goal.returns-in_err-record_vote-clause-device
returns-in_err-record_vote-clause-device g c = λ device.
    let a = accepting_of c.args.self.now in
    let vote = c.args.vote in
    let taken : verdict a vote.ballot vote.slot ≡ Taken =
    taken_unless_away (verdict a vote.ballot vote.slot) vote.ballot (sym c.in_default.ensures) in (
      Some (Sets (key.Vote vote.slot) (vote_bytes vote)),
      cast_write a vote taken (λ told. let has = c.has.ensures.1 told in search rules),
      search rules,
    )

-- the vote is cast, or stood there already
stands_already : (f : ℕ → Option (Vote Command)) (slot : ℕ) (v : Vote Command) → f slot ≡ Some v → (s : ℕ) → f s ≡ put f slot (Some v) s
stands_already f slot v here s = elim (eqb_tells s slot) [
  | inl same ↦ rw same.0 (ap f same.1 ∙ here)
  | inr apart ↦ rw apart.0 refl
]

pub returns-clause-state : goal.returns-clause-state
returns-clause-state g c =
    let a = accepting_of c.args.self.now in
    let vote = c.args.vote in
    let taken : verdict a vote.ballot vote.slot ≡ Taken =
    taken_unless_away (verdict a vote.ballot vote.slot) vote.ballot (sym c.in_default.ensures) in
    elim c.if-not-has.branch [
      | then-not-has+in_ok-record_vote w ↦ rw (taken, w.self-is)
          (ap (λ (f : ℕ → Option (Vote Command)). record a { promise = Some vote.ballot; vote = f }) (fun_ext w.in_ok-record_vote.ensures.votes))
      | else-not-has w ↦ rw (taken, w.self-is)
          (ap (λ (f : ℕ → Option (Vote Command)). record a { promise = Some vote.ballot; vote = f })
          (fun_ext (stands_already a.vote vote.slot vote (c.has.ensures.0 (search rules)))))
    ]

-- the vote was written, or stood there already
pub returns-clause-written : goal.returns-clause-written
returns-clause-written g c =
    let a = accepting_of c.args.self.now in
    let vote = c.args.vote in
    let taken : verdict a vote.ballot vote.slot ≡ Taken =
    taken_unless_away (verdict a vote.ballot vote.slot) vote.ballot (sym c.in_default.ensures) in
    elim c.if-not-has.branch [
      | then-not-has+in_ok-record_vote w ↦ (
        Some (Sets (key.Vote vote.slot) (vote_bytes vote)),
        cast_write a vote taken (λ told. let has = c.has.ensures.1 told in search rules),
        search rules,
      )
      | else-not-has w ↦ (None, no_write a vote (c.has.ensures.0 (search rules)), search rules)
    ]

-- what isn't taken is answered without a write
pub returns-in-Some : goal.returns-in-Some
returns-in-Some g c =
    let a = accepting_of c.args.self.now in
    let vote = c.args.vote in
    let away : turned_away (verdict a vote.ballot vote.slot) vote.ballot ≡ Some c.in-Some.answer = sym c.in-Some.ensures in
    let not = untaken_away (verdict a vote.ballot vote.slot) vote.ballot c.in-Some.answer away in record {
      answer = rw away refl;
      state = sym (same_after_accept a vote not);
      written = (None, untaken_write a vote not, g.met.S.Stable.laws.reads_none _);
      fits = λ new. absurd (not new.taken);
      fresh = tt;
      device = λ is. absurd (no_fault _ _ is);
      device_fits = λ is. absurd (no_fault _ _ is);
      memory = λ is. absurd (no_fault _ _ is);
      err_state = tt;
      not_damaged = λ is. no_fault _ _ is;
    }

-- no vote is of a ballot above one that is promised anew
module _ (f : ℕ → Option (Vote Command)) (p : Option Ballot) (up_to : (s : ℕ) (v : Vote Command) → f s ≡ Some v → rank v.ballot ≤ rank_of p)
    (x : Vote Command) (above : rank_of p ≤ rank x.ballot) where
  old_bounded : (s : ℕ) (v : Vote Command) → f s ≡ Some v → rank v.ballot ≤ rank x.ballot
  old_bounded s v held = omega (arith, up_to s v held, above)

  cast_bounded : (g : ℕ → Option (Vote Command)) → ((s : ℕ) → g s ≡ put f x.slot (Some x) s) → (s : ℕ) (v : Vote Command) → g s ≡ Some v
      → rank v.ballot ≤ rank x.ballot
  cast_bounded g there s v held =
      elim (eqb_tells s x.slot) [
        | inl same ↦ let is : Some x ≡ Some v = rw same.0 at (sym (there s)) ∙ held in let one : x ≡ v = cc in rw one (omega arith)
        | inr apart ↦ old_bounded s v (rw apart.0 at (sym (there s)) ∙ held)
      ]

pub invariant_of-self-2 : goal.invariant_of-self-2
invariant_of-self-2 g c = record {
  bounded = λ s v held.
      let before = c.args.self.now.bounded in
      let a = accepting_of c.args.self.now in
      let vote = c.args.vote in
      let taken = taken_unless_away (verdict a vote.ballot vote.slot) vote.ballot (sym c.in_default.ensures) in
      let above = taken_is_above a vote.ballot vote.slot taken in
      elim c.if-not-has.branch [
        | then-not-has+in_ok-record_vote w ↦
            cast_bounded _ _ before vote above _ w.in_ok-record_vote.ensures.votes s v (rw w.self-is at held)
        | else-not-has w ↦ old_bounded _ _ before vote above s v (rw w.self-is at held)
      ];
  in_log = c.args.self.now.in_log;
}

pub invariant_of-self : goal.invariant_of-self
invariant_of-self g c = record {
  bounded = λ s v held. c.args.self.now.bounded s v (sym (c.in_err-record_vote.ensures.unchanged s) ∙ held);
  in_log = c.args.self.now.in_log;
}
