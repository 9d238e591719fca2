use Rattle.std.proofs.Common.{◌≡◌, ◌==◌, Some, Bool, true, false, not, inl, inr, refl, sym}
use Rattle.std.proofs.Common.{rules, arith}
use Rattle.std.proofs.lemmas.Result.{err_from_is_err_and}
use Rattle.synod.specs.Ballots.{rank, rank_of}
use Rattle.stable.specs.declared.key.Key.TheVariants as key
use Rattle.stable.specs.Records.{Sets}
use Rattle.stable.proofs.FaultLemmas.{handed_on, no_fault}
use Rattle.acceptor.specs.Accepting.{Taken, verdict, turned_away, prepare_write}
use Rattle.acceptor.specs.Spelling.{ballot_bytes}
use Rattle.acceptor.specs.State.{accepting_of}
use Rattle.acceptor.proofs.VerdictLemmas.{taken_is_above, taken_from_the_floor, taken_unless_away, untaken_away}
use Rattle.acceptor.proofs.VerdictLemmas.{no_prepare_write, same_after_prepare}
use Rattle.acceptor.proofs.acceptor.Acceptor.on_prepare.Goals as goal
use Rattle.acceptor.proofs.acceptor.Acceptor.on_prepare.Goals.{then-ne+in_ok-write_promise, else-ne}

turned : (b c : Bool) → b ≡ not c → c ≡ not b
turned b true is = rw is refl
turned b false is = rw is refl

-- no vote is of a ballot above the one that is promised now
pub invariant_of-self : goal.invariant_of-self
invariant_of-self g c = record {
  bounded = λ s v held.
      let a = accepting_of c.args.self.now in
      let taken = taken_unless_away (verdict a c.args.ballot c.args.first) c.args.ballot (sym c.in_default.ensures) in
      let above = taken_is_above a c.args.ballot c.args.first taken in
      let below = c.args.self.now.bounded s v held in
      omega arith;
  in_log = c.args.self.now.in_log;
}

-- it is taken, so the votes are told
pub returns : goal.returns
returns g c =
    let a = accepting_of c.args.self.now in
    let taken : verdict a c.args.ballot c.args.first ≡ Taken =
    taken_unless_away (verdict a c.args.ballot c.args.first) c.args.ballot (sym c.in_default.ensures) in record {
      answer = rw taken (record {
        promise = c.in_ok-promise.promise;
        is = refl;
        from_the_floor = taken_from_the_floor a c.args.ballot c.args.first taken;
        tells = c.in_ok-promise.ensures.tells;
      });
      state = rw taken refl;
      written = elim c.if-ne.branch [
        | then-ne+in_ok-write_promise w ↦
            let other : true ≡ not (rank c.args.ballot == rank_of a.promise) = search rules in
            rw (taken, turned _ _ other, w.storage-is) w.in_ok-write_promise.ensures.written
        | else-ne w ↦
            let same : false ≡ not (rank c.args.ballot == rank_of a.promise) = search rules in
            rw (taken, turned _ _ same, w.storage-is) (g.met.S.Stable.laws.reads_none _)
      ];
      taken = tt;
      wanted = tt;
      device = λ is. absurd (no_fault _ _ is);
      memory = λ is. absurd (no_fault _ _ is);
      err_state = tt;
      not_damaged = λ is. no_fault _ _ is;
    }

-- what isn't taken is answered without a write
pub returns-in-Some : goal.returns-in-Some
returns-in-Some g c =
    let a = accepting_of c.args.self.now in
    let away : turned_away (verdict a c.args.ballot c.args.first) c.args.ballot ≡ Some c.in-Some.answer = sym c.in-Some.ensures in
    let not = untaken_away (verdict a c.args.ballot c.args.first) c.args.ballot c.in-Some.answer away in record {
      answer = rw away refl;
      state = sym (same_after_prepare a c.args.ballot c.args.first not);
      written = rw (no_prepare_write a c.args.ballot c.args.first not) (g.met.S.Stable.laws.reads_none _);
      taken = tt;
      wanted = tt;
      device = λ is. absurd (no_fault _ _ is);
      memory = λ is. absurd (no_fault _ _ is);
      err_state = tt;
      not_damaged = λ is. no_fault _ _ is;
    }

-- memory is wanting where a vote is to be told
pub returns-in_err-promise : goal.returns-in_err-promise
returns-in_err-promise g c =
    let a = accepting_of c.args.self.now in
    let taken : verdict a c.args.ballot c.args.first ≡ Taken =
    taken_unless_away (verdict a c.args.ballot c.args.first) c.args.ballot (sym c.in_default.ensures) in
    let exit = err_from_is_err_and c.from_residual.result c.from_residual.ensures.1 in
    rw (exit.1, exit.2) (record {
      answer = tt;
      state = tt;
      written = tt;
      taken = taken;
      wanted = inl c.in_err-promise.ensures.stands;
      device = λ is. absurd (cc);
      memory = λ _. g.met.S.Stable.laws.reads_none _;
      err_state = refl;
      not_damaged = λ is. absurd (cc);
    })

-- the write failed
pub returns-in_err-write_promise : goal.returns-in_err-write_promise
returns-in_err-write_promise g c =
    let exit = err_from_is_err_and c.from_residual-in_err-write_promise.result c.from_residual-in_err-write_promise.ensures.1 in
    let a = accepting_of c.args.self.now in
    let taken : verdict a c.args.ballot c.args.first ≡ Taken =
    taken_unless_away (verdict a c.args.ballot c.args.first) c.args.ballot (sym c.in_default.ensures) in
    let other : true ≡ not (rank c.args.ballot == rank_of a.promise) = search rules in
    let write : prepare_write a c.args.ballot c.args.first ≡ Some (Sets key.Promise (ballot_bytes c.args.ballot)) = rw (taken, turned _ _ other) refl in
    rw (exit.1, exit.2) (record {
      answer = tt;
      state = tt;
      written = tt;
      taken = taken;
      wanted = inr (rw write refl);
      device = λ is. rw write (c.in_err-write_promise.ensures.device (handed_on _ _ is));
      memory = λ is. c.in_err-write_promise.ensures.memory (handed_on _ _ is);
      err_state = refl;
      not_damaged = λ is. c.in_err-write_promise.ensures.not_damaged (handed_on _ _ is);
    })
